use Rattle.std.proofs.Common.{◌≡◌, ◌∙◌, ◌==◌, ◌||◌, ℕ, arith, cond, ap, ap₂, length, sym}
use Rattle.acl_names.specs.Bits.{has}
use Rattle.acl_nfs4.specs.Ace.{Nfsace4, decides}
use Rattle.acl_nfs4.specs.ModeChange.{kept_mask}
use Rattle.acl_nfs4.specs.declared.ace.AceType.{AceType}
use Rattle.acl_nfs4.proofs.ModeChangeKept.{effective_part, reduced}
use Rattle.acl_nfs4.proofs.ModeChangeParts.{kept_of-parts, kept_of-rest, kept_of-stays}
use Rattle.acl_posix.specs.Perms.{bits_of}
use Rattle.acl_wire.proofs.PartsLemmas.{unless-length}
use Rattle.acl_wire.proofs.mode_change.kept_len_of.Goals as goal

pub returns-then-not-decides-clause-value : goal.returns-then-not-decides-clause-value
returns-then-not-decides-clause-value c =
    let ace : Nfsace4 = c.args.ace.now in
    let flags : c.from-flags.result ≡ ace.flags = c.from-flags.ensures ∙ c.bits.ensures tt ∙ c.flags.ensures.value in
    let d = sym (c.decides.ensures ace.who ace.mask ∙ ap₂ (λ (k : AceType) (f : ℕ). decides (record { kind = k; flags = f; who = ace.who; mask = ace.mask })) c.kind.ensures flags) ∙ c.if-not-decides.true in
    sym (ap length (kept_of-stays (bits_of c.args.group) ace d))

pub returns-then-is_inheritable-clause-value : goal.returns-then-is_inheritable-clause-value
returns-then-is_inheritable-clause-value c =
    let ace : Nfsace4 = c.args.ace.now in
    let group = bits_of c.args.group in
    let flags : c.from-flags.result ≡ ace.flags = c.from-flags.ensures ∙ c.bits.ensures tt ∙ c.flags.ensures.value in
    let d = sym (c.decides.ensures ace.who ace.mask ∙ ap₂ (λ (k : AceType) (f : ℕ). decides (record { kind = k; flags = f; who = ace.who; mask = ace.mask })) c.kind.ensures flags) ∙ c.if-not-decides.false in
    let i = sym (c.is_inheritable.ensures ∙ ap (λ (f : ℕ). has f 0 || has f 1) flags) ∙ c.if-is_inheritable.true in
    let mask = c.kept_mask.ensures ace.flags ∙ ap (λ (m : ℕ). kept_mask group (record ace { mask = m })) (c.bits-2.ensures tt ∙ c.mask.ensures.value) in
    let rest = c.count_of-rest.ensures.value ∙ ap (λ (m : ℕ). cond (m == 0) 0 1) mask ∙ sym (unless-length (effective_part group ace)) in
    omega (arith, rest, ap length (kept_of-parts group ace d i))

pub returns-else-is_inheritable-clause-value : goal.returns-else-is_inheritable-clause-value
returns-else-is_inheritable-clause-value c =
    let ace : Nfsace4 = c.args.ace.now in
    let group = bits_of c.args.group in
    let flags : c.from-flags.result ≡ ace.flags = c.from-flags.ensures ∙ c.bits.ensures tt ∙ c.flags.ensures.value in
    let d = sym (c.decides.ensures ace.who ace.mask ∙ ap₂ (λ (k : AceType) (f : ℕ). decides (record { kind = k; flags = f; who = ace.who; mask = ace.mask })) c.kind.ensures flags) ∙ c.if-not-decides.false in
    let i = sym (c.is_inheritable.ensures ∙ ap (λ (f : ℕ). has f 0 || has f 1) flags) ∙ c.if-is_inheritable.false in
    let mask = c.kept_mask.ensures ace.flags ∙ ap (λ (m : ℕ). kept_mask group (record ace { mask = m })) (c.bits-2.ensures tt ∙ c.mask.ensures.value) in
    c.count_of-rest.ensures.value ∙ ap (λ (m : ℕ). cond (m == 0) 0 1) mask ∙ sym (unless-length (reduced group ace)) ∙ sym (ap length (kept_of-rest group ace d i))
