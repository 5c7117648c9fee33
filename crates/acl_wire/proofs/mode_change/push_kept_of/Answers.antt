use Rattle.std.proofs.Common.{◌≡◌, ◌∙◌, ◌<◌, ◌++◌, ◌∷◌, [], List, OnErr, OnOk, append_assoc, ap, length, refl, sym, subst}
use Rattle.acl_names.specs.Bits.{without, ◌∪◌}
use Rattle.acl_nfs4.specs.ModeChange.{kept_of_entry}
use Rattle.acl_nfs4.proofs.ListLemmas.{OnErr-from}
use Rattle.acl_posix.specs.Perms.{bits_of}
use Rattle.acl_wire.specs.Kept.{kept_ace, raw_unless_empty}
use Rattle.acl_wire.specs.RawAcesWriting.{raws_of}
use Rattle.acl_wire.specs.declared.raw_ace.RawAce.{RawAce}
use Rattle.acl_wire.proofs.PartsLemmas.{decided, inherits, longer, parts, rest, stays}
use Rattle.acl_wire.proofs.mode_change.push_kept_of.Given.{Over}
use Rattle.acl_wire.proofs.mode_change.push_kept_of.Goals as goal
use Rattle.acl_wire.proofs.mode_change.push_kept_of.Goals.{After-push, After-push_unless_empty, After-push_unless_empty-2}

alone : (g : Over) (c : After-push g) → c.kept_raw-kept.result ∷ [] ≡ raws_of (kept_of_entry (bits_of c.args.group) (kept_ace c.args.raw.now c.args.ace.now))
alone g c =
    let d = sym (decided c.args.raw.now c.args.ace.now (bits_of c.args.group) c.kept_raw-kept.result c.kept_raw-kept.ensures c.kind.result c.decides.result c.decides.ensures c.kind.ensures) ∙ c.if-not-decides.true in
    stays c.args.raw.now c.args.ace.now (bits_of c.args.group) c.kept_raw-kept.result c.kept_raw-kept.ensures d

pub returns-then-not-decides-clause-ok : goal.returns-then-not-decides-clause-ok
returns-then-not-decides-clause-ok g c =
    subst (λ (these : List RawAce). OnOk c.push.result (c.push.new.draft.items ≡ c.args.draft.now.items ++ these)) (alone g c) c.push.ensures.ok

pub returns-then-not-decides-clause-full : goal.returns-then-not-decides-clause-full
returns-then-not-decides-clause-full g c =
    subst (λ (these : List RawAce). OnErr c.push.result (g.row.N < length (c.args.draft.now.items ++ these))) (alone g c) c.push.ensures.full

pub returns-in_err-push-clause-full : goal.returns-in_err-push-clause-full
returns-in_err-push-clause-full g c =
    let kept : RawAce = c.kept_raw-kept.result in
    let e = c.kept_raw-kept.ensures in
    let raw = c.args.raw.now in
    let ace = c.args.ace.now in
    let group = bits_of c.args.group in
    let d = sym (decided raw ace group kept e c.kind.result c.decides.result c.decides.ensures c.kind.ensures) ∙ c.if-not-decides.false in
    let i = sym (inherits raw ace group kept e c.is_inheritable.result c.is_inheritable.ensures) ∙ c.if-is_inheritable.true in
    let all = parts raw ace group kept e c.kept_mask-mask.result c.kept_mask-mask.ensures (without kept.flags 15) refl d i in
    OnErr-from c.from_residual.result
    (longer g.row.N c.args.draft.now.items (record kept { flags = kept.flags ∪ 8 } ∷ []) (raw_unless_empty (record kept { flags = without kept.flags 15; mask = c.kept_mask-mask.result }))
    (c.args.draft.now.items ++ raws_of (kept_of_entry group (kept_ace raw ace)))
    (ap (λ (these : List RawAce). c.args.draft.now.items ++ these) all) c.in_err-push.ensures.full)

both : (g : Over) (c : After-push_unless_empty g) → c.push-then-is_inheritable.new.draft.items ++ raw_unless_empty (record c.kept_raw-kept.result { flags = c.without_bits-flags.result; mask = c.kept_mask-mask.result })
    ≡ c.args.draft.now.items ++ raws_of (kept_of_entry (bits_of c.args.group) (kept_ace c.args.raw.now c.args.ace.now))
both g c =
    let kept : RawAce = c.kept_raw-kept.result in
    let e = c.kept_raw-kept.ensures in
    let raw = c.args.raw.now in
    let ace = c.args.ace.now in
    let group = bits_of c.args.group in
    let d = sym (decided raw ace group kept e c.kind.result c.decides.result c.decides.ensures c.kind.ensures) ∙ c.if-not-decides.false in
    let i = sym (inherits raw ace group kept e c.is_inheritable.result c.is_inheritable.ensures) ∙ c.if-is_inheritable.true in
    let all = parts raw ace group kept e c.kept_mask-mask.result c.kept_mask-mask.ensures c.without_bits-flags.result c.without_bits-flags.ensures d i in
    let second : List RawAce = raw_unless_empty (record kept { flags = c.without_bits-flags.result; mask = c.kept_mask-mask.result }) in
    ap (λ (these : List RawAce). these ++ second) c.in_ok-push.ensures.ok
    ∙ append_assoc c.args.draft.now.items (record kept { flags = kept.flags ∪ 8 } ∷ []) second
    ∙ ap (λ (these : List RawAce). c.args.draft.now.items ++ these) all

pub returns-then-is_inheritable-clause-ok : goal.returns-then-is_inheritable-clause-ok
returns-then-is_inheritable-clause-ok g c =
    subst (λ (all : List RawAce). OnOk c.push_unless_empty.result (c.push_unless_empty.new.draft.items ≡ all)) (both g c) c.push_unless_empty.ensures.ok

pub returns-then-is_inheritable-clause-full : goal.returns-then-is_inheritable-clause-full
returns-then-is_inheritable-clause-full g c =
    subst (λ (all : List RawAce). OnErr c.push_unless_empty.result (g.row.N < length all)) (both g c) c.push_unless_empty.ensures.full

kept_rest : (g : Over) (c : After-push_unless_empty-2 g) → raw_unless_empty (record c.kept_raw-kept.result { mask = c.kept_mask-mask.result })
    ≡ raws_of (kept_of_entry (bits_of c.args.group) (kept_ace c.args.raw.now c.args.ace.now))
kept_rest g c =
    let d = sym (decided c.args.raw.now c.args.ace.now (bits_of c.args.group) c.kept_raw-kept.result c.kept_raw-kept.ensures c.kind.result c.decides.result c.decides.ensures c.kind.ensures) ∙ c.if-not-decides.false in
    let i = sym (inherits c.args.raw.now c.args.ace.now (bits_of c.args.group) c.kept_raw-kept.result c.kept_raw-kept.ensures c.is_inheritable.result c.is_inheritable.ensures) ∙ c.if-is_inheritable.false in
    rest c.args.raw.now c.args.ace.now (bits_of c.args.group) c.kept_raw-kept.result c.kept_raw-kept.ensures c.kept_mask-mask.result c.kept_mask-mask.ensures d i

pub returns-clause-ok : goal.returns-clause-ok
returns-clause-ok g c =
    subst (λ (these : List RawAce). OnOk c.push_unless_empty-2.result (c.push_unless_empty-2.new.draft.items ≡ c.args.draft.now.items ++ these)) (kept_rest g c) c.push_unless_empty-2.ensures.ok

pub returns-clause-full : goal.returns-clause-full
returns-clause-full g c =
    subst (λ (these : List RawAce). OnErr c.push_unless_empty-2.result (g.row.N < length (c.args.draft.now.items ++ these))) (kept_rest g c) c.push_unless_empty-2.ensures.full
