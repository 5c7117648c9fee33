use Rattle.std.proofs.Common.{◌∙◌, ◌+◌, ◌==◌, ℕ, cond, ap, ap₂, length-append, sym}
use Rattle.acl_nfs4.specs.Ace.{Nfsace4, plain_ace}
use Rattle.acl_nfs4.specs.Mask.{mask_of, rest_of}
use Rattle.acl_nfs4.specs.declared.ace.AceType.TheVariants.{Allow, Deny}
use Rattle.acl_nfs4.specs.declared.who.Who.TheVariants.{Owner}
use Rattle.acl_posix.specs.Perms.{bits_of}
use Rattle.acl_wire.proofs.PartsLemmas.{unless-length}
use Rattle.acl_wire.proofs.mode_change.front_len.Goals as goal

pub returns-clause-value : goal.returns-clause-value
returns-clause-value c =
    let user = bits_of c.args.user in
    let allowed : Nfsace4 = record { kind = Allow; flags = 0; who = Owner; mask = mask_of user } in
    let denied : Nfsace4 = record { kind = Deny; flags = 0; who = Owner; mask = rest_of user } in
    ap₂ (λ a b. a + b)
    (c.count_of.ensures.value ∙ ap (λ (n : ℕ). cond (n == 0) 0 1) (c.bits.ensures tt ∙ c.mask_of.ensures) ∙ sym (unless-length allowed))
    (c.count_of-2.ensures.value ∙ ap (λ (n : ℕ). cond (n == 0) 0 1) (c.bits-2.ensures tt ∙ c.rest_of.ensures) ∙ sym (unless-length denied))
    ∙ sym (length-append (plain_ace Allow Owner (mask_of user)) (plain_ace Deny Owner (rest_of user)))
