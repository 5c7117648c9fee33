use Rattle.std.proofs.Common.{◌≡◌, ◌∙◌, ◌++◌, ◌<◌, ℕ, List, OnErr, OnOk, ap, ap₂, length, subst}
use Rattle.acl_nfs4.specs.Ace.{plain_ace}
use Rattle.acl_nfs4.specs.Mask.{mask_bits}
use Rattle.acl_wire.specs.Kept.{raw_unless_empty}
use Rattle.acl_wire.specs.RawAcesWriting.{kind_number, raws_of, special_number}
use Rattle.acl_wire.specs.declared.raw_ace.RawAce.{RawAce}
use Rattle.acl_wire.proofs.KeepingLemmas.{special-plain}
use Rattle.acl_wire.proofs.keeping.push_special.Given.{Over}
use Rattle.acl_wire.proofs.keeping.push_special.Goals as goal
use Rattle.acl_wire.proofs.keeping.push_special.Goals.{After-push_unless_empty}

these : (g : Over) (c : After-push_unless_empty g) → raw_unless_empty (record { kind = c.kind_number.result; flags = 0; mask = c.bits.result; special = c.special_number.result; id = 0 })
    ≡ raws_of (plain_ace c.args.kind c.args.who.now (mask_bits c.args.mask))
these g c =
    ap₂ (λ (k s : ℕ). raw_unless_empty (record { kind = k; flags = 0; mask = c.bits.result; special = s; id = 0 })) c.kind_number.ensures c.special_number.ensures
    ∙ ap (λ (m : ℕ). raw_unless_empty (record { kind = kind_number c.args.kind; flags = 0; mask = m; special = special_number c.args.who.now; id = 0 })) (c.bits.ensures tt)
    ∙ special-plain c.args.kind c.args.who.now (mask_bits c.args.mask) c.requires

pub returns-clause-ok : goal.returns-clause-ok
returns-clause-ok g c = subst (λ (raws : List RawAce). OnOk c.push_unless_empty.result (c.push_unless_empty.new.draft.items ≡ c.args.draft.now.items ++ raws)) (these g c) c.push_unless_empty.ensures.ok

pub returns-clause-full : goal.returns-clause-full
returns-clause-full g c = subst (λ (raws : List RawAce). OnErr c.push_unless_empty.result (g.row.N < length (c.args.draft.now.items ++ raws))) (these g c) c.push_unless_empty.ensures.full
