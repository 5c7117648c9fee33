use Rattle.std.proofs.Common.{◌∙◌, rules, sym}
use Rattle.acl_wire.specs.declared.fault.Nfs4Fault.{Nfs4Fault}
use Rattle.acl_wire.proofs.StepsBack.{ok_same}
use Rattle.acl_wire.proofs.mode_change.put_with_denials.Goals as goal

pub put_around-requires : goal.put_around-requires
put_around-requires g c = (
  search rules,
  (
    search rules,
    (
      ok_same {F = Nfs4Fault} c.in_ok-base.base c.in_ok-acl.acl (sym c.in_ok-base.ensures.value ∙ c.in_ok-acl.ensures.value) ∙ sym c.aces.ensures.value,
      (c.requires.room, c.requires.empty),
    ),
  ),
)
