use Rattle.std.proofs.Common.{◌∙◌, ap, length, rules, sym}
use Rattle.acl_wire.proofs.DraftLemmas.{fits-in}
use Rattle.acl_wire.proofs.KeptLemmas.{read-length}
use Rattle.acl_wire.proofs.ModeLemmas.{list_read}
use Rattle.acl_wire.proofs.inheritance.inherit.Goals as goal

pub put_inherited-requires : goal.put_inherited-requires
put_inherited-requires g c = (
  search rules,
  (
    read-length (list_read c.args.raws.now c.in_ok-acl.acl c.in_ok-acl.ensures.value) ∙ ap length (sym c.aces.ensures.value),
    (fits-in g.row.N c.args.raws.now c.in_ok-acl.acl c.requires.room c.in_ok-acl.ensures.value, c.requires.empty),
  ),
)
