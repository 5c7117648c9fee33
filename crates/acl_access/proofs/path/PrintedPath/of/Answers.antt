use Rattle.std.proofs.Common.{◌≡◌, ◌∙◌, false, ap, sym}
use Rattle.std.specs.List.{list_any}
use Rattle.std.specs.Option.{option_map_or}
use Rattle.acl_access.specs.Paths.{is_control}
use Rattle.acl_access.proofs.PathLemmas.{as_it_is}
use Rattle.acl_access.proofs.path.PrintedPath.of.Goals as goal
use Rattle.acl_access.proofs.path.PrintedPath.of.Goals.{then-has_controls+in_ok-escaped, else-has_controls}

pub returns : goal.returns
returns c = elim c.if-has_controls.branch [
  | then-has_controls+in_ok-escaped w ↦ ap (λ found. option_map_or (λ text. text.items) found c.args.path.now) w.escaped-is ∙ w.in_ok-escaped.ensures
  | else-has_controls w ↦
      let none : list_any is_control c.args.path.now ≡ false = sym c.has_controls.ensures ∙ w.if-has_controls.false in
      ap (λ found. option_map_or (λ text. text.items) found c.args.path.now) w.escaped-is ∙ sym (as_it_is c.args.path.now none)
]
