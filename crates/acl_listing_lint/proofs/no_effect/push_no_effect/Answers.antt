use Rattle.std.proofs.Common.{rules, ◌≡◌, List, OnOk, Option, Some, subst, sym}
use Rattle.acl_posix.specs.Entry.{EntryValue}
use Rattle.acl_listing_lint.specs.Effects.{IsEffectSaidBy, list_without}
use Rattle.acl_listing_lint.specs.LintSteps.{Adds, view_spot}
use Rattle.acl_listing_lint.proofs.no_effect.push_no_effect.Goals as goal

pub returns-in-Some : goal.returns-in-Some
returns-in-Some c =
    let there : list_without c.args.entry.now.tag c.args.acl.now ≡ Some c.in-Some.other = search rules in
    subst (λ (other : Option (List EntryValue)). OnOk c.push_if_alike.result (Adds (IsEffectSaidBy c.args.owners.now c.args.acl.now (view_spot c.args.spot.now) other)
    c.args.out.now.items c.push_if_alike.new.out.items)) (sym there) c.push_if_alike.ensures
