use Rattle.std.proofs.Common.{◌∙◌, List, Some, ap, sym}
use Rattle.acl_posix.specs.Entry.{EntryValue}
use Rattle.acl_listing_lint.specs.FromDefault.{created_by}
use Rattle.acl_listing_lint.proofs.from_default.created_by.Goals as goal

pub returns-in-Ok : goal.returns-in-Ok
returns-in-Ok c =
    ap (λ (acl : List EntryValue). Some acl) c.in-Ok.ensures
    ∙ ap (λ lists. created_by c.args.default.now lists) (sym c.in-Posix.is)
