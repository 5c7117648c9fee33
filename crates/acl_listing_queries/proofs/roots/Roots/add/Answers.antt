use Rattle.std.proofs.Common.{◌∙◌, Some, ap, sym}
use Rattle.acl_listing_queries.proofs.RootLemmas.{roots_with}
use Rattle.acl_listing_queries.proofs.roots.Roots.add.Goals as goal

pub returns-in_ok-insert-clause-added : goal.returns-in_ok-insert-clause-added
returns-in_ok-insert-clause-added c = λ blocks here are here_is.
    roots_with blocks c.args.self.now (record { paths = c.insert.new.self }) are (record { path = c.in_ok-from_slice.field-0 }) here (here_is ∙ ap Some (sym c.in_ok-from_slice.ensures.items)) (sym (c.is_apart-apart.ensures blocks here are (here_is ∙ ap Some (sym c.in_ok-from_slice.ensures.items))) ∙ c.if-apart.true) c.in_ok-insert.ensures.keys
