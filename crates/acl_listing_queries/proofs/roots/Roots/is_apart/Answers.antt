use Rattle.std.proofs.Common.{◌∙◌, ◌&&◌, ap, option_map}
use Rattle.acl_listing_queries.specs.RootSteps.{apart_if}
use Rattle.acl_listing_queries.proofs.RootLemmas.{near_it}
use Rattle.acl_listing_queries.proofs.roots.Roots.is_apart.Goals as goal

pub returns-then-are_apart_if : goal.returns-then-are_apart_if
returns-then-are_apart_if c = λ blocks here are here_is.
    let behind = apart_if (option_map (λ root. root.now.path.items) c.first_behind-behind.result) c.args.root.now.path.items in
    c.are_apart_if-then-are_apart_if.ensures ∙ ap (λ b. b && behind) c.if-are_apart_if.ensures
    ∙ near_it blocks c.args.self.now here c.args.root.now c.last_before-before.result c.first_behind-behind.result c.last_before-before.ensures c.first_behind-behind.ensures are here_is

pub returns-else-are_apart_if : goal.returns-else-are_apart_if
returns-else-are_apart_if c = λ blocks here are here_is.
    let behind = apart_if (option_map (λ root. root.now.path.items) c.first_behind-behind.result) c.args.root.now.path.items in
    c.if-are_apart_if.false ∙ ap (λ b. b && behind) c.if-are_apart_if.ensures
    ∙ near_it blocks c.args.self.now here c.args.root.now c.last_before-before.result c.first_behind-behind.result c.last_before-before.ensures c.first_behind-behind.ensures are here_is
