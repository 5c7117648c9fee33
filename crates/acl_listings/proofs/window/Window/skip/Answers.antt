use Rattle.std.proofs.Common.{◌≤◌, ◌∙◌, ap, drop, length, subst, sym}
use Rattle.acl_listings.proofs.WindowLemmas.{skipped}
use Rattle.acl_listings.proofs.window.Window.skip.Goals as goal

pub returns : goal.returns
returns c =
    skipped c.self.inside.buffer.items c.self.inside.start c.self.inside.end c.args.count c.self.invariant
    (subst (λ shown. c.args.count ≤ length shown) (sym c.self.view_is) c.requires)
    ∙ ap (drop c.args.count) c.self.view_is
