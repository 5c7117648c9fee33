use Rattle.std.proofs.Common.{◌∙◌, ◌++◌, ap, append-nil, sym}
use Rattle.acl_listings.proofs.AccessLemmas.{copied, pieces-copied}
use Rattle.acl_listings.proofs.list_lines.lines_of.Goals as goal

pub returns : goal.returns
returns c =
    let items = c.loop-line.copy.items in
    pieces-copied c.args.kind c.args.list.now items
    (sym (append-nil items) ∙ ap (λ lines. items ++ copied c.args.kind lines) (sym c.in_default.ensures.part) ∙ c.loop-line.invariant)
