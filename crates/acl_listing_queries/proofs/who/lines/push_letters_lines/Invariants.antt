use Rattle.std.proofs.Common.{◌≡◌, ◌++◌, map, take}
use Rattle.std.specs.List.{enumerate_from, flat_map}
use Rattle.acl_listing_queries.specs.WhoSteps.{reported_at}
use Rattle.acl_listing_queries.specs.WhoText.{letters_line_if}
use Rattle.acl_listing_queries.proofs.who.lines.push_letters_lines.Given as goal

-- the lines of the names so far
abbrev pub invariant-loop-place : goal.invariant-loop-place
invariant-loop-place g l =
    let Letters = g.L.LetterSet in
    l.out.items ≡ l.fn.out.items ++ flat_map (reported_at (letters_line_if Letters.text l.path) (map Letters.number l.letters) l.reach) (enumerate_from 0 (take l.place (map (λ name. name.items) l.names)))
