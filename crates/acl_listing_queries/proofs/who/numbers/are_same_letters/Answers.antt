use Rattle.std.proofs.Common.{◌≡◌, ◌∙◌, List, ℕ, map, nat_eq, subst, sym}
use Rattle.std.specs.Bool.{Decides}
use Rattle.std.specs.Cmp.Derive.Mapped.{pointwise-map}
use Rattle.std.specs.Cmp.Lexicographic.{pointwise}
use Rattle.std.proofs.lemmas.Slice.Eq.{bytes_eq-Decides}
use Rattle.acl_posix.specs.Perms.{bits_of}
use Rattle.acl_listing_queries.proofs.who.numbers.are_same_letters.Goals as goal

pub returns : goal.returns
returns c =
    let one : List ℕ = map bits_of c.args.letters.now in
    let other : List ℕ = map bits_of c.args.others.now in
    let numbers : pointwise nat_eq one other ≡ c.eq.result = pointwise-map bits_of nat_eq c.args.letters.now c.args.others.now ∙ sym c.eq.ensures in
    subst (λ b. Decides b (one ≡ other)) numbers (bytes_eq-Decides one other)
