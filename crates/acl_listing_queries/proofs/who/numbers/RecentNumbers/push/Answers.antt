use Rattle.std.proofs.Common.{rules, ◌≡◌, List, length, map, sym, ℕ}
use Rattle.std.proofs.lemmas.List.{length-map}
use Rattle.acl_posix.specs.Perms.{bits_of}
use Rattle.acl_listing_queries.specs.WhoSteps.{numbers_of_each}
use Rattle.acl_listing_queries.proofs.NumbersLemmas.{are_numbers}
use Rattle.acl_listing_queries.proofs.who.numbers.RecentNumbers.push.Goals as goal

pub new-requires : goal.new-requires
new-requires c =
    let names : List (List ℕ) = map (λ name. name.items) c.args.names.now in
    let is : c.push_numbers.new.out.items ≡ numbers_of_each names (map bits_of c.args.letters.now) c.args.reach.now = search rules in
    let many : length c.args.names.now ≡ length names = sym (length-map c.args.names.now (λ name. name.items)) in
    are_numbers names c.args.letters.now c.args.reach.now c.push_numbers.new.out.items is _ many
