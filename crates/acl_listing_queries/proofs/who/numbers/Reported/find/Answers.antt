use Rattle.std.proofs.Common.{rules, ◌≡◌, ◌∙◌, ap, map, subst, sym, true}
use Rattle.acl_posix.specs.Perms.{bits_of}
use Rattle.acl_listing_queries.specs.WhoSteps.{AreNumbersOf}
use Rattle.acl_listing_queries.proofs.NumbersLemmas.{still_numbers}
use Rattle.acl_listing_queries.proofs.who.numbers.Reported.find.Goals as goal

pub returns : goal.returns
returns c =
    let own = c.self.inside in
    let count : own.count ≡ c.args.count = search rules in
    let letters_same : c.are_same_letters.result ≡ true = search rules in
    let letters : map bits_of own.letters.items ≡ map bits_of c.args.letters.now = ap (map bits_of) (sym c.as_slice.ensures.value) ∙ c.are_same_letters.ensures.0 letters_same in
    let reach_same : c.are_same_marks.result ≡ true = search rules in
    let reach : own.reach.items ≡ c.args.reach.now = sym c.as_slice-2.ensures.value ∙ c.are_same_marks.ensures.0 reach_same in
    subst (AreNumbersOf c.args.count c.args.letters.now c.args.reach.now) (sym c.as_slice-3.ensures.value)
    (still_numbers own.letters.items c.args.letters.now letters own.reach.items c.args.reach.now reach own.count c.args.count count own.numbers.items c.self.invariant)
