use Rattle.std.proofs.Common.{ap, map, refl, sym}
use Rattle.acl_posix.specs.Perms.{bits_of}
use Rattle.acl_listing_queries.proofs.NumbersLemmas.{still_numbers}
use Rattle.acl_listing_queries.proofs.who.numbers.Reported.new.Goals as goal

pub invariant_of-result : goal.invariant_of-result
invariant_of-result c =
    still_numbers c.args.letters.now c.in_ok-from_slice.field-0.items (ap (map bits_of) (sym c.in_ok-from_slice.ensures.items))
    c.args.reach.now c.in_ok-from_slice-2.field-0.items (sym c.in_ok-from_slice-2.ensures.items) c.args.count c.args.count refl c.args.numbers.items c.requires
