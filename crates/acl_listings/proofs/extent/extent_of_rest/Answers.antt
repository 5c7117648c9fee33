use Rattle.std.proofs.Common.{◌≡◌, arith, drop, get_or, subst}
use Rattle.std.proofs.lemmas.List.{take_rest}
use Rattle.acl_names.specs.Bytes.{newline}
use Rattle.acl_listings.specs.Extent.{IsExtent}
use Rattle.acl_listings.proofs.StepsLemmas.{begins_with_newline, goes_on_line}
use Rattle.acl_listings.proofs.extent.extent_of_rest.Goals as goal

pub returns-in-10 : goal.returns-in-10
returns-in-10 c =
    let text = c.args.text.now in
    let extent = c.extent_of-extent.result in
    let first : get_or text 0 0 ≡ newline = omega arith in
    goes_on_line text (drop 1 text) extent.len extent.newlines (begins_with_newline text c.in-10.len_at_least first)
    (subst (λ rest. IsExtent rest extent.len extent.newlines) (take_rest text 1) c.extent_of-extent.ensures)
