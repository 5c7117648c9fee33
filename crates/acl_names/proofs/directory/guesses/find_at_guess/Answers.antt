use Rattle.std.proofs.Common.{◌≡◌, ◌∙◌, ◌<◌, true, length, sym, ap, Some, arith, nat_cmp, bytes_eq}
use Rattle.std.specs.Cmp.Lexicographic.{slice_cmp}
use Rattle.std.proofs.lemmas.Cmp.{nat_list_cmp_total}
use Rattle.std.proofs.lemmas.List.{get_or_default}
use Rattle.std.proofs.lemmas.Option.{slice_get-get_or}
use Rattle.acl_names.proofs.AscendingLemmas.{find-distinct, repeats-ascending}
use Rattle.acl_names.proofs.Keys.{same_name}
use Rattle.acl_names.proofs.directory.guesses.find_at_guess.Goals as goal

pub returns-then-eq : goal.returns-then-eq
returns-then-eq g c =
    let name_of = g.T.Named.name_of in
    let members = c.args.members.now in
    let name = c.args.name.now in
    let place = c.from-place.result in
    let member = c.index-members-place.result in
    let inside : place < length members = omega arith in
    let once = repeats-ascending (slice_cmp nat_cmp) nat_list_cmp_total name_of bytes_eq same_name members c.requires in
    let named : bytes_eq (name_of member) name ≡ true = ap (λ t. bytes_eq t name) (sym (c.as_bytes.ensures.value ∙ c.name.ensures)) ∙ sym c.if-eq.ensures in
    find-distinct (slice_cmp nat_cmp) nat_list_cmp_total name_of bytes_eq same_name members name once place inside
    (λ d. ap (λ m. bytes_eq (name_of m) name) (get_or_default members place d member inside ∙ sym c.index-members-place.is) ∙ named)
    ∙ slice_get-get_or members place member inside ∙ ap Some (sym c.index-members-place.is)
