use Rattle.std.proofs.Common.{◌≡◌, ◌∙◌, ◌<◌, true, length, sym, ap, arith, bytes_eq}
use Rattle.std.proofs.lemmas.List.{get_or_default}
use Rattle.acl_accounts.proofs.PlaceLemmas.{place_of_one}
use Rattle.acl_accounts.proofs.guesses.guessed_place.Goals as goal

pub returns-then-eq : goal.returns-then-eq
returns-then-eq g c =
    let name_of = g.T.Named.name_of in
    let members = c.args.members.now in
    let name = c.args.name.now in
    let place = c.in_ok-guess.guess.now in
    let member = c.index-members-place.result in
    let inside : place < length members = omega arith in
    let named : bytes_eq (name_of member) name ≡ true = ap (λ t. bytes_eq t name) (sym c.key.ensures) ∙ sym c.if-eq.ensures in
    place_of_one name_of members name c.requires place inside
    (λ d. ap (λ m. bytes_eq (name_of m) name) (get_or_default members place d member inside ∙ sym c.index-members-place.is) ∙ named)
