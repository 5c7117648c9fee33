use Rattle.std.proofs.Common.{rules, ◌≡◌, ◌∙◌, None, Option, Some, ap, map, option_map, sym, List, ℕ}
use Rattle.std.specs.Prelude.{slice_get}
use Rattle.acl_names.specs.Requester.{Identity}
use Rattle.acl_people.specs.Asked.{names_of_people}
use Rattle.acl_listing_changes.proofs.ImpactLemmas.{both_of, none_right, person_at}
use Rattle.acl_listing_changes.proofs.impact.asked.one_at.Goals as goal

pub returns-in_default : goal.returns-in_default
returns-in_default c =
    let people = c.args.people.now in
    let place = c.args.place in
    let names : option_map (λ name. name.now) c.name_at.result ≡ slice_get (names_of_people people) place =
    c.name_at.ensures ∙ ap (λ names. slice_get (map (λ name. name.items) names) place) c.as_slice.ensures.value in
    let none : c.name_at.result ≡ None = search rules in
    let name : slice_get (names_of_people people) place ≡ None = sym names ∙ ap (option_map (λ name. name.now)) none in
    sym (person_at (names_of_people people) people.requesters.items place ∙ ap (λ (name : Option (List ℕ)). both_of name (slice_get people.requesters.items place)) name)

pub returns-in_default-requester_at : goal.returns-in_default-requester_at
returns-in_default-requester_at c =
    let people = c.args.people.now in
    let place = c.args.place in
    let names : option_map (λ name. name.now) c.name_at.result ≡ slice_get (names_of_people people) place =
    c.name_at.ensures ∙ ap (λ names. slice_get (map (λ name. name.items) names) place) c.as_slice.ensures.value in
    let whos : option_map (λ who. who.now) c.requester_at.result ≡ slice_get people.requesters.items place =
    c.requester_at.ensures ∙ ap (λ whos. slice_get whos place) c.as_slice-2.ensures.value in
    let none : c.requester_at.result ≡ None = search rules in
    let who : slice_get people.requesters.items place ≡ None = sym whos ∙ ap (option_map (λ who. who.now)) none in
    sym (person_at (names_of_people people) people.requesters.items place
    ∙ ap (λ (who : Option Identity). both_of (slice_get (names_of_people people) place) who) who ∙ none_right (slice_get (names_of_people people) place))

pub returns : goal.returns
returns c =
    let people = c.args.people.now in
    let place = c.args.place in
    let names : option_map (λ name. name.now) c.name_at.result ≡ slice_get (names_of_people people) place =
    c.name_at.ensures ∙ ap (λ names. slice_get (map (λ name. name.items) names) place) c.as_slice.ensures.value in
    let whos : option_map (λ who. who.now) c.requester_at.result ≡ slice_get people.requesters.items place =
    c.requester_at.ensures ∙ ap (λ whos. slice_get whos place) c.as_slice-2.ensures.value in
    let some_name : c.name_at.result ≡ Some c.in-Some.name = search rules in
    let some_who : c.requester_at.result ≡ Some c.in-Some-requester_at.requester = search rules in
    let name : slice_get (names_of_people people) place ≡ Some c.in-Some.name.now = sym names ∙ ap (option_map (λ name. name.now)) some_name in
    let who : slice_get people.requesters.items place ≡ Some c.in-Some-requester_at.requester.now = sym whos ∙ ap (option_map (λ who. who.now)) some_who in
    sym (person_at (names_of_people people) people.requesters.items place
    ∙ ap (λ (name : Option (List ℕ)). both_of name (slice_get people.requesters.items place)) name
    ∙ ap (λ (who : Option Identity). both_of (Some c.in-Some.name.now) who) who)
