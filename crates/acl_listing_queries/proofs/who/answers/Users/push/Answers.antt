use Rattle.std.proofs.Common.{rules, ◌≡◌, ◌∙◌, ◌++◌, ap, map, option_map, sym}
use Rattle.acl_access.specs.Letters.{mask_text}
use Rattle.acl_access.specs.Standings.{places_of_takers}
use Rattle.acl_nfs4.specs.Mask.{mask_bits}
use Rattle.acl_posix.specs.Perms.{bits_of}
use Rattle.acl_posix.specs.PermsText.{perms_text}
use Rattle.acl_people.specs.Asked.{names_of_people}
use Rattle.acl_listing_queries.specs.ViaSteps.{decided_lines, shown_if}
use Rattle.acl_listing_queries.specs.WhoSteps.{letters_lines, may_lines, numbers_of_each}
use Rattle.acl_listing_queries.specs.declared.who.answers.Granted.TheVariants.{Entries, Letters, Masks, Numbered, Standings, Those}
use Rattle.acl_listing_queries.proofs.PartLemmas.{lines_of, lines_part}
use Rattle.acl_listing_queries.proofs.who.answers.Users.push.Goals as goal

pub returns-in_ok-push_letters_lines-in-Letters : goal.returns-in_ok-push_letters_lines-in-Letters
returns-in_ok-push_letters_lines-in-Letters c = λ file sticky way are inside.
    let path = c.args.path.now in
    let marks = c.args.inside.reach.now in
    let out = c.args.out.now.items in
    let is : c.args.kept.now.granted ≡ Letters c.in-Letters.letters = search rules in
    lines_part c.args.self.now file sticky way path c.args.kept.now (Letters c.in-Letters.letters) c.args.inside out _ are is inside
    (c.in_ok-push_letters_lines-in-Letters.ensures
    ∙ ap (λ names. out ++ letters_lines perms_text path (map (λ name. name.items) names) (map bits_of c.as_slice.result.now) marks) c.as_slice-names.ensures.value
    ∙ ap (λ letters. out ++ letters_lines perms_text path (names_of_people c.args.self.now.people.now) (map bits_of letters) marks) c.as_slice.ensures.value)

pub returns-in_ok-push-in-Numbered : goal.returns-in_ok-push-in-Numbered
returns-in_ok-push-in-Numbered c = λ file sticky way are inside.
    let marks = c.args.inside.reach.now in
    let out = c.args.out.now.items in
    let is : c.args.kept.now.granted ≡ Numbered c.in-Numbered.letters = search rules in
    lines_part c.args.self.now file sticky way c.args.path.now c.args.kept.now (Numbered c.in-Numbered.letters) c.args.inside out _ are is inside
    (c.in_ok-push-in-Numbered.ensures
    ∙ ap (λ names. out ++ numbers_of_each (map (λ name. name.items) names) (map bits_of c.as_slice-in-Numbered.result.now) marks) c.as_slice-names.ensures.value
    ∙ ap (λ letters. out ++ numbers_of_each (names_of_people c.args.self.now.people.now) (map bits_of letters) marks) c.as_slice-in-Numbered.ensures.value)

pub returns-in_ok-push_letters_lines-in-Masks : goal.returns-in_ok-push_letters_lines-in-Masks
returns-in_ok-push_letters_lines-in-Masks c = λ file sticky way are inside.
    let path = c.args.path.now in
    let marks = c.args.inside.reach.now in
    let out = c.args.out.now.items in
    let is : c.args.kept.now.granted ≡ Masks c.in-Masks.masks = search rules in
    lines_part c.args.self.now file sticky way path c.args.kept.now (Masks c.in-Masks.masks) c.args.inside out _ are is inside
    (c.in_ok-push_letters_lines-in-Masks.ensures
    ∙ ap (λ names. out ++ letters_lines mask_text path (map (λ name. name.items) names) (map mask_bits c.as_slice-in-Masks.result.now) marks) c.as_slice-names.ensures.value
    ∙ ap (λ masks. out ++ letters_lines mask_text path (names_of_people c.args.self.now.people.now) (map mask_bits masks) marks) c.as_slice-in-Masks.ensures.value)

pub returns-in_ok-push_may_lines-in-Those : goal.returns-in_ok-push_may_lines-in-Those
returns-in_ok-push_may_lines-in-Those c = λ file sticky way are inside.
    let path = c.args.path.now in
    let marks = c.args.inside.reach.now in
    let out = c.args.out.now.items in
    let is : c.args.kept.now.granted ≡ Those c.in-Those.places = search rules in
    lines_part c.args.self.now file sticky way path c.args.kept.now (Those c.in-Those.places) c.args.inside out _ are is inside
    (c.in_ok-push_may_lines-in-Those.ensures
    ∙ ap (λ names. out ++ may_lines path (map (λ name. name.items) names) c.as_slice-in-Those.result.now marks) c.as_slice-names.ensures.value
    ∙ ap (λ places. out ++ may_lines path (names_of_people c.args.self.now.people.now) places marks) c.as_slice-in-Those.ensures.value)

pub returns-in_ok-push_decided_lines-in-Entries : goal.returns-in_ok-push_decided_lines-in-Entries
returns-in_ok-push_decided_lines-in-Entries c = λ file sticky way are inside.
    let path = c.args.path.now in
    let marks = c.args.inside.reach.now in
    let out = c.args.out.now.items in
    let is : c.args.kept.now.granted ≡ Entries c.in-Entries.decided = search rules in
    lines_part c.args.self.now file sticky way path c.args.kept.now (Entries c.in-Entries.decided) c.args.inside out _ are is inside
    (c.in_ok-push_decided_lines-in-Entries.ensures
    ∙ ap (λ names. out ++ decided_lines path (map (λ name. name.items) names) (map shown_if c.as_slice-in-Entries.result.now) marks) c.as_slice-names.ensures.value
    ∙ ap (λ decided. out ++ decided_lines path (names_of_people c.args.self.now.people.now) (map shown_if decided) marks) c.as_slice-in-Entries.ensures.value)

pub returns-in_ok-push_may_lines-in-Standings : goal.returns-in_ok-push_may_lines-in-Standings
returns-in_ok-push_may_lines-in-Standings c = λ file sticky way are inside.
    let names = names_of_people c.args.self.now.people.now in
    let path = c.args.path.now in
    let marks = c.args.inside.reach.now in
    let out = c.args.out.now.items in
    let folder = c.in-Some.folder.now in
    let is : c.args.kept.now.granted ≡ Standings c.in-Standings.standings = search rules in
    lines_part c.args.self.now file sticky way path c.args.kept.now (Standings c.in-Standings.standings) c.args.inside out _ are is inside
    (c.in_ok-push_may_lines-in-Standings.ensures
    ∙ ap (λ names. out ++ may_lines path (map (λ name. name.items) names) c.as_slice-in-Standings-2.result.now marks) c.as_slice-names.ensures.value
    ∙ ap (λ places. out ++ may_lines path names places marks) (c.as_slice-in-Standings-2.ensures.value ∙ c.in_ok-places-in-Standings.ensures)
    ∙ ap (λ own. out ++ may_lines path names (places_of_takers folder own) marks) c.as_slice-in-Standings.ensures.value
    ∙ ap (λ found. out ++ lines_of names path marks (option_map (λ standings. standings.now) found) (Standings c.in-Standings.standings)) (sym c.in-Some.is))
