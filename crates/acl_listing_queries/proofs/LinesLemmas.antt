-- What is kept of a file reports for it.
use Rattle.std.proofs.Common.{◌≡◌, ◌==◌, ◌∙◌, ◌+◌, ◌++◌, ◌&&◌, ◌<◌, ◌≤◌, ℕ, zero, suc, Bool, true, false, cond, List, [], ◌∷◌, Option, Some, None, ap, append_assoc, append-nil, arith, codes, get_or, length, length-append, map, option_map, refl, sym}
use Rattle.std.specs.Prelude.{Vec, slice_get}
use Rattle.std.specs.List.{enumerate_from, flat_map}
use Rattle.std.specs.declared.alloc.Global.{Global}
use Rattle.std.proofs.lemmas.Bool.{false≢true, le-ltb, lt-ltb}
use Rattle.std.proofs.lemmas.List.{length-map}
use Rattle.acl_names.specs.Requester.{Identity}
use Rattle.acl_access.specs.Deletes.{deletes}
use Rattle.acl_access.specs.Marks.{is_set, letters_at, places_from}
use Rattle.acl_access.specs.Letters.{effective, granted_mask, mask_text}
use Rattle.acl_access.specs.Reach.{reaches}
use Rattle.acl_access.specs.Standings.{places_of_takers, standing_of, takes_each}
use Rattle.acl_access.specs.Who.{may_line}
use Rattle.acl_nfs4.specs.Mask.{mask_bits}
use Rattle.acl_nfs4.specs.declared.mask.Mask.{Mask}
use Rattle.acl_posix.specs.Perms.{bits_of}
use Rattle.acl_posix.specs.PermsText.{perms_text}
use Rattle.acl_posix.specs.declared.perms.Perms.{Perms}
use Rattle.acl_bridge.specs.Files.{File, may}
use Rattle.acl_access.proofs.ReachLemmas.{at_place}
use Rattle.acl_access.proofs.StandingLemmas.{places_of_pairs}
use Rattle.acl_people.specs.Asked.{persons_of}
use Rattle.acl_people.specs.Person.{Person}
use Rattle.acl_listing_queries.specs.WhoSteps.{IsGranted, letters_lines, may_line_at, may_line_of, may_lines, number_there, numbers_of_each, reported_of_each}
use Rattle.acl_listing_queries.specs.ViaSteps.{decided_line_if, decided_lines, decided_of, is_in_words, letters_shown}
use Rattle.acl_listing_queries.specs.WhoText.{AllLetters, Asked, Numbers, Request, ThreeLetters, deletion_text, letters_line_if, number_reported, person_reported, person_via, via_text, who_text, who_via_text}
use Rattle.acl_listing_queries.specs.declared.who.answers.Granted.TheVariants.{Letters, Masks, Numbered, Those}

-- what stands behind some items
name_there : (before after : List (List ℕ)) (name : List ℕ) → slice_get (before ++ name ∷ after) (length before) ≡ Some name
name_there [] after name = refl
name_there (first ∷ before) after name = name_there before after name

none_there : {X Z : Type 0} (f : X → Z) (default : Z) (before : List X) (more : ℕ) → get_or (map f before) (length before + more) default ≡ default
none_there f default [] more = refl
none_there f default (first ∷ before) more =
    let next : length (first ∷ before) + more ≡ suc (length before + more) = omega arith in
    ap (λ place. get_or (map f (first ∷ before)) place default) next ∙ none_there f default before more

module _ (way : List File) (path : List ℕ) (file : File) where
  abbrev reach : List Identity → List Bool
  reach whos = map (reaches way) whos

  -- what is reported and granted so, of whatever kind

  module _ {X : Type 0} (absent : X) (report : List ℕ → X → List ℕ) (granted : File → Identity → X) (none : (name : List ℕ) → report name absent ≡ []) where
    abbrev values : List Identity → List X
    values whos = map (granted file) whos

    abbrev here_reported : List Identity → ℕ × List ℕ → List ℕ
    here_reported whos here = report here.1 (cond (is_set (reach whos) here.0) (get_or (values whos) here.0 absent) absent)

    abbrev one_reported : Person → List ℕ
    one_reported person = report person.name (cond (reaches way person.who) (granted file person.who) absent)

    -- what is reported for somebody at a place
    one_letters : (whos before after : List Identity) (name : List ℕ) (who : Identity) (place : ℕ) → whos ≡ before ++ who ∷ after → place ≡ length before
        → here_reported whos (place, name) ≡ one_reported (record { name = name; who = who })
    one_letters whos before after name who place is there =
        ap (λ place. here_reported whos (place, name)) there
        ∙ ap (λ whos. here_reported whos (length before, name)) is
        ∙ ap (λ b. report name (cond b (get_or (values (before ++ who ∷ after)) (length before) absent) absent)) (at_place (reaches way) false before after who)
        ∙ ap (λ value. report name (cond (reaches way who) value absent)) (at_place (granted file) absent before after who)

    -- where nobody is any more there is no line
    no_letters : (whos : List Identity) (names : List (List ℕ)) (more : ℕ) → flat_map (here_reported whos) (enumerate_from (length whos + more) names) ≡ []
    no_letters whos [] more = refl
    no_letters whos (name ∷ names) more =
        let next : length whos + more + 1 ≡ length whos + (more + 1) = omega arith in
        ap (λ b. report name (cond b (get_or (values whos) (length whos + more) absent) absent) ++ flat_map (here_reported whos) (enumerate_from (length whos + more + 1) names))
        (none_there (reaches way) false whos more)
        ∙ ap (λ line. line ++ flat_map (here_reported whos) (enumerate_from (length whos + more + 1) names)) (none name)
        ∙ ap (λ place. flat_map (here_reported whos) (enumerate_from place names)) next ∙ no_letters whos names (more + 1)

    letters_behind : (whos before after : List Identity) (names : List (List ℕ)) (place : ℕ) → whos ≡ before ++ after → place ≡ length before
        → flat_map (here_reported whos) (enumerate_from place names) ≡ flat_map one_reported (persons_of names after)
    letters_behind whos before after [] place is there = refl
    letters_behind whos before [] (name ∷ names) place is there =
        let whole : before ≡ whos = sym (append-nil before) ∙ sym is in
        let at : place ≡ length whos + 0 = there ∙ ap length whole ∙ omega arith in
        ap (λ place. flat_map (here_reported whos) (enumerate_from place (name ∷ names))) at ∙ no_letters whos (name ∷ names) 0
    letters_behind whos before (who ∷ after) (name ∷ names) place is there =
        let next : place + 1 ≡ length (before ++ who ∷ []) = simp length-append (omega (arith, there)) in
        ap (λ line. line ++ flat_map (here_reported whos) (enumerate_from (place + 1) names)) (one_letters whos before after name who place is there)
        ∙ ap (λ lines. one_reported (record { name = name; who = who }) ++ lines)
        (letters_behind whos (before ++ who ∷ []) after names (place + 1) (is ∙ sym (append_assoc before (who ∷ []) after)) next)

  -- the numbers of letters

  abbrev effects : List Identity → List ℕ
  effects whos = map (effective file) whos

  abbrev number_at : List Identity → ℕ × List ℕ → List ℕ
  number_at whos here = number_there (effects whos) (reach whos) here.0

  one_number : (whos before after : List Identity) (who : Identity) (place : ℕ) → whos ≡ before ++ who ∷ after → place ≡ length before
      → number_there (effects whos) (reach whos) place ≡ cond (reaches way who) (effective file who) 0 ∷ []
  one_number whos before after who place is there =
      let within : place < length (effects whos) = omega (arith, there, length-map whos (effective file), ap length is, length-append before (who ∷ after)) in
      ap (λ b. cond b (letters_at (effects whos) (reach whos) place ∷ []) []) (lt-ltb place (length (effects whos)) within)
      ∙ ap (λ place. letters_at (effects whos) (reach whos) place ∷ []) there
      ∙ ap (λ whos. letters_at (effects whos) (reach whos) (length before) ∷ []) is
      ∙ ap (λ b. cond b (get_or (effects (before ++ who ∷ after)) (length before) 0) 0 ∷ []) (at_place (reaches way) false before after who)
      ∙ ap (λ perms. cond (reaches way who) perms 0 ∷ []) (at_place (effective file) 0 before after who)

  no_numbers : (whos : List Identity) (names : List (List ℕ)) (place : ℕ) → length whos ≤ place → flat_map (number_at whos) (enumerate_from place names) ≡ []
  no_numbers whos [] place past = refl
  no_numbers whos (name ∷ names) place past =
      let beyond : length (effects whos) ≤ place = omega (arith, past, length-map whos (effective file)) in
      ap (λ b. cond b (letters_at (effects whos) (reach whos) place ∷ []) [] ++ flat_map (number_at whos) (enumerate_from (place + 1) names)) (le-ltb place (length (effects whos)) beyond)
      ∙ no_numbers whos names (place + 1) (omega (arith, past))

  numbers_behind : (whos before after : List Identity) (names : List (List ℕ)) (place : ℕ) → whos ≡ before ++ after → place ≡ length before
      → flat_map (number_at whos) (enumerate_from place names) ≡ flat_map (person_reported number_reported effective way file) (persons_of names after)
  numbers_behind whos before after [] place is there = refl
  numbers_behind whos before [] (name ∷ names) place is there =
      let whole : whos ≡ before = is ∙ append-nil before in
      no_numbers whos (name ∷ names) place (omega (arith, there, ap length whole))
  numbers_behind whos before (who ∷ after) (name ∷ names) place is there =
      let next : place + 1 ≡ length (before ++ who ∷ []) = simp length-append (omega (arith, there)) in
      ap (λ line. line ++ flat_map (number_at whos) (enumerate_from (place + 1) names)) (one_number whos before after who place is there)
      ∙ ap (λ lines. cond (reaches way who) (effective file who) 0 ∷ lines)
      (numbers_behind whos (before ++ who ∷ []) after names (place + 1) (is ∙ sym (append_assoc before (who ∷ []) after)) next)

  -- of those who may

  module _ (test : Identity → Bool) where
    abbrev one_of_those : Person → List ℕ
    one_of_those person = cond (test person.who && reaches way person.who) (may_line path person.name) []

    abbrev line : List (List ℕ) → List Identity → ℕ → List ℕ
    line names whos place = may_line_at path names (reach whos) place

    one_line : (names before_names after_names : List (List ℕ)) (whos before after : List Identity) (name : List ℕ) (who : Identity) (place : ℕ)
        → names ≡ before_names ++ name ∷ after_names → place ≡ length before_names → whos ≡ before ++ who ∷ after → place ≡ length before
        → line names whos place ≡ cond (reaches way who) (may_line path name) []
    one_line names before_names after_names whos before after name who place names_are at is there =
        ap (λ b. cond b (may_line_of path (slice_get names place)) []) (ap (λ place. get_or (reach whos) place false) there ∙ ap (λ whos. get_or (reach whos) (length before) false) is ∙ at_place (reaches way) false before after who)
        ∙ ap (λ found. cond (reaches way who) (may_line_of path found) []) (ap (slice_get names) at ∙ ap (λ names. slice_get names (length before_names)) names_are ∙ name_there before_names after_names name)

    -- where no name is any more there is no line
    no_name : (names : List (List ℕ)) (whos : List Identity) (more : ℕ) → line names whos (length names + more) ≡ []
    no_name names whos more = by (is_set (reach whos) (length names + more))
      where
        none : (names : List (List ℕ)) → slice_get names (length names + more) ≡ None
        none [] = refl
        none (first ∷ names) =
            let next : length (first ∷ names) + more ≡ suc (length names + more) = omega arith in
            ap (slice_get (first ∷ names)) next ∙ none names

        by : (b : Bool) → cond b (may_line_of path (slice_get names (length names + more))) [] ≡ []
        by true = ap (may_line_of path) (none names)
        by false = refl

    no_lines : (names : List (List ℕ)) (whos after : List Identity) (more : ℕ) → flat_map (line names whos) (places_from test (length names + more) after) ≡ []
    no_lines names whos [] more = refl
    no_lines names whos (who ∷ after) more =
        let next : length names + more + 1 ≡ length names + (more + 1) = omega arith in
        by (test who) (ap (λ place. flat_map (line names whos) (places_from test place after)) next ∙ no_lines names whos after (more + 1))
      where
        by : (b : Bool) → flat_map (line names whos) (places_from test (length names + more + 1) after) ≡ [] → flat_map (line names whos) (cond b ((length names + more) ∷ places_from test (length names + more + 1) after) (places_from test (length names + more + 1) after)) ≡ []
        by true rest = ap (λ first. first ++ flat_map (line names whos) (places_from test (length names + more + 1) after)) (no_name names whos more) ∙ rest
        by false rest = rest

    no_names : (names before_names : List (List ℕ)) (whos after : List Identity) (place : ℕ) → names ≡ before_names ++ [] → place ≡ length before_names
        → flat_map (line names whos) (places_from test place after) ≡ []
    no_names names before_names whos after place is there =
        let at : place ≡ length names + 0 = there ∙ ap length (sym (append-nil before_names) ∙ sym is) ∙ omega arith in
        ap (λ place. flat_map (line names whos) (places_from test place after)) at ∙ no_lines names whos after 0

    lines_behind : (names before_names after_names : List (List ℕ)) (whos before after : List Identity) (place : ℕ)
        → names ≡ before_names ++ after_names → place ≡ length before_names → whos ≡ before ++ after → place ≡ length before
        → flat_map (line names whos) (places_from test place after) ≡ flat_map one_of_those (persons_of after_names after)
    lines_behind names before_names [] whos before after place names_are at is there = no_names names before_names whos after place names_are at
    lines_behind names before_names (name ∷ after_names) whos before [] place names_are at is there = refl
    lines_behind names before_names (name ∷ after_names) whos before (who ∷ after) place names_are at is there =
        let next_name : place + 1 ≡ length (before_names ++ name ∷ []) = simp length-append (omega (arith, at)) in
        let next : place + 1 ≡ length (before ++ who ∷ []) = simp length-append (omega (arith, there)) in
        let rest : flat_map (line names whos) (places_from test (place + 1) after) ≡ flat_map one_of_those (persons_of after_names after) =
        lines_behind names (before_names ++ name ∷ []) after_names whos (before ++ who ∷ []) after (place + 1)
        (names_are ∙ sym (append_assoc before_names (name ∷ []) after_names)) next_name (is ∙ sym (append_assoc before (who ∷ []) after)) next in
        let here = one_line names before_names after_names whos before after name who place names_are at is there in
        elim (test who) as (λ b. flat_map (line names whos) (cond b (place ∷ places_from test (place + 1) after) (places_from test (place + 1) after))
        ≡ cond (b && reaches way who) (may_line path name) [] ++ flat_map one_of_those (persons_of after_names after)) [
          | true ↦ ap (λ first. first ++ flat_map (line names whos) (places_from test (place + 1) after)) here
              ∙ ap (λ lines. cond (reaches way who) (may_line path name) [] ++ lines) rest
          | false ↦ rest
        ]

-- what stands before the path may stand with the path
before_path : (front via path : List ℕ) → front ++ via ++ codes " " ++ path ≡ front ++ (via ++ codes " " ++ path)
before_path front via path = ap (λ text. text ++ path) (append_assoc front via (codes " ")) ∙ append_assoc front (via ++ codes " ") path

module _ (path name via : List ℕ) where
  abbrev line_of : Option (List ℕ) → List ℕ
  line_of shown = decided_line_if path name (option_map (λ letters. (letters, via)) shown)

  abbrev path_via : List ℕ
  path_via = via ++ codes " " ++ path

  -- the line of letters, and that of somebody who may
  decided_letters : (text : ℕ → List ℕ) (letters : ℕ) → line_of (letters_shown text letters) ≡ letters_line_if text path_via name letters ++ []
  decided_letters text letters = by (letters == 0)
    where
      by : (b : Bool) → line_of (cond b None (Some (text letters ++ codes " "))) ≡ cond b [] (text letters ++ codes " " ++ name ++ codes " " ++ path_via ++ codes "\n") ++ []
      by true = refl
      by false = ap (λ text. text ++ codes "\n") (before_path (text letters ++ codes " " ++ name ++ codes " ") via path) ∙ sym (append-nil (text letters ++ codes " " ++ name ++ codes " " ++ path_via ++ codes "\n"))

  decided_letters_if : (text : ℕ → List ℕ) (b : Bool) (letters : ℕ) → decided_line_if path name (cond b (option_map (λ letters. (letters, via)) (letters_shown text letters)) None)
      ≡ letters_line_if text path_via name (cond b letters 0) ++ []
  decided_letters_if text true letters = decided_letters text letters
  decided_letters_if text false letters = refl

  decided_may_if : (b m : Bool) → decided_line_if path name (cond b (option_map (λ letters. (letters, via)) (cond m (Some []) None)) None) ≡ cond (m && b) (may_line path_via name) [] ++ []
  decided_may_if true true = ap (λ text. text ++ codes "\n") (before_path (name ++ codes " ") via path) ∙ sym (append-nil (name ++ codes " " ++ path_via ++ codes "\n"))
  decided_may_if true false = refl
  decided_may_if false true = refl
  decided_may_if false false = refl

module _ (way : List File) (path : List ℕ) (file : File) where
  abbrev decided_of_one : Asked → Person → List ℕ
  decided_of_one asked person = decided_line_if path person.name (cond (reaches way person.who) (decided_of asked file person.who) None)

  one_decided : (asked : Asked) → is_in_words asked ≡ true → (person : Person) → decided_of_one asked person ≡ person_via asked way path file person
  one_decided ThreeLetters words person = decided_letters_if path person.name (via_text ThreeLetters file person.who) perms_text (reaches way person.who) (effective file person.who)
  one_decided Numbers words person = absurd (false≢true words)
  one_decided AllLetters words person = decided_letters_if path person.name (via_text AllLetters file person.who) mask_text (reaches way person.who) (granted_mask file person.who)
  one_decided (Request perms) words person = decided_may_if path person.name (via_text (Request perms) file person.who) (reaches way person.who) (may file person.who perms)

  each_decided : (asked : Asked) → is_in_words asked ≡ true → (persons : List Person) → flat_map (decided_of_one asked) persons ≡ who_via_text persons asked way path file
  each_decided asked words [] = refl
  each_decided asked words (person ∷ persons) =
      ap (λ line. line ++ flat_map (decided_of_one asked) persons) (one_decided asked words person)
      ∙ ap (λ lines. person_via asked way path file person ++ lines) (each_decided asked words persons)

module _ (names : List (List ℕ)) (whos : List Identity) (way : List File) (path : List ℕ) (file : File) (marks : List Bool) (marks_are : marks ≡ map (reaches way) whos) where
  lettered : (report : List ℕ → ℕ → List ℕ) (granted : File → Identity → ℕ) → ((name : List ℕ) → report name 0 ≡ []) → (letters : List ℕ) → letters ≡ map (granted file) whos
      → reported_of_each report names letters marks ≡ flat_map (person_reported report granted way file) (persons_of names whos)
  lettered report granted none letters is =
      ap (λ marks. reported_of_each report names letters marks) marks_are
      ∙ ap (λ letters. reported_of_each report names letters (map (reaches way) whos)) is
      ∙ letters_behind way path file 0 report granted none whos [] whos names 0 refl refl

  pub letters_text : (asked : Asked) (letters : Vec Perms Global) → IsGranted whos asked file (Letters letters)
      → letters_lines perms_text path names (map bits_of letters.items) marks ≡ who_text (persons_of names whos) asked way path file
  letters_text ThreeLetters letters is = lettered (letters_line_if perms_text path) effective (λ name. refl) (map bits_of letters.items) is
  letters_text Numbers letters is = absurd is
  letters_text AllLetters letters is = absurd is
  letters_text (Request perms) letters is = absurd is

  pub numbers_text : (asked : Asked) (letters : Vec Perms Global) → IsGranted whos asked file (Numbered letters)
      → numbers_of_each names (map bits_of letters.items) marks ≡ who_text (persons_of names whos) asked way path file
  numbers_text ThreeLetters letters is = absurd is
  numbers_text Numbers letters is =
      ap (λ marks. numbers_of_each names (map bits_of letters.items) marks) marks_are
      ∙ ap (λ letters. numbers_of_each names letters (map (reaches way) whos)) is
      ∙ numbers_behind way path file whos [] whos names 0 refl refl
  numbers_text AllLetters letters is = absurd is
  numbers_text (Request perms) letters is = absurd is

  pub masks_text : (asked : Asked) (masks : Vec Mask Global) → IsGranted whos asked file (Masks masks)
      → letters_lines mask_text path names (map mask_bits masks.items) marks ≡ who_text (persons_of names whos) asked way path file
  masks_text ThreeLetters masks is = absurd is
  masks_text Numbers masks is = absurd is
  masks_text AllLetters masks is = lettered (letters_line_if mask_text path) granted_mask (λ name. refl) (map mask_bits masks.items) is
  masks_text (Request perms) masks is = absurd is

  pub those_text : (asked : Asked) (places : Vec ℕ Global) → IsGranted whos asked file (Those places)
      → may_lines path names places.items marks ≡ who_text (persons_of names whos) asked way path file
  those_text ThreeLetters places is = absurd is
  those_text Numbers places is = absurd is
  those_text AllLetters places is = absurd is
  those_text (Request perms) places is =
      ap (λ marks. may_lines path names places.items marks) marks_are
      ∙ ap (λ places. may_lines path names places (map (reaches way) whos)) is
      ∙ lines_behind way path file (λ who. may file who perms) names [] names whos [] whos 0 refl refl refl refl

  pub decided_text : (asked : Asked) → is_in_words asked ≡ true → (decided : List (Option (List ℕ × List ℕ))) → decided ≡ map (decided_of asked file) whos
      → decided_lines path names decided marks ≡ who_via_text (persons_of names whos) asked way path file
  decided_text asked words decided is =
      ap (λ marks. decided_lines path names decided marks) marks_are
      ∙ ap (λ decided. decided_lines path names decided (map (reaches way) whos)) is
      ∙ letters_behind way path file None (decided_line_if path) (decided_of asked) (λ name. refl) whos [] whos names 0 refl refl
      ∙ each_decided way path file asked words (persons_of names whos)

-- of those who may delete it, by how they stand to it and its folder
pub takers_text : (names : List (List ℕ)) (whos : List Identity) (sticky own : Bool) (folder : File) (above : List File) (path : List ℕ) (file : File) (marks : List Bool) → marks ≡ map (reaches (folder ∷ above)) whos
    → may_lines path names (places_of_takers (map (standing_of sticky folder) whos) (map (standing_of own file) whos)) marks ≡ deletion_text (persons_of names whos) sticky folder above path file
takers_text names whos sticky own folder above path file marks marks_are =
    ap (λ marks. may_lines path names (places_of_takers (map (standing_of sticky folder) whos) (map (standing_of own file) whos)) marks) marks_are
    ∙ ap (λ places. may_lines path names places (map (reaches (folder ∷ above)) whos)) (places_of_pairs takes_each (standing_of sticky folder) (standing_of own file) whos)
    ∙ lines_behind (folder ∷ above) path file (λ who. deletes sticky folder file who) names [] names whos [] whos 0 refl refl refl refl

-- the name at a place, as a list of bytes
pub name_at : (names : List (Vec ℕ Global)) (at : ℕ) (name : Vec ℕ Global) → get_or names at name ≡ name → get_or (map (λ name. name.items) names) at name.items ≡ name.items
name_at [] at name is = refl
name_at (first ∷ names) zero name is = ap (λ (name : Vec ℕ Global). name.items) is
name_at (first ∷ names) (suc at) name is = name_at names at name is
