-- What is reported for a file, by what is kept of it and of its folder.
use Rattle.std.proofs.Common.{◌≡◌, ◌∙◌, ◌++◌, Bool, List, [], ◌∷◌, ℕ, None, Ok, Option, Some, ap, map, option_map, refl, subst, sym}
use Rattle.acl_names.specs.Requester.{Identity}
use Rattle.acl_access.specs.Letters.{mask_text}
use Rattle.acl_access.specs.Reach.{reaches}
use Rattle.acl_access.specs.Standings.{places_of_takers, standing_of}
use Rattle.acl_access.specs.declared.standing.Standing.{Standing}
use Rattle.acl_listings.specs.Block.{FileValue}
use Rattle.acl_nfs4.specs.Mask.{mask_bits}
use Rattle.acl_posix.specs.Perms.{bits_of}
use Rattle.acl_posix.specs.PermsText.{perms_text}
use Rattle.acl_bridge.specs.Files.{File}
use Rattle.acl_people.specs.Asked.{names_of_people, persons_of}
use Rattle.acl_reports.specs.Files.{file_of}
use Rattle.acl_reports.specs.Reporting.{IsPart}
use Rattle.acl_listing_queries.specs.ViaSteps.{decided_lines, shown_if}
use Rattle.acl_listing_queries.specs.WhoPart.{Deletion, Question, Via, What, part_of}
use Rattle.acl_listing_queries.specs.WhoSteps.{AreAnswersOf, IsAnswered, IsFolder, IsInside, letters_lines, may_lines, numbers_of_each, question_by, whos_of}
use Rattle.acl_listing_queries.specs.WhoText.{AllLetters, Asked, Numbers, Request, ThreeLetters}
use Rattle.acl_listing_queries.specs.declared.who.answers.Granted.{Granted}
use Rattle.acl_listing_queries.specs.declared.who.answers.Granted.TheVariants.{Entries, Letters, Masks, Numbered, Standings, Those}
use Rattle.acl_listing_queries.specs.declared.who.answers.Kept.{Kept}
use Rattle.acl_listing_queries.specs.declared.who.answers.Users.{Users}
use Rattle.acl_listing_queries.specs.declared.who.way.Inside.{Inside}
use Rattle.acl_listing_queries.proofs.LinesLemmas.{decided_text, letters_text, masks_text, numbers_text, takers_text, those_text}

-- what is appended by what is kept of a file, and of its folder, if there is one
abbrev pub lines_of : List (List ℕ) → List ℕ → List Bool → Option (List Standing) → Granted → List ℕ
lines_of names path marks folder (Letters letters) = letters_lines perms_text path names (map bits_of letters.items) marks
lines_of names path marks folder (Numbered letters) = numbers_of_each names (map bits_of letters.items) marks
lines_of names path marks folder (Masks masks) = letters_lines mask_text path names (map mask_bits masks.items) marks
lines_of names path marks folder (Those places) = may_lines path names places.items marks
lines_of names path marks folder (Entries decided) = decided_lines path names (map shown_if decided.items) marks
lines_of names path marks (Some folder) (Standings standings) = may_lines path names (places_of_takers folder standings.items) marks
lines_of names path marks None (Standings standings) = []

module _ (names : List (List ℕ)) (whos : List Identity) (own : Bool) (path : List ℕ) (file : File) (marks : List Bool) where
  abbrev IsSaid : Question → Bool → List File → Option (List Standing) → Granted → Type 0
  IsSaid question sticky way folder granted = marks ≡ map (reaches way) whos → IsFolder question whos sticky way folder → IsAnswered whos question own file granted
      → part_of (persons_of names whos) question sticky way path file ≡ Ok (lines_of names path marks folder granted)

  -- what users may do
  what_said : (asked : Asked) (sticky : Bool) (way : List File) (folder : Option (List Standing)) (granted : Granted) → IsSaid (What asked) sticky way folder granted
  what_said asked sticky way folder (Letters letters) are lies is = ap (λ text. Ok text) (sym (letters_text names whos way path file marks are asked letters is))
  what_said asked sticky way folder (Numbered letters) are lies is = ap (λ text. Ok text) (sym (numbers_text names whos way path file marks are asked letters is))
  what_said asked sticky way folder (Masks masks) are lies is = ap (λ text. Ok text) (sym (masks_text names whos way path file marks are asked masks is))
  what_said asked sticky way folder (Those places) are lies is = ap (λ text. Ok text) (sym (those_text names whos way path file marks are asked places is))
  what_said ThreeLetters sticky way folder (Entries decided) are lies is = absurd is
  what_said Numbers sticky way folder (Entries decided) are lies is = absurd is
  what_said AllLetters sticky way folder (Entries decided) are lies is = absurd is
  what_said (Request perms) sticky way folder (Entries decided) are lies is = absurd is
  what_said ThreeLetters sticky way folder (Standings standings) are lies is = absurd is
  what_said Numbers sticky way folder (Standings standings) are lies is = absurd is
  what_said AllLetters sticky way folder (Standings standings) are lies is = absurd is
  what_said (Request perms) sticky way folder (Standings standings) are lies is = absurd is

  -- or also by which entries; or who may delete it, which isn't asked where nothing above is listed
  said_is : (question : Question) (sticky : Bool) (way : List File) (folder : Option (List Standing)) (granted : Granted) → IsSaid question sticky way folder granted
  said_is (What asked) sticky way folder granted are lies is = what_said asked sticky way folder granted are lies is
  said_is (Via asked) sticky way folder (Entries decided) are lies is =
      ap (λ text. Ok text) (sym (decided_text names whos way path file marks are asked is.0 (map shown_if decided.items) is.1))
  said_is (Via asked) sticky way folder (Letters letters) are lies is = absurd is
  said_is (Via asked) sticky way folder (Numbered letters) are lies is = absurd is
  said_is (Via asked) sticky way folder (Masks masks) are lies is = absurd is
  said_is (Via asked) sticky way folder (Those places) are lies is = absurd is
  said_is (Via asked) sticky way folder (Standings standings) are lies is = absurd is
  said_is Deletion sticky (top ∷ above) (Some folder) (Standings standings) are lies is =
      let folder_is : folder ≡ map (standing_of sticky top) whos = cc in
      ap (λ text. Ok text)
      (sym
      (ap (λ folder. may_lines path names (places_of_takers folder standings.items) marks) folder_is
      ∙ ap (λ own. may_lines path names (places_of_takers (map (standing_of sticky top) whos) own) marks) is
      ∙ takers_text names whos sticky own top above path file marks are))
  said_is Deletion sticky (top ∷ above) None (Standings standings) are lies is = cc
  said_is Deletion sticky [] (Some folder) (Standings standings) are lies is = cc
  said_is Deletion sticky [] None (Standings standings) are lies is = refl
  said_is Deletion sticky way folder (Letters letters) are lies is = absurd is
  said_is Deletion sticky way folder (Numbered letters) are lies is = absurd is
  said_is Deletion sticky way folder (Masks masks) are lies is = absurd is
  said_is Deletion sticky way folder (Those places) are lies is = absurd is
  said_is Deletion sticky way folder (Entries decided) are lies is = absurd is

-- where these lines were appended, what is reported for the file was
pub lines_part : (users : Users) (file : FileValue) (sticky : Bool) (way : List File) (path : List ℕ) (kept : Kept) (granted : Granted) (inside : Inside) (out out' : List ℕ)
    → AreAnswersOf users file kept → kept.granted ≡ granted → IsInside users sticky way inside
    → out' ≡ out ++ lines_of (names_of_people users.people.now) path inside.reach.now (option_map (λ standings. standings.now) inside.folder) granted
    → IsPart {A = Unit {0}} (part_of (persons_of (names_of_people users.people.now) (whos_of users)) (question_by users) sticky way path (file_of users.rules file)) (Ok tt) out out'
lines_part users file sticky way path kept granted inside out out' are is lies appended =
    let names : List (List ℕ) = names_of_people users.people.now in
    let folder : Option (List Standing) = option_map (λ standings. standings.now) inside.folder in (
      lines_of names path inside.reach.now folder granted,
      said_is names (whos_of users) file.flags.sticky path (file_of users.rules file) inside.reach.now (question_by users) sticky way folder granted lies.reach lies.folder
          (subst (IsAnswered (whos_of users) (question_by users) file.flags.sticky (file_of users.rules file)) is are.granted),
      appended,
    )
