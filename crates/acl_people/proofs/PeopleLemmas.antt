-- All users, place by place, and people one by one.
use Rattle.std.proofs.Common.{◌≡◌, ◌∙◌, ◌+◌, ◌<◌, ◌≤◌, ◌++◌, ◌∷◌, [], ℕ, zero, suc, true, false, List, Option, Some, None, Result, Ok, Err, Bor, ap, ap₂, drop, refl, sym, map, take, get_or, length, arith, append-nil}
use Rattle.std.specs.Prelude.{not, option_map, slice_get}
use Rattle.std.specs.List.{zip}
use Rattle.std.specs.Option.{option_and_then}
use Rattle.std.proofs.lemmas.List.{length-map, map-append, take-append-drop, take_all, take_more}
use Rattle.std.proofs.Math.Seq.{drop-cons}
use Rattle.std.proofs.lemmas.List.Elements.{filter-append}
use Rattle.std.proofs.lemmas.Option.{get_or_from_slice_get, slice_get-map, slice_get_past, slice_get_read, slice_get_within}
use Rattle.clap.specs.Words.{Text}
use Rattle.acl_names.specs.ListText.{PiecesSay}
use Rattle.acl_names.specs.ReadList.{each_read}
use Rattle.acl_names.proofs.ReadListLemmas.{each_read-fault, each_read-said}
use Rattle.acl_cli.specs.Faults.{Malformed}
use Rattle.acl_names.specs.Requester.{Identity}
use Rattle.acl_accounts.specs.Accounts.{KnownAccount, KnownAccounts}
use Rattle.acl_people.specs.People.{everyone}
use Rattle.acl_people.specs.Person.{Person, is_root, person, without_root}

abbrev pub listed : List (List ℕ) → List Identity → List Person
listed names whos = map (λ (user : List ℕ × Identity). person user.0 user.1) (zip names whos)

-- where there is nobody to go with a name
nobody : (name : Option (List ℕ)) → None ≡ option_and_then (λ (n : List ℕ). option_map (person n) None) name
nobody None = refl
nobody (Some name) = refl

-- the one at a place has the name and the identity that stand there
pub listed_at : (names : List (List ℕ)) (whos : List Identity) (place : ℕ)
    → slice_get (listed names whos) place ≡ option_and_then (λ name. option_map (person name) (slice_get whos place)) (slice_get names place)
listed_at [] whos place = refl
listed_at (name ∷ names) [] zero = refl
listed_at (name ∷ names) [] (suc place) = nobody (slice_get names place)
listed_at (name ∷ names) (who ∷ whos) zero = refl
listed_at (name ∷ names) (who ∷ whos) (suc place) = listed_at names whos place

-- there are no more than names
length-listed : (names : List (List ℕ)) (whos : List Identity) → length (listed names whos) ≤ length names
length-listed [] whos = omega arith
length-listed (name ∷ names) [] = omega arith
length-listed (name ∷ names) (who ∷ whos) = omega (arith, length-listed names whos)

-- those of users
module _ {X : Type 0} (name_of : X → List ℕ) (users : List X) (whos : List Identity) where
  pub users_count : length (listed (map name_of users) whos) ≤ length users
  users_count = omega (arith, length-listed (map name_of users) whos, length-map users name_of)

  pub user_there : (place : ℕ) (user : X) → place < length users → user ≡ get_or users place user
      → option_map (person (name_of user)) (slice_get whos place) ≡ slice_get (listed (map name_of users) whos) place
  user_there place user within is =
      let there : slice_get users place ≡ Some user = slice_get_read users (length users) place user refl within is in
      sym (listed_at (map name_of users) whos place ∙ rw (slice_get-map name_of users place, there) refl)

  pub nobody_there : (place : ℕ) → length users ≤ place → None ≡ slice_get (listed (map name_of users) whos) place
  nobody_there place past =
      sym (listed_at (map name_of users) whos place ∙ rw (slice_get-map name_of users place, slice_get_past users place past) refl)

pub accounts_count : (known : KnownAccounts) → length (everyone known) ≤ length known.users
accounts_count known = users_count (λ (user : KnownAccount). user.name) known.users known.requesters

one_more : (all : List Person) (place : ℕ) (one : Person) → slice_get all place ≡ Some one
    → without_root (take (place + 1) all) ≡ without_root (take place all) ++ without_root (one ∷ [])
one_more all place one is =
    let more : take (place + 1) all ≡ take place all ++ get_or all place one ∷ [] = take_more all place one (slice_get_within all place one is) in
    let it : get_or all place one ≡ one = get_or_from_slice_get all place one one is in
    ap without_root (more ∙ ap (λ x. take place all ++ x ∷ []) it) ∙ filter-append (λ x. not (is_root x)) (take place all) (one ∷ [])

-- one more place has one more of the people, or uid 0
pub people_more : (all : List Person) (place : ℕ) (one : Person) → slice_get all place ≡ Some one → is_root one ≡ false
    → without_root (take (place + 1) all) ≡ without_root (take place all) ++ one ∷ []
people_more all place one is other =
    let kept : without_root (one ∷ []) ≡ one ∷ [] = rw other refl in
    one_more all place one is ∙ ap (λ rest. without_root (take place all) ++ rest) kept

pub people_root : (all : List Person) (place : ℕ) (one : Person) → slice_get all place ≡ Some one → is_root one ≡ true
    → without_root (take (place + 1) all) ≡ without_root (take place all)
people_root all place one is root =
    let gone : without_root (one ∷ []) ≡ [] = rw root refl in
    one_more all place one is ∙ ap (λ rest. without_root (take place all) ++ rest) gone ∙ append-nil (without_root (take place all))

-- texts that are read one by one
module _ (texts : List (Bor (List ℕ))) (place : ℕ) (other : Bor (List ℕ)) (within : place < length texts) where
  abbrev pub text_at : List ℕ
  text_at = (get_or texts place other).now

  abbrev pub texts_before : List (List ℕ)
  texts_before = map (λ (text : Bor (List ℕ)). text.now) (take place texts)

  abbrev pub texts_after : List (List ℕ)
  texts_after = map (λ (text : Bor (List ℕ)). text.now) (drop (suc place) texts)

  pub texts_apart : map (λ (text : Bor (List ℕ)). text.now) texts ≡ texts_before ++ text_at ∷ texts_after
  texts_apart =
      let cut : texts ≡ take place texts ++ get_or texts place other ∷ drop (suc place) texts =
      sym (take-append-drop place texts) ∙ ap (λ rest. take place texts ++ rest) (drop-cons texts place other within) in
      ap (map (λ (text : Bor (List ℕ)). text.now)) cut ∙ map-append (λ (text : Bor (List ℕ)). text.now) (take place texts) (get_or texts place other ∷ drop (suc place) texts)

  pub texts_more : map (λ (text : Bor (List ℕ)). text.now) (take (place + 1) texts) ≡ texts_before ++ text_at ∷ []
  texts_more =
      ap (map (λ (text : Bor (List ℕ)). text.now)) (take_more texts place other within)
      ∙ map-append (λ (text : Bor (List ℕ)). text.now) (take place texts) (get_or texts place other ∷ [])

  module _ (asked : Text → Result Person Malformed) (persons : List Person) (said : PiecesSay asked texts_before persons) where
    pub said_more : (one : Person) → asked text_at ≡ Ok one
        → PiecesSay asked (map (λ (text : Bor (List ℕ)). text.now) (take (place + 1) texts)) (persons ++ one ∷ [])
    said_more one is =
        ap (map asked) texts_more ∙ map-append asked texts_before (text_at ∷ [])
        ∙ ap₂ (λ front last. front ++ last ∷ []) said is ∙ sym (map-append Ok persons (one ∷ []))

    pub refused_at : (fault : Malformed) → asked text_at ≡ Err fault
        → each_read asked (map (λ (text : Bor (List ℕ)). text.now) texts) ≡ Err fault
    refused_at fault is = ap (each_read asked) texts_apart ∙ each_read-fault asked texts_before persons text_at texts_after fault said is

pub said_all : (texts : List (Bor (List ℕ))) (place : ℕ) (asked : Text → Result Person Malformed) (persons : List Person) → length texts ≤ place
    → PiecesSay asked (map (λ (text : Bor (List ℕ)). text.now) (take place texts)) persons
    → each_read asked (map (λ (text : Bor (List ℕ)). text.now) texts) ≡ Ok persons
said_all texts place asked persons past said =
    ap (λ (all : List (Bor (List ℕ))). each_read asked (map (λ (text : Bor (List ℕ)). text.now) all)) (sym (take_all place texts past))
    ∙ each_read-said asked _ persons said
