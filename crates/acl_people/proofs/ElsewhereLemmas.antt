-- Users by other accounts, place by place.
use Rattle.std.proofs.Common.{◌≡◌, ◌∙◌, ◌+◌, ◌<◌, ◌≤◌, ◌==◌, ◌⊎◌, ◌++◌, ◌∷◌, [], ℕ, Bool, List, Option, Some, None, ap, arith, cond, get_or, inl, inr, length, map, refl, sym, take}
use Rattle.std.specs.Prelude.{option_map, slice_get}
use Rattle.std.specs.List.{position, position_from}
use Rattle.std.specs.Option.{option_map_or}
use Rattle.std.proofs.lemmas.Iterator.Adapters.{position_from-zero}
use Rattle.std.proofs.lemmas.List.{length-map, map-append, take_all, take_more}
use Rattle.std.proofs.lemmas.Option.{get_or_from_slice_get, slice_get-map, slice_get_cases, slice_get_past, slice_get_within}
use Rattle.acl_names.specs.Requester.{Identity}
use Rattle.acl_people.specs.Elsewhere.{name_at}
use Rattle.acl_people.specs.Person.{Person, is_root}

same : {Y : Type 0} {first second : Y} → Some first ≡ Some second → first ≡ second
same is = cc

-- who has this name and asks so at a place, as it is shown
module _ {X : Type 0} (shown : Person → X) (persons : List Person) (place : ℕ) where
  by_place : (found : Option Person) → slice_get persons place ≡ found → (name : List ℕ) (who : Identity)
      → option_map (λ one. one.name) found ≡ Some name → option_map (λ one. one.who) found ≡ Some who
      → slice_get (map shown persons) place ≡ Some (shown (record { name = name; who = who }))
  by_place None is name who named asks = cc
  by_place (Some one) is name who named asks =
      slice_get-map shown persons place ∙ ap (option_map shown) is ∙ ap (λ (one : Person). Some (shown one)) (λ i. record { name = same named i; who = same asks i })

  pub one_there : (name : List ℕ) (who : Identity) → slice_get (map (λ one. one.name) persons) place ≡ Some name → slice_get (map (λ one. one.who) persons) place ≡ Some who
      → slice_get (map shown persons) place ≡ Some (shown (record { name = name; who = who }))
  one_there name who named asks =
      by_place (slice_get persons place) (λ i. slice_get persons place) name who (sym (slice_get-map (λ one. one.name) persons place) ∙ named) (sym (slice_get-map (λ one. one.who) persons place) ∙ asks)

-- one more
pub more_there : {X : Type 0} (shown : Person → X) (persons : List Person) (place : ℕ) (other : X) → slice_get (map shown persons) place ≡ Some other
    → map shown (take (place + 1) persons) ≡ map shown (take place persons) ++ other ∷ []
more_there shown persons place other is = by (slice_get persons place) (λ i. slice_get persons place)
  where
    by : (found : Option Person) → slice_get persons place ≡ found → map shown (take (place + 1) persons) ≡ map shown (take place persons) ++ other ∷ []
    by None none =
        let lost : None ≡ Some other = ap (option_map shown) (sym none) ∙ sym (slice_get-map shown persons place) ∙ is in
        cc
    by (Some one) found =
        let it : Some (shown one) ≡ Some other = ap (option_map shown) (sym found) ∙ sym (slice_get-map shown persons place) ∙ is in
        ap (map shown) (take_more persons place one (slice_get_within persons place one found) ∙ ap (λ one. take place persons ++ one ∷ []) (get_or_from_slice_get persons place one one found))
        ∙ map-append shown (take place persons) (one ∷ []) ∙ ap (λ last. map shown (take place persons) ++ last ∷ []) (same it)

-- uid 0 has the same place among those who ask
abbrev asks_as_root : Identity → Bool
asks_as_root who = who.uid == 0

root_from : (persons : List Person) (place : ℕ) → position_from asks_as_root place (map (λ one. one.who) persons) ≡ position_from is_root place persons
root_from [] place = refl
root_from (one ∷ persons) place = ap (λ rest. cond (one.who.uid == 0) (Some place) rest) (root_from persons (place + 1))

pub root_shown : (persons : List Person) → position (λ (who : Identity). who.uid == 0) (map (λ one. one.who) persons) ≡ position is_root persons
root_shown persons =
    position_from-zero asks_as_root (map (λ one. one.who) persons) ∙ root_from persons 0 ∙ sym (position_from-zero is_root persons)

-- behind the last there is nobody
pub past_there : {X Y : Type 0} (part : Person → X) (shown : Person → Y) (persons : List Person) (place : ℕ) → length (map part persons) ≤ place → None ≡ slice_get (map shown persons) place
past_there part shown persons place past =
    sym (slice_get_past (map shown persons) place (omega (arith, length-map persons part, length-map persons shown)))

-- up to where there is nobody they are all
pub all_there : {X : Type 0} (shown : Person → X) (persons : List Person) (place : ℕ) → length persons ≤ place → map shown (take place persons) ≡ map shown persons
all_there shown persons place past = ap (map shown) (take_all place persons past)

-- the name of who is there
pub name_there : (persons : List Person) (place : ℕ) (name : List ℕ) → slice_get (map (λ one. one.name) persons) place ≡ Some name → name ≡ name_at persons place
name_there persons place name is = by (slice_get persons place) (sym (slice_get-map (λ one. one.name) persons place) ∙ is)
  where
    by : (found : Option Person) → option_map (λ one. one.name) found ≡ Some name → name ≡ option_map_or (λ one. one.name) found []
    by None lost = cc
    by (Some one) it = sym (same it)

pub no_name_there : (persons : List Person) (place : ℕ) → None ≡ slice_get (map (λ one. one.name) persons) place → [] ≡ name_at persons place
no_name_there persons place is = by (slice_get persons place) (is ∙ slice_get-map (λ one. one.name) persons place)
  where
    by : (found : Option Person) → None ≡ option_map (λ one. one.name) found → [] ≡ option_map_or (λ one. one.name) found []
    by None it = refl
    by (Some one) lost = cc

-- where nobody is found they are all
pub nobody_left : {X : Type 0} (shown : Person → X) (persons : List Person) (place : ℕ) → None ≡ slice_get (map shown persons) place → map shown (take place persons) ≡ map shown persons
nobody_left shown persons place none = by (slice_get_cases persons place).1
  where
    by : ((one : Person) × (place < length persons) × (slice_get persons place ≡ Some one) × (get_or persons place one ≡ one)) ⊎ ((length persons ≤ place) × (slice_get persons place ≡ None))
        → map shown (take place persons) ≡ map shown persons
    by (inl found) =
        let lost : None ≡ Some (shown found.0) = none ∙ slice_get-map shown persons place ∙ ap (option_map shown) found.2 in
        cc
    by (inr past) = all_there shown persons place past.0

-- what is kept at a place is what is there
pub kept_there : {X Y : Type 0} (kept : List X) (view : X → Y) (persons : List Person) (part : Person → Y) → map view kept ≡ map part persons → (place : ℕ) (one : X) → slice_get kept place ≡ Some one
    → slice_get (map part persons) place ≡ Some (view one)
kept_there {X} {Y} kept view persons part are place one is =
    ap (λ (all : List Y). slice_get all place) (sym are) ∙ slice_get-map view kept place ∙ ap (option_map view) is
