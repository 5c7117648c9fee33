-- The paths of a listing, kept with the places of their letters.
use Rattle.std.proofs.Common.{◌≡◌, ◌∙◌, ◌<◌, ◌++◌, ◌||◌, ℕ, zero, suc, Bool, true, false, cond, List, [], ◌∷◌, Option, Some, None, inl, inr, ap, append-nil, arith, is_some, length, length-append, map, nat_eq, option_map, refl, subst, sym}
use Rattle.std.specs.Prelude.{Vec, slice_get}
use Rattle.std.specs.Cmp.Lexicographic.{pointwise}
use Rattle.std.specs.List.{find}
use Rattle.std.specs.Map.{lookup}
use Rattle.std.specs.declared.alloc.Global.{Global}
use Rattle.std.proofs.lemmas.List.{map-append}
use Rattle.acl_listing_reach.specs.KnownSteps.{AreWithin, IsGrown, IsGrownBy, IsGrownByAny, IsWithin, Kept, Texts, at_in, letters_in}
use Rattle.acl_listing_reach.specs.Once.{At, has_path, is_at, letters_for}

-- ---- a path among them

module _ (path : List ℕ) (known : Texts) where
  abbrev pub is_key : Vec ℕ Global → Bool
  is_key key = pointwise nat_eq path key.items

  pub has_entry : (entries : List Kept) → is_some (lookup is_key entries) ≡ has_path path (map (at_in known) entries)
  has_entry [] = refl
  has_entry (entry ∷ entries) = by (is_key entry.0) (has_entry entries)
    where
      by : (b : Bool) → is_some (lookup is_key entries) ≡ has_path path (map (at_in known) entries)
          → is_some (cond b (Some entry.1) (lookup is_key entries)) ≡ (b || has_path path (map (at_in known) entries))
      by true same = refl
      by false same = same

  pub letters_entry : (entries : List Kept) → option_map (letters_in known) (lookup is_key entries) ≡ letters_for path (map (at_in known) entries)
  letters_entry [] = refl
  letters_entry (entry ∷ entries) = by (is_key entry.0) (letters_entry entries)
    where
      by : (b : Bool) → option_map (letters_in known) (lookup is_key entries) ≡ letters_for path (map (at_in known) entries)
          → option_map (letters_in known) (cond b (Some entry.1) (lookup is_key entries))
          ≡ option_map (λ (at : At). at.letters) (cond b (Some (at_in known entry)) (find (is_at path) (map (at_in known) entries)))
      by true same = refl
      by false same = same

  -- one that isn't there has no entry
  pub no_entry : (entries : List Kept) → has_path path (map (at_in known) entries) ≡ false → lookup is_key entries ≡ None
  no_entry entries lacks = by (lookup is_key entries) (has_entry entries ∙ lacks)
    where
      by : (found : Option (Option ℕ)) → is_some found ≡ false → found ≡ None
      by None none = refl
      by (Some place) none = absurd (cc)

-- ---- more letters

stands_there : {X : Type 0} (old more : List X) (place : ℕ) → place < length old → slice_get (old ++ more) place ≡ slice_get old place
stands_there [] more place within = absurd (omega (arith, within))
stands_there (item ∷ old) more zero within = refl
stands_there (item ∷ old) more (suc place) within = stands_there old more place (omega (arith, within))

module _ (old more : Texts) where
  same_letters : (place : Option ℕ) → IsWithin (length old) place → letters_in (old ++ more) place ≡ letters_in old place
  same_letters None within = refl
  same_letters (Some place) within = ap (option_map (λ letters. letters.items)) (stands_there old more place within)

  same_paths : (entries : List Kept) → AreWithin (length old) entries → map (at_in (old ++ more)) entries ≡ map (at_in old) entries
  same_paths [] within = refl
  same_paths (entry ∷ entries) within =
      ap (λ letters. record { path = entry.0.items; letters = letters } ∷ map (at_in (old ++ more)) entries) (same_letters entry.1 within.0)
      ∙ ap (λ ats. at_in old entry ∷ ats) (same_paths entries within.1)

  further : (place : Option ℕ) → IsWithin (length old) place → IsWithin (length (old ++ more)) place
  further None within = tt
  further (Some place) within = omega (arith, within, length-append old more)

  all_further : (entries : List Kept) → AreWithin (length old) entries → AreWithin (length (old ++ more)) entries
  all_further [] within = tt
  all_further (entry ∷ entries) within = (further entry.1 within.0, all_further entries within.1)

-- what was kept stays as it is
pub grown_paths : (old new : Texts) → IsGrown old new → (entries : List Kept) → AreWithin (length old) entries → map (at_in new) entries ≡ map (at_in old) entries
grown_paths old new (more, is) entries within = ap (λ known. map (at_in known) entries) is ∙ same_paths old more entries within

pub grown_within : (old new : Texts) → IsGrown old new → (entries : List Kept) → AreWithin (length old) entries → AreWithin (length new) entries
grown_within old new (more, is) entries within = subst (λ known. AreWithin (length known) entries) (sym is) (all_further old more entries within)

-- these letters stand there once more, or did already
pub grown_if : (there : Bool) (known : Texts) (one : Vec ℕ Global) (letters : List ℕ) → one.items ≡ letters → IsGrownBy letters known (cond there known (known ++ one ∷ []))
grown_if true known one letters is = inl refl
grown_if false known one letters is = inr (one, is, refl)

pub grown_by : (letters : Option (List ℕ)) (old new : Texts) → IsGrownByAny letters old new → IsGrown old new
grown_by None old new same = ([], same ∙ sym (append-nil old))
grown_by (Some letters) old new (inl same) = ([], same ∙ sym (append-nil old))
grown_by (Some letters) old new (inr (one, text, more)) = (one ∷ [], more)

-- one path more
pub within_more : (count : ℕ) (entries : List Kept) → AreWithin count entries → (entry : Kept) → IsWithin count entry.1 → AreWithin count (entries ++ entry ∷ [])
within_more count [] within entry here = (here, tt)
within_more count (first ∷ entries) within entry here = (within.0, within_more count entries within.1 entry here)

pub path_more : (old new : Texts) → IsGrown old new → (entries : List Kept) → AreWithin (length old) entries → (entry : Kept) (letters : Option (List ℕ)) → letters_in new entry.1 ≡ letters
    → map (at_in new) (entries ++ entry ∷ []) ≡ map (at_in old) entries ++ record { path = entry.0.items; letters = letters } ∷ []
path_more old new grown entries within entry letters is =
    map-append (at_in new) entries (entry ∷ [])
    ∙ ap (λ ats. ats ++ at_in new entry ∷ []) (grown_paths old new grown entries within)
    ∙ ap (λ letters. map (at_in old) entries ++ record { path = entry.0.items; letters = letters } ∷ []) is
