-- What is read so far of the items of a list, and what is left; and what is repeated in a list as it is shown.
use Rattle.std.proofs.Common.{◌≡◌, ◌+◌, ◌++◌, ℕ, Bool, List, [], ◌∷◌, Option, Result, Ok, Err, map, option_map, refl, sym}
use Rattle.std.proofs.lemmas.List.{map-append}
use Rattle.toml.specs.Data.{Data, Items}
use Rattle.acl_names.proofs.AnyLemmas.{list_any-map}
use Rattle.acl_setup.specs.PartsKeys.{repeated_from}
use Rattle.acl_setup.specs.Readings.{each_item}
use Rattle.acl_setup.specs.SetupTable.{texts_in}
use Rattle.acl_setup.specs.declared.key.Key.{Key}

-- the texts so far, and those of the items left
abbrev pub texts_after : List (List ℕ) → Items → Option (List (List ℕ))
texts_after texts left = option_map (λ rest. texts ++ rest) (texts_in left)

-- the values so far, and those of the items left, of which the first has this index
abbrev pub behind : {A : Type 0} → List A → Result (List A) Key → Result (List A) Key
behind values (Ok rest) = Ok (values ++ rest)
behind values (Err key) = Err key

abbrev pub read_after : {A : Type 0} → (ℕ → Data → Result A Key) → List A → ℕ → Items → Result (List A) Key
read_after read values index left = behind values (each_item read index left)

-- what is repeated is so as it is shown
pub repeated-map : {A B : Type 0} (same : B → B → Bool) (shown : A → B) (before : List A) (index : ℕ) (values : List A)
    → repeated_from (λ value other. same (shown value) (shown other)) before index values ≡ repeated_from same (map shown before) index (map shown values)
repeated-map same shown before index [] = refl
repeated-map same shown before index (value ∷ values) =
    rw (sym (list_any-map (same (shown value)) shown before), repeated-map same shown (before ++ value ∷ []) (index + 1) values, map-append shown before (value ∷ [])) refl
