-- What a reading results in: a value, or the first key at which there is none.
use Rattle.std.specs.Prelude.{◌≡◌, ⊤, ℕ, ◌+◌, List, [], ◌∷◌, Option, Some, None, Result, Ok, Err}
use Rattle.std.specs.Prelude.{MatchResult}
use Rattle.toml.specs.Data.{Data, Items, Members, as_array, get_member, item, no_items}
use Rattle.acl_names.specs.Steps.{◌>>=◌, or_fault}
use Rattle.acl_setup.specs.declared.fault.SetupError.{SetupError}
use Rattle.acl_setup.specs.declared.fault.SetupError.TheVariants.{NotToml, BadField, Parts}
use Rattle.acl_setup.specs.declared.fault.SetupError.TheVariants.{Memory}
use Rattle.acl_setup.specs.declared.key.Key.{Key}

-- each item read by its index, of which the first has this one
abbrev pub each_item : {A : Type 0} → (ℕ → Data → Result A Key) → ℕ → Items → Result (List A) Key
each_item read index no_items = Ok []
each_item read index (item first more) = do
  value ← read index first
  values ← each_item read (index + 1) more
  Ok (value ∷ values)

-- the items of an array that may be absent: there are none then
abbrev pub items_of : {A : Type 0} → (ℕ → Data → Result A Key) → Key → Option Data
    → Result (List A) Key
items_of read key None = Ok []
items_of read key (Some value) = or_fault key (as_array value) >>= each_item read 0

-- and of the array with this name, which is at the key
unfoldable pub items_at : {A : Type 0} → (ℕ → Data → Result A Key) → Key → List ℕ → Members
    → Result (List A) Key
items_at read key name table = items_of read key (get_member name table)

-- the fault is at the first key at which the reading has no value, or out of memory
abbrev pub IsBadField : {A : Type 0} → Result A Key → SetupError → Type 0
IsBadField reading (NotToml spot) = ⊥
IsBadField reading (BadField key) = reading ≡ Err key
IsBadField reading (Parts fault key) = ⊥
IsBadField reading Memory = ⊤

-- the result is the value of the reading, or says why there is none
abbrev pub IsReadingOf : {T A : Type 0} → (T → A) → Result A Key → Result T SetupError → Type 0
IsReadingOf shown reading result = MatchResult result (λ value. reading ≡ Ok (shown value))
    (IsBadField reading)
