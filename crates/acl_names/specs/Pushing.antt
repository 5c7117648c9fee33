-- What a function does that appends a text.
use Rattle.std.specs.Prelude.{◌≡◌, ◌≤◌, ◌<◌, ◌+◌, ◌++◌, ℕ, List, Vec, Result, length, take}
use Rattle.std.specs.Prelude.{vec_len, vec_capacity, OnOk, OnErr}

module _ {T E Z : Type 0} (bytes : List ℕ) (result : Result T E) (old new : Vec ℕ Z) where
  -- the text was appended; if memory ran out, what was there is still in front
  pub record Pushes : Type 0 where
    pub text : OnOk result (new.items ≡ old.items ++ bytes)
    pub kept : take (length old.items) new.items ≡ old.items

  -- the same; memory ran out only if there was no room for the text, and no room was given up
  pub record PushesInRoom : Type 0 where
    pub text : OnOk result (new.items ≡ old.items ++ bytes)
    pub kept : take (length old.items) new.items ≡ old.items
    pub room : OnErr result (vec_capacity old < vec_len old + length bytes)
    pub capacity : vec_capacity old ≤ vec_capacity new
