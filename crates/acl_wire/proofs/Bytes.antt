-- Bytes, by their places.
use Rattle.std.proofs.Common.{ℕ, ◌+◌, ◌<◌, List, length, get_or, take, drop, arith, inl, inr}
use Rattle.std.proofs.lemmas.Bool.{cases_lt}
use Rattle.std.proofs.lemmas.List.{get_or-take, get_or-drop, length-take}
use Rattle.std.proofs.Math.ListN.{get_or-eq_default}
use Rattle.acl_wire.specs.Written.{AreBytes}

-- each element is a byte, and so is what stands behind the end
abbrev pub Bounded : List ℕ → Type 0
Bounded bytes = (i : ℕ) → get_or bytes i 0 < 256

pub bounded : (bytes : List ℕ) → AreBytes bytes → Bounded bytes
bounded bytes are i = elim (cases_lt i (length bytes)) [
  | inl inside ↦ are i 0 inside
  | inr outside ↦ rw (get_or-eq_default bytes 0 {n = i} outside) (omega arith)
]

pub bounded-take : (n : ℕ) (bytes : List ℕ) → Bounded bytes → Bounded (take n bytes)
bounded-take n bytes are i = elim (cases_lt i n) [
  | inl inside ↦ rw (get_or-take n bytes i 0 inside) (are i)
  | inr outside ↦ rw (get_or-eq_default (take n bytes) 0 {n = i} (omega (arith, outside, length-take n bytes))) (omega arith)
]

pub bounded-drop : (n : ℕ) (bytes : List ℕ) → Bounded bytes → Bounded (drop n bytes)
bounded-drop n bytes are i = rw (get_or-drop n bytes i 0) (are (n + i))
