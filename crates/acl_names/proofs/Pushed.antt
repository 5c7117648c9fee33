-- One text is put behind another.
use Rattle.std.proofs.Common.{◌≡◌, ◌∙◌, ℕ, ◌+◌, ◌<◌, ◌≤◌, List, ◌++◌, flat_map, get_or, length, take, ap, refl, arith, append_assoc, length-append, Ok, Err, Result, Vec, vec_capacity, take_at, subst, sym}
use Rattle.acl_names.specs.Pushing.{PushesInRoom}
use Rattle.std.proofs.lemmas.List.Folds.{length-flat_map-take}
use Rattle.acl_names.proofs.Prefixes.{keeps_front, longer_by}
use Rattle.acl_names.proofs.TakeLemmas.{flat_map-take-next}

-- what stands behind what was there was put there
pub PushesInRoom-put : {E Z : Type 0} (bytes : List ℕ) (old new : Vec ℕ Z) → new.items ≡ old.items ++ bytes
    → vec_capacity old ≤ vec_capacity new → PushesInRoom {T = Unit {0}} {E = E} bytes (Ok tt) old new
PushesInRoom-put bytes old new text capacity = record {
  text = text;
  kept = ap (take (length old.items)) text ∙ take_at old.items bytes (length old.items) refl;
  room = tt;
  capacity = capacity;
}

-- if there was no room for a text, there was none for a longer one
pub PushesInRoom-longer : {T E Z : Type 0} {bytes : List ℕ} (longer : List ℕ) {e f : E} {old new : Vec ℕ Z} → length bytes ≤ length longer
    → PushesInRoom {T = T} bytes (Err e) old new → PushesInRoom {T = T} longer (Err f) old new
PushesInRoom-longer longer bound p = record { text = tt; kept = p.kept; room = omega (arith, p.room, bound); capacity = p.capacity }

-- one text was put there, and then another behind it
pub PushesInRoom-then : {E Z : Type 0} {first second : List ℕ} (result : Result (Unit {0}) E) {old mid new : Vec ℕ Z}
    → PushesInRoom {T = Unit {0}} {E = E} first (Ok tt) old mid → PushesInRoom second result mid new → PushesInRoom (first ++ second) result old new
PushesInRoom-then {first = first} {second = second} (Ok _) {old} {mid} {new} a b =
    PushesInRoom-put (first ++ second) old new (b.text ∙ ap (λ (xs : List ℕ). xs ++ second) a.text ∙ append_assoc old.items first second) (omega (arith, a.capacity, b.capacity))
PushesInRoom-then {first = first} {second = second} (Err e) {old} {mid} {new} a b = record {
  text = tt;
  kept = keeps_front old.items first mid.items new.items a.text b.kept;
  room = omega (arith, b.room, longer_by old mid first a.text, a.capacity, length-append first second);
  capacity = omega (arith, a.capacity, b.capacity);
}

-- what was put there is this text
pub PushesInRoom-as : {T E Z : Type 0} {bytes text : List ℕ} {result : Result T E} {old new : Vec ℕ Z}
    → text ≡ bytes → PushesInRoom bytes result old new → PushesInRoom text result old new
PushesInRoom-as {result = result} {old = old} {new = new} is p = subst (λ (bytes : List ℕ). PushesInRoom bytes result old new) (sym is) p

-- the texts of the elements so far were put there, and the next one was, or had no room
module _ {X E Z : Type 0} (text_of : X → List ℕ) (xs : List X) (i : ℕ) (x : X) (inside : i < length xs) (here : x ≡ get_or xs i x) {old mid new : Vec ℕ Z}
    (so_far : PushesInRoom {T = Unit {0}} {E = E} (flat_map text_of (take i xs)) (Ok tt) old mid) where
  pub PushesInRoom-next : PushesInRoom {T = Unit {0}} {E = E} (text_of x) (Ok tt) mid new → PushesInRoom {T = Unit {0}} {E = E} (flat_map text_of (take (i + 1) xs)) (Ok tt) old new
  PushesInRoom-next next = PushesInRoom-as (flat_map-take-next text_of xs i x inside here) (PushesInRoom-then (Ok tt) so_far next)

  pub PushesInRoom-short : {e f : E} → PushesInRoom {T = Unit {0}} (text_of x) (Err e) mid new → PushesInRoom {T = Unit {0}} (flat_map text_of xs) (Err f) old new
  PushesInRoom-short next =
      PushesInRoom-longer (flat_map text_of xs)
      (omega (arith, length-flat_map-take text_of xs i x inside, ap (λ x. length (text_of x)) here, length-append (flat_map text_of (take i xs)) (text_of x)))
      (PushesInRoom-then (Err _) so_far next)
