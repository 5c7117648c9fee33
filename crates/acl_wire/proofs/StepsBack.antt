-- What an answer says of the steps that led to it.
use Rattle.std.proofs.Common.{◌≡◌, Bool, true, false, cond, Result, Ok, Err, refl, ap}

or_else : {A F : Type 0} → A → Result A F → A
or_else other (Ok x) = x
or_else other (Err fault) = other

-- an answer, of whatever faults there may be
abbrev pub answer : {A : Type 0} (F : Type 0) → A → Result A F
answer F x = Ok x

pub ok_same : {A F : Type 0} (x y : A) → answer F x ≡ Ok y → x ≡ y
unfolding or_else
ok_same x y is = ap (or_else x) is

-- a test held
pub test_held : {A F : Type 0} (test : Bool) (x y : A) (fault : F) → cond test (Ok x) (Err fault) ≡ Ok y → (test ≡ true) × (x ≡ y)
test_held true x y fault is = (refl, ok_same x y is)
test_held false x y fault is = cc
