-- Reading step by step: what a value that is read says of each step.
use Rattle.std.proofs.Common.{◌≡◌, ◌⊎◌, ℕ, Bool, true, false, nat_le, List, Option, Some, None, Result, Ok, Err, refl, ap, ◌∙◌, inl, inr, is_none, if◌then◌else◌, IsErrAnd}
use Rattle.std.proofs.lemmas.Option.{cond_some}
pub use Rattle.std.proofs.lemmas.Option.{cond_some as some_from_cond}
use Rattle.acl_names.specs.declared.limits.TheConstants.{MAX_ID}
use Rattle.acl_names.specs.Ids.{Written, Number, Name, number_or_name, has_name_shape, id_of_written}
use Rattle.acl_names.specs.Steps.{◌>>=◌, map_fault, or_fault}

-- a step that succeeded
pub bind_ok : {A B F : Type 0} (r : Result A F) (f : A → Result B F) (y : B) → (r >>= f) ≡ Ok y → (x : A) × (r ≡ Ok x) × (f x ≡ Ok y)
bind_ok (Ok x) f y e = (x, refl, e)
bind_ok (Err fault) f y e = cc

-- a fault that was handed on
pub handed_on : {A F : Type 0} (r : Result A F) (fault : F) → IsErrAnd r (λ cause. cause ≡ fault) → r ≡ Err fault
handed_on (Ok x) fault is = absurd is
handed_on (Err cause) fault is = ap Err is

pub given : {A F : Type 0} (fault : F) (o : Option A) (x : A) → or_fault fault o ≡ Ok x → o ≡ Some x
given fault (Some y) x e = cc
given fault None x e = cc

-- what is read is read, whatever its fault is reported as
pub map_fault-ok : {A F G : Type 0} (becomes : F → G) (r : Result A F) (x : A) → map_fault becomes r ≡ Ok x → r ≡ Ok x
map_fault-ok becomes (Ok y) x e = cc
map_fault-ok becomes (Err fault) x e = cc

-- a fault of two steps is reported as one of either
pub map_fault-bind : {A B F G : Type 0} (becomes : F → G) (r : Result A F) (f : A → Result B F)
    → map_fault becomes (r >>= f) ≡ map_fault becomes r >>= (λ x. map_fault becomes (f x))
map_fault-bind becomes (Ok x) f = refl
map_fault-bind becomes (Err fault) f = refl

-- a test that gave a value
pub if_then : {A F : Type 0} (b : Bool) (fault : F) (x y : A) → (if b then Ok x else Err fault) ≡ Ok y → (b ≡ true) × (x ≡ y)
if_then true fault x y e = (refl, cc)
if_then false fault x y e = cc

pub if_else : {A F : Type 0} (b : Bool) (fault : F) (x y : A) → (if b then Err fault else Ok x) ≡ Ok y → (b ≡ false) × (x ≡ y)
if_else true fault x y e = cc
if_else false fault x y e = (refl, cc)

pub is_none-true : {A : Type 0} (o : Option A) → is_none o ≡ true → o ≡ None
is_none-true None e = refl
is_none-true (Some x) e = cc

-- an id that is written and known
pub written_by : (id_of : List ℕ → Option ℕ) (text : List ℕ) (number : Option ℕ) (w : Written) (id : ℕ)
    → number_or_name number text ≡ Some w → id_of_written id_of w ≡ Some id → (number ≡ Some id) ⊎ ((has_name_shape text ≡ true) × (id_of text ≡ Some id))
written_by id_of text (Some n) w id e f =
    let is : Number n ≡ w = cc in
    let that = cond_some (nat_le n MAX_ID) n id (ap (id_of_written id_of) is ∙ f) in
    inl (ap Some that.1)
written_by id_of text None w id e f =
    let choice = cond_some (has_name_shape text) (Name text) w e in
    inr (choice.0, ap (id_of_written id_of) choice.1 ∙ f)
