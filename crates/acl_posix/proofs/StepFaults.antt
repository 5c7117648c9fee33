-- Reading step by step: which step a fault is of.
use Rattle.std.proofs.Common.{◌≡◌, ◌≢◌, Option, Some, None, Result, Ok, Err, refl, ap}
use Rattle.acl_names.specs.Steps.{◌>>=◌, or_fault}

-- two readings with the same first step have a fault both, if it is one of the first step or of both the rests
pub same_fault : {A B F : Type 0} (fault : F) (r : Result A F) (f g : A → Result B F) → ((x : A) → f x ≡ Err fault → g x ≡ Err fault)
    → (r >>= f) ≡ Err fault → (r >>= g) ≡ Err fault
same_fault fault (Ok x) f g same e = same x e
same_fault fault (Err other) f g same e = let is : other ≡ fault = cc in ap Err is

-- a fault that the first step doesn't have is one of the rest
pub fault_behind : {A B F : Type 0} (fault : F) (r : Result A F) (f : A → Result B F) → r ≢ Err fault → (r >>= f) ≡ Err fault
    → (x : A) × (r ≡ Ok x) × (f x ≡ Err fault)
fault_behind fault (Ok x) f sound e = (x, refl, e)
fault_behind fault (Err other) f sound e = let is : other ≡ fault = cc in absurd (sound (ap Err is))

-- a step that has one fault doesn't have another
pub other_fault : {A F : Type 0} (one other : F) → one ≢ other → (o : Option A) → or_fault one o ≢ Err other
other_fault one other apart (Some x) = λ e. cc
other_fault one other apart None = λ e. let is : one ≡ other = cc in apart is

-- a fault before a last step that has none
pub fault_before : {A B F : Type 0} (fault : F) (r : Result A F) (last : A → B) → (r >>= (λ x. Ok (last x))) ≡ Err fault → r ≡ Err fault
fault_before fault (Ok x) last e = cc
fault_before fault (Err other) last e = let is : other ≡ fault = cc in ap Err is
