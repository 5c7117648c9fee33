-- Lists in which no key occurs twice, and lists that ascend by their keys.
use Rattle.std.specs.Prelude.{◌≡◌, Bool, nat_lt, List}
use Rattle.std.specs.List.{AllPairs, count_by, list_any}
use Rattle.std.specs.declared.cmp.Ordering.{Ordering}
use Rattle.std.specs.declared.cmp.Ordering.TheVariants.{Less}

-- some members have the same key; `same` is whether two keys are the same
abbrev pub repeats : {X K : Type 0} → (K → K → Bool) → (X → K) → List X → Bool
repeats same key members = list_any (λ one. nat_lt 1
    (count_by (λ other. same (key other) (key one)) members)) members

-- each member's key is below those of the members after it
abbrev pub IsAscending : {X K : Type 0} → (K → K → Ordering) → (X → K) → List X → Type 0
IsAscending cmp key members = AllPairs (λ one later. cmp (key one) (key later) ≡ Less) members
