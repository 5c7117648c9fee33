-- The first member of each name.
use Rattle.std.specs.Prelude.{◌≡◌, ℕ, List, bytes_eq}
use Rattle.std.specs.List.{find}
use Rattle.std.specs.Cmp.Lexicographic.{slice_cmp}
use Rattle.std.specs.Ordering.{nat_cmp}
use Rattle.acl_names.specs.Ascending.{IsAscending}

-- each name occurs once, in the order of names, and is found as before
pub record AreFirsts {X : Type 0} (name_of : X → List ℕ) (members firsts : List X) : Type 0 where
  pub ascends : IsAscending (slice_cmp nat_cmp) name_of firsts
  pub found : (name : List ℕ) → find (λ member. bytes_eq (name_of member) name) firsts
      ≡ find (λ member. bytes_eq (name_of member) name) members
