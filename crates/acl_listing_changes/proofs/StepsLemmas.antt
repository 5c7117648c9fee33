-- What is reported step by step.
use Rattle.std.proofs.Common.{◌++◌, ℕ, zero, suc, List, [], ◌∷◌, Option, Some, None, arith, length, refl, subst, sym, take}
use Rattle.std.proofs.lemmas.List.{take_all}
use Rattle.std.specs.Prelude.{IfSome}
use Rattle.acl_cli.specs.Reporting.{LeadsOn}
use Rattle.acl_listing_changes.specs.ChangeSteps.{HandsOn}
use Rattle.acl_listing_changes.specs.Changes.{ReportsEach}

module _ {A : Type 0} (Reports : A → List ℕ → List ℕ → Type 0) where
  -- of all steps that are left, and of the first of them, if these are known

  abbrev pub AllOf : Option (List A) → List ℕ → List ℕ → Type 0
  AllOf steps reported said = IfSome steps (λ steps. ReportsEach Reports steps reported said)

  abbrev pub FrontOf : Option (List A) → List ℕ → List ℕ → Type 0
  FrontOf steps reported said = IfSome steps (λ steps. (count : ℕ) × ReportsEach Reports (take count steps) reported said)

  -- one of them is reported

  pub all_on : (old : Option (List A)) (step : A) (new : Option (List A)) → HandsOn old step new → (reported said : List ℕ) → Reports step reported said
      → LeadsOn (AllOf old) (AllOf new) reported said
  all_on None step new hands reported said reports = λ rest others all. tt
  all_on (Some steps) step None hands reported said reports = absurd hands
  all_on (Some steps) step (Some more) hands reported said reports = λ rest others all.
      subst (λ steps. ReportsEach Reports steps (reported ++ rest) (said ++ others)) (sym hands) (reported, rest, said, others, reports, all, refl, refl)

  pub front_on : (old : Option (List A)) (step : A) (new : Option (List A)) → HandsOn old step new → (reported said : List ℕ) → Reports step reported said
      → LeadsOn (FrontOf old) (FrontOf new) reported said
  front_on None step new hands reported said reports = λ rest others all. tt
  front_on (Some steps) step None hands reported said reports = absurd hands
  front_on (Some steps) step (Some more) hands reported said reports = λ rest others first.
      subst (λ steps. (count : ℕ) × ReportsEach Reports (take count steps) (reported ++ rest) (said ++ others)) (sym hands)
      (suc first.0, (reported, rest, said, others, reports, first.1, refl, refl))

  -- nothing yet is a front
  pub front_none : (steps : Option (List A)) → FrontOf steps [] []
  front_none None = tt
  front_none (Some steps) = (0, (refl, refl))

  -- and so is all of it
  pub all_front : (steps : Option (List A)) (reported said : List ℕ) → AllOf steps reported said → FrontOf steps reported said
  all_front None reported said reports = tt
  all_front (Some steps) reported said reports =
      (length steps, subst (λ steps. ReportsEach Reports steps reported said) (sym (take_all (length steps) steps (omega arith))) reports)

-- what is reported of each of some steps is reported for each of others
module _ {A B : Type 0} (Reports : A → List ℕ → List ℕ → Type 0) (Means : B → List ℕ → List ℕ → Type 0) where
  abbrev pub AreLike : List A → List B → Type 0
  AreLike [] [] = Unit {0}
  AreLike [] (other ∷ others) = ⊥
  AreLike (step ∷ steps) [] = ⊥
  AreLike (step ∷ steps) (other ∷ others) = ((reported said : List ℕ) → Reports step reported said → Means other reported said) × AreLike steps others

  pub each_like : (steps : List A) (others : List B) → AreLike steps others → (reported said : List ℕ) → ReportsEach Reports steps reported said → ReportsEach Means others reported said
  each_like [] [] like reported said reports = reports
  each_like [] (other ∷ others) like reported said reports = absurd like
  each_like (step ∷ steps) [] like reported said reports = absurd like
  each_like (step ∷ steps) (other ∷ others) (here, like) reported said (first, rest, one, more, is, all, reported_is, said_is) =
      (first, rest, one, more, here first one is, each_like steps others like rest more all, reported_is, said_is)

  pub front_like : (steps : List A) (others : List B) → AreLike steps others → (count : ℕ) (reported said : List ℕ) → ReportsEach Reports (take count steps) reported said
      → ReportsEach Means (take count others) reported said
  front_like steps others like zero reported said reports = reports
  front_like [] [] like (suc count) reported said reports = reports
  front_like [] (other ∷ others) like (suc count) reported said reports = absurd like
  front_like (step ∷ steps) [] like (suc count) reported said reports = absurd like
  front_like (step ∷ steps) (other ∷ others) like (suc count) reported said (first, rest, one, more, is, all, reported_is, said_is) =
      (first, rest, one, more, like.0 first one is, front_like steps others like.1 count rest more all, reported_is, said_is)
