-- What is reported if it holds.
use Rattle.std.proofs.Common.{◌≡◌, ℕ, Bool, true, false, List, [], Option, None, Some, append-nil, is_none, is_some, refl, subst, sym}
use Rattle.acl_listing_changes.specs.ChangeSteps.{Appended}
use Rattle.acl_listing_changes.specs.Changes.{ReportsIf}

pub not_none : {A : Type 0} (found : Option A) → is_some found ≡ true → is_none found ≡ false
not_none None some = cc
not_none (Some item) some = refl

pub is_nothing : {A : Type 0} (found : Option A) → is_some found ≡ false → is_none found ≡ true
is_nothing None none = refl
is_nothing (Some item) none = cc

module _ (b : Bool) (Reports : List ℕ → List ℕ → Type 0) where
  pub nothing_if : b ≡ false → (out beside : List ℕ) → Appended (ReportsIf b Reports) out out beside beside
  nothing_if is out beside = record {
    reported = [];
    said = [];
    reports = subst (λ b. ReportsIf b Reports [] []) (sym is) (refl, refl);
    out_is = sym (append-nil out);
    beside_is = sym (append-nil beside);
  }

  pub reported_if : b ≡ true → (out out' beside beside' : List ℕ) → Appended Reports out out' beside beside' → Appended (ReportsIf b Reports) out out' beside beside'
  reported_if is out out' beside beside' appended = record {
    reported = appended.reported;
    said = appended.said;
    reports = subst (λ b. ReportsIf b Reports appended.reported appended.said) (sym is) appended.reports;
    out_is = appended.out_is;
    beside_is = appended.beside_is;
  }
