-- Lists as a loop goes through them.
use Rattle.std.proofs.Common.{◌≡◌, ℕ, ◌+◌, ◌<◌, ap, sym, ◌∙◌, List, [], ◌∷◌, ◌++◌, length, get_or, take, append-nil, add-one, subst}
use Rattle.std.proofs.Math.Seq.{take-suc}
use Rattle.std.specs.Prelude.{flat_map}
use Rattle.std.specs.List.{All}
use Rattle.std.proofs.lemmas.List.Elements.{All-nil, All-cons, All-append}
use Rattle.std.proofs.lemmas.Grind.{flat_map-append}

-- what holds of the elements so far, and of the next
pub All-take-next : {X : Type 0} (P : X → Type 0) (xs : List X) (i : ℕ) (x : X) → i < length xs → x ≡ get_or xs i x
    → All P (take i xs) → P x → All P (take (i + 1) xs)
All-take-next P xs i x inside here before holds =
    subst (All P) (sym (rw add-one (take-suc xs i x inside) ∙ ap (λ y. take i xs ++ y ∷ []) (sym here)))
    (All-append P (take i xs) (x ∷ []) before (All-cons P x [] holds (All-nil P)))

-- what the elements so far make, and the next
pub flat_map-take-next : {X Y : Type 0} (f : X → List Y) (xs : List X) (i : ℕ) (x : X) → i < length xs → x ≡ get_or xs i x
    → flat_map f (take (i + 1) xs) ≡ flat_map f (take i xs) ++ f x
flat_map-take-next f xs i x inside here =
    ap (flat_map f) (rw add-one (take-suc xs i x inside) ∙ ap (λ y. take i xs ++ y ∷ []) (sym here))
    ∙ flat_map-append f (take i xs) (x ∷ [])
    ∙ ap (λ ys. flat_map f (take i xs) ++ ys) (append-nil (f x))
