-- What is found of things, one after the other.
use Rattle.std.proofs.Common.{◌≡◌, ◌++◌, ◌+◌, ℕ, List, [], ◌∷◌, append_assoc, append-nil, length, refl, subst, sym}
use Rattle.acl_names.specs.Pieces.{pieces}
use Rattle.acl_listing_lint.specs.Findings.{AceList, AreFound, AreFoundFrom, AreFoundInAceLines, IsFoundOfAcePiece}

-- one more
pub found_more : {A : Type 0} (Is : A → List ℕ → Type 0) (all old more : List A) (one : A) (so_far first : List ℕ)
    → old ≡ one ∷ more → Is one first → ((rest : List ℕ) → AreFound Is old rest → AreFound Is all (so_far ++ rest))
    → (rest : List ℕ) → AreFound Is more rest → AreFound Is all ((so_far ++ first) ++ rest)
found_more Is all old more one so_far first cut is leads rest are =
    subst (AreFound Is all) (sym (append_assoc so_far first rest))
    (leads (first ++ rest) (subst (λ old. AreFound Is old (first ++ rest)) (sym cut) (first, rest, is, are, refl)))

-- nothing is left
pub found_all : {A : Type 0} (Is : A → List ℕ → Type 0) (all old : List A) (so_far : List ℕ) → old ≡ []
    → ((rest : List ℕ) → AreFound Is old rest → AreFound Is all (so_far ++ rest)) → AreFound Is all so_far
found_all Is all old so_far none leads =
    subst (AreFound Is all) (append-nil so_far) (leads [] (subst (λ old. AreFound Is old []) (sym none) refl))

-- the same of texts that are numbered
pub numbered_more : (Is : ℕ → List ℕ → List ℕ → Type 0) (begin : ℕ) (all : List (List ℕ)) (number : ℕ) (old more : List (List ℕ)) (line so_far first : List ℕ)
    → old ≡ line ∷ more → Is number line first
    → ((rest : List ℕ) → AreFoundFrom Is number old rest → AreFoundFrom Is begin all (so_far ++ rest))
    → (rest : List ℕ) → AreFoundFrom Is (number + 1) more rest → AreFoundFrom Is begin all ((so_far ++ first) ++ rest)
numbered_more Is begin all number old more line so_far first cut is leads rest are =
    subst (AreFoundFrom Is begin all) (sym (append_assoc so_far first rest))
    (leads (first ++ rest) (subst (λ old. AreFoundFrom Is number old (first ++ rest)) (sym cut) (first, rest, is, are, refl)))

pub numbered_all : (Is : ℕ → List ℕ → List ℕ → Type 0) (begin : ℕ) (all : List (List ℕ)) (number : ℕ) (old : List (List ℕ)) (so_far : List ℕ) → old ≡ []
    → ((rest : List ℕ) → AreFoundFrom Is number old rest → AreFoundFrom Is begin all (so_far ++ rest)) → AreFoundFrom Is begin all so_far
numbered_all Is begin all number old so_far none leads =
    subst (AreFoundFrom Is begin all) (append-nil so_far) (leads [] (subst (λ old. AreFoundFrom Is number old []) (sym none) refl))

-- and of lines of an NFSv4 list
pub ace_lines_more : (name : List ℕ) (list : AceList) (begin : ℕ) (all : List (List ℕ)) (number place : ℕ) (old more : List (List ℕ)) (line so_far first : List ℕ)
    → old ≡ line ∷ more → AreFoundFrom (IsFoundOfAcePiece name list number) place (pieces line) first
    → ((rest : List ℕ) → AreFoundInAceLines name list number place old rest → AreFoundInAceLines name list begin 0 all (so_far ++ rest))
    → (rest : List ℕ) → AreFoundInAceLines name list (number + 1) (place + length (pieces line)) more rest → AreFoundInAceLines name list begin 0 all ((so_far ++ first) ++ rest)
ace_lines_more name list begin all number place old more line so_far first cut is leads rest are =
    subst (AreFoundInAceLines name list begin 0 all) (sym (append_assoc so_far first rest))
    (leads (first ++ rest) (subst (λ old. AreFoundInAceLines name list number place old (first ++ rest)) (sym cut) (first, rest, is, are, refl)))

pub ace_lines_all : (name : List ℕ) (list : AceList) (begin : ℕ) (all : List (List ℕ)) (number place : ℕ) (old : List (List ℕ)) (so_far : List ℕ) → old ≡ []
    → ((rest : List ℕ) → AreFoundInAceLines name list number place old rest → AreFoundInAceLines name list begin 0 all (so_far ++ rest))
    → AreFoundInAceLines name list begin 0 all so_far
ace_lines_all name list begin all number place old so_far none leads =
    subst (AreFoundInAceLines name list begin 0 all) (append-nil so_far) (leads [] (subst (λ old. AreFoundInAceLines name list number place old []) (sym none) refl))
