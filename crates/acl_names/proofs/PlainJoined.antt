-- Plain pieces that are joined by commas are read again, piece by piece.
use Rattle.std.proofs.Common.{◌≡◌, ℕ, ◌<◌, List, [], ◌∷◌, ◌++◌, length, map, refl, sym, ap, ◌∙◌, append_assoc, append-nil}
use Rattle.std.specs.List.{All, flat_map, join_with_byte}
use Rattle.std.proofs.lemmas.List.Elements.{All-head, All-tail}
use Rattle.acl_names.specs.Bytes.{comma}
use Rattle.acl_names.specs.Pieces.{pieces}
use Rattle.acl_names.specs.Plain.{IsPlain}
use Rattle.acl_names.proofs.PlainLists.{IsLineFront, nothing_read, comma_read, end_read}

-- what is joined is the first, and each other after the byte
pub joined-cons : {X : Type 0} (byte : ℕ) (text : X → List ℕ) (x : X) (xs : List X)
    → join_with_byte byte (map text (x ∷ xs)) ≡ text x ++ flat_map (λ y. byte ∷ text y) xs
joined-cons byte text x [] = sym (append-nil (text x))
joined-cons byte text x (y ∷ ys) = ap (λ rest. text x ++ byte ∷ rest) (joined-cons byte text y ys)

-- a plain piece
abbrev pub IsPlainPiece : List ℕ → Type 0
IsPlainPiece piece = (0 < length piece) × IsPlain piece

-- what has been read of a line, and the pieces that are joined behind it
pieces_behind : (line : List ℕ) (front : List (List ℕ)) → IsLineFront line front → (first : List ℕ) (more : List (List ℕ)) → All IsPlainPiece (first ∷ more)
    → pieces (line ++ join_with_byte comma (first ∷ more)) ≡ front ++ first ∷ more
pieces_behind line front is first [] each =
    let here = All-head IsPlainPiece first [] each in
    end_read line front is first here.1 here.0
pieces_behind line front is first (second ∷ more) each =
    let here = All-head IsPlainPiece first (second ∷ more) each in
    let rest = join_with_byte comma (second ∷ more) in
    let regrouped : line ++ (first ++ comma ∷ rest) ≡ (line ++ (first ++ comma ∷ [])) ++ rest =
    ap (λ text. line ++ text) (sym (append_assoc first (comma ∷ []) rest)) ∙ sym (append_assoc line (first ++ comma ∷ []) rest) in
    ap pieces regrouped
    ∙ pieces_behind (line ++ (first ++ comma ∷ [])) (front ++ first ∷ []) (comma_read line front is first here.1) second more (All-tail IsPlainPiece first (second ∷ more) each)
    ∙ append_assoc front (first ∷ []) (second ∷ more)

-- the pieces of a text of plain pieces that are joined
pub pieces_of_joined : (texts : List (List ℕ)) → All IsPlainPiece texts → pieces (join_with_byte comma texts) ≡ texts
pieces_of_joined [] each = refl
pieces_of_joined (first ∷ more) each = pieces_behind [] [] nothing_read first more each
