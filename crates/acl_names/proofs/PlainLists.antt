-- A text of plain pieces, between which a comma or a newline stands, read piece by piece.
use Rattle.std.proofs.Common.{◌≡◌, ℕ, ◌==◌, ◌<◌, true, false, List, [], ◌∷◌, ◌++◌, length, map, length-append}
use Rattle.std.proofs.Common.{get_or, take, drop, ◌-◌, Result, refl, sym, ap, ◌∙◌, append_assoc, arith}
use Rattle.std.proofs.Common.{flat_map, eqb-true, append-nil, take_all}
use Rattle.std.proofs.lemmas.List.Elements.{All-nil, All-cons, All-append}
use Rattle.std.proofs.lemmas.List.Splits.{slice_split_at, slice_split_none}
use Rattle.acl_names.specs.Bytes.{newline, hash, comma}
use Rattle.acl_names.specs.Pieces.{is_blank, trim, trimmed_parts, content, pieces_of_content, pieces}
use Rattle.acl_names.specs.Plain.{IsPlain, IsFront}
use Rattle.acl_names.specs.ListText.{PiecesSay}
use Rattle.acl_names.proofs.ListTextLemmas.{Say-push}
use Rattle.acl_names.proofs.PlainLines.{Lacks, LacksBlanks, plain_lacks_blanks, plain_lacks_newline, plain_lacks_hash, plain_lacks_comma, trim_same, before_no_hash}

-- what has been read of a line: pieces, each with a comma after it
pub record IsLineFront (line : List ℕ) (front : List (List ℕ)) : Type 0 where
  pub blanks : LacksBlanks line
  pub newlines : Lacks newline line
  pub hashes : Lacks hash line
  pub split : (more : List ℕ) → trimmed_parts comma (line ++ more) ≡ front ++ trimmed_parts comma more

pub nothing_read : IsLineFront [] []
nothing_read = record {
  blanks = All-nil (λ x. is_blank x ≡ false);
  newlines = All-nil (λ x. (x == newline) ≡ false);
  hashes = All-nil (λ x. (x == hash) ≡ false);
  split = λ more. refl;
}

module _ (line : List ℕ) (front : List (List ℕ)) (is : IsLineFront line front) (piece : List ℕ) (plain : IsPlain piece) where
  piece_and_comma : (more : List ℕ) → trimmed_parts comma (piece ++ comma ∷ more) ≡ piece ∷ trimmed_parts comma more
  piece_and_comma more =
      ap (map trim) (slice_split_at (λ x. x == comma) piece comma more (plain_lacks_comma piece plain) refl)
      ∙ ap (λ t. t ∷ trimmed_parts comma more) (trim_same piece (plain_lacks_blanks piece plain))

  -- a piece and a comma
  pub comma_read : IsLineFront (line ++ (piece ++ comma ∷ [])) (front ++ piece ∷ [])
  comma_read = record {
    blanks = All-append (λ x. is_blank x ≡ false) line (piece ++ comma ∷ []) is.blanks
        (All-append (λ x. is_blank x ≡ false) piece (comma ∷ []) (plain_lacks_blanks piece plain) (All-cons (λ x. is_blank x ≡ false) comma [] refl (All-nil (λ x. is_blank x ≡ false))));
    newlines = All-append (λ x. (x == newline) ≡ false) line (piece ++ comma ∷ []) is.newlines
        (All-append (λ x. (x == newline) ≡ false) piece (comma ∷ []) (plain_lacks_newline piece plain) (All-cons (λ x. (x == newline) ≡ false) comma [] refl (All-nil (λ x. (x == newline) ≡ false))));
    hashes = All-append (λ x. (x == hash) ≡ false) line (piece ++ comma ∷ []) is.hashes
        (All-append (λ x. (x == hash) ≡ false) piece (comma ∷ []) (plain_lacks_hash piece plain) (All-cons (λ x. (x == hash) ≡ false) comma [] refl (All-nil (λ x. (x == hash) ≡ false))));
    split = λ more.
        ap (trimmed_parts comma) (append_assoc line (piece ++ comma ∷ []) more ∙ ap (λ t. line ++ t) (append_assoc piece (comma ∷ []) more))
        ∙ is.split (piece ++ comma ∷ more)
        ∙ ap (λ t. front ++ t) (piece_and_comma more)
        ∙ sym (append_assoc front (piece ∷ []) (trimmed_parts comma more));
  }

  pub whole_blanks : LacksBlanks (line ++ piece)
  whole_blanks = All-append (λ x. is_blank x ≡ false) line piece is.blanks (plain_lacks_blanks piece plain)

  pub whole_newlines : Lacks newline (line ++ piece)
  whole_newlines = All-append (λ x. (x == newline) ≡ false) line piece is.newlines (plain_lacks_newline piece plain)

  pub whole_hashes : Lacks hash (line ++ piece)
  whole_hashes = All-append (λ x. (x == hash) ≡ false) line piece is.hashes (plain_lacks_hash piece plain)

  content_is : content (line ++ piece) ≡ line ++ piece
  content_is = ap trim (before_no_hash (line ++ piece) whole_hashes) ∙ trim_same (line ++ piece) whole_blanks

  last_part : trimmed_parts comma piece ≡ piece ∷ []
  last_part =
      ap (map trim) (slice_split_none (λ y. y == comma) piece (plain_lacks_comma piece plain))
      ∙ ap (λ t. t ∷ []) (trim_same piece (plain_lacks_blanks piece plain))

  some_content : (bytes : List ℕ) → 0 < length bytes → pieces_of_content bytes ≡ trimmed_parts comma bytes
  some_content [] some = absurd (omega arith)
  some_content (byte ∷ bytes) some = refl

  module _ (some : 0 < length piece) where
    line_pieces : pieces_of_content (content (line ++ piece)) ≡ front ++ piece ∷ []
    line_pieces =
        ap pieces_of_content content_is
        ∙ some_content (line ++ piece) (omega (arith, length-append line piece))
        ∙ is.split piece
        ∙ ap (λ t. front ++ t) last_part

    -- a piece and the end of the text
    pub end_read : pieces (line ++ piece) ≡ front ++ piece ∷ []
    end_read =
        ap (flat_map (λ l. pieces_of_content (content l))) (slice_split_none (λ x. x == newline) (line ++ piece) whole_newlines)
        ∙ append-nil (pieces_of_content (content (line ++ piece)))
        ∙ line_pieces

    -- a piece and a newline
    pub newline_read : (more : List ℕ) → pieces (line ++ (piece ++ newline ∷ more)) ≡ (front ++ piece ∷ []) ++ pieces more
    newline_read more =
        ap pieces (sym (append_assoc line piece (newline ∷ more)))
        ∙ ap (flat_map (λ l. pieces_of_content (content l))) (slice_split_at (λ x. x == newline) (line ++ piece) newline more whole_newlines refl)
        ∙ ap (λ t. t ++ pieces more) line_pieces

-- a text that is read so far: the pieces of its whole lines, and those of a line
pub record IsReadPlainly {A F : Type 0} (value_of : List ℕ → Result A F) (text rest : List ℕ) (list : List A) : Type 0 where
  pub before : List (List ℕ)
  pub front : List (List ℕ)
  pub line : List ℕ
  pub cut : pieces text ≡ before ++ pieces (line ++ rest)
  pub is : IsLineFront line front
  pub said : PiecesSay value_of (before ++ front) list

module _ {A F : Type 0} (value_of : List ℕ → Result A F) (text : List ℕ) where
  pub started : IsReadPlainly value_of text text []
  started = record { before = []; front = []; line = []; cut = refl; is = nothing_read; said = refl }

  module _ (rest : List ℕ) (list : List A) (so_far : IsReadPlainly value_of text rest list) (value : A) (behind : List ℕ) (found : IsFront value_of rest value behind) where
    said_more : PiecesSay value_of (so_far.before ++ (so_far.front ++ found.piece ∷ [])) (list ++ value ∷ [])
    said_more = rw (← append_assoc) (Say-push value_of (so_far.before ++ so_far.front) list found.piece value so_far.said found.said)

    pub ended : behind ≡ [] → PiecesSay value_of (pieces text) (list ++ value ∷ [])
    ended none =
        let whole : rest ≡ found.piece = found.cut ∙ ap (λ t. found.piece ++ t) none ∙ append-nil found.piece in
        let all : pieces text ≡ so_far.before ++ (so_far.front ++ found.piece ∷ []) =
        so_far.cut ∙ ap (λ t. so_far.before ++ pieces (so_far.line ++ t)) whole
        ∙ ap (λ t. so_far.before ++ t) (end_read so_far.line so_far.front so_far.is found.piece found.plain found.some) in
        rw all said_more

    pub after_comma : (more : List ℕ) → behind ≡ comma ∷ more → IsReadPlainly value_of text more (list ++ value ∷ [])
    after_comma more next =
        let piece = found.piece in
        let line = so_far.line ++ (piece ++ comma ∷ []) in
        let regrouped : so_far.line ++ rest ≡ line ++ more =
        ap (λ t. so_far.line ++ t) (found.cut ∙ ap (λ t. piece ++ t) next ∙ sym (append_assoc piece (comma ∷ []) more)) ∙ sym (append_assoc so_far.line (piece ++ comma ∷ []) more) in
        record {
          before = so_far.before;
          front = so_far.front ++ piece ∷ [];
          line = line;
          cut = so_far.cut ∙ ap (λ t. so_far.before ++ pieces t) regrouped;
          is = comma_read so_far.line so_far.front so_far.is piece found.plain;
          said = said_more;
        }

    pub after_newline : (more : List ℕ) → behind ≡ newline ∷ more → IsReadPlainly value_of text more (list ++ value ∷ [])
    after_newline more next =
        let piece = found.piece in
        let read = so_far.front ++ piece ∷ [] in
        record {
          before = so_far.before ++ read;
          front = [];
          line = [];
          cut = so_far.cut
              ∙ ap (λ t. so_far.before ++ pieces (so_far.line ++ t)) (found.cut ∙ ap (λ t. piece ++ t) next)
              ∙ ap (λ t. so_far.before ++ t) (newline_read so_far.line so_far.front so_far.is piece found.plain found.some more)
              ∙ sym (append_assoc so_far.before read (pieces more));
          is = nothing_read;
          said = rw append-nil said_more;
        }

    pub ended_by_newline : behind ≡ newline ∷ [] → PiecesSay value_of (pieces text) (list ++ value ∷ [])
    unfolding after_newline
    ended_by_newline next =
        let at_end = after_newline [] next in
        let all : pieces text ≡ so_far.before ++ (so_far.front ++ found.piece ∷ []) = at_end.cut ∙ append-nil (so_far.before ++ (so_far.front ++ found.piece ∷ [])) in
        rw all said_more

-- a list from its first element on
pub from_first : (xs : List ℕ) (x : ℕ) → (length xs == 0) ≡ false → get_or xs 0 0 ≡ x → xs ≡ x ∷ take (length xs - 1) (drop 1 xs)
from_first [] x some first = absurd (cc)
from_first (y ∷ ys) x some first =
    let n : length (y ∷ ys) - 1 ≡ length ys = omega arith in
    ap (λ h. h ∷ ys) first ∙ sym (ap (λ k. x ∷ take k ys) n ∙ ap (λ t. x ∷ t) (take_all (length ys) ys (omega arith)))

pub no_element : (xs : List ℕ) → (length xs == 0) ≡ true → xs ≡ []
no_element [] none = refl
no_element (x ∷ xs) none = let zero : length (x ∷ xs) ≡ 0 = eqb-true (length (x ∷ xs)) 0 none in absurd (omega arith)

pub only_element : (xs : List ℕ) (x : ℕ) → (length xs == 0) ≡ false → get_or xs 0 0 ≡ x → (length (take (length xs - 1) (drop 1 xs)) == 0) ≡ true → xs ≡ x ∷ []
only_element xs x some first none = from_first xs x some first ∙ ap (λ t. x ∷ t) (no_element (take (length xs - 1) (drop 1 xs)) none)
