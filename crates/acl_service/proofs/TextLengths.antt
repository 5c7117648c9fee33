-- A text has no more requests than lines, and no more lines than bytes and one.
use Rattle.std.proofs.Common.{ℕ, ◌+◌, ◌≤◌, List, [], ◌∷◌, length, length-append, arith, ◌==◌}
use Rattle.std.proofs.lemmas.List.Splits.{length-slice_split}
use Rattle.std.proofs.lemmas.List.Sums.{count_by-le-length}
use Rattle.acl_names.specs.Bytes.{newline}
use Rattle.acl_names.specs.Directory.{Known}
use Rattle.acl_names.specs.Pieces.{lines_of, parts, without_empty_last}
use Rattle.acl_lang.specs.Lines.{line_of}
use Rattle.acl_lang.specs.Texts.{numbered_request, requests_from, requests_of}
use Rattle.acl_lang.specs.declared.line.Line.{Line}
use Rattle.acl_lang.specs.declared.line.Line.TheVariants.{Nothing, Command}

fewer_parts : (parts : List (List ℕ)) → length (without_empty_last parts) ≤ length parts
fewer_parts [] = omega arith
fewer_parts ([] ∷ []) = omega arith
fewer_parts ((byte ∷ bytes) ∷ []) = omega arith
fewer_parts ([] ∷ part ∷ more) = omega (arith, fewer_parts (part ∷ more))
fewer_parts ((byte ∷ bytes) ∷ part ∷ more) = omega (arith, fewer_parts (part ∷ more))

one_at_most : (line : ℕ) (read : Line) → length (numbered_request line read) ≤ 1
one_at_most line Nothing = omega arith
one_at_most line (Command request) = omega arith

fewer_requests : (known : Known) (before : ℕ) (lines : List (List ℕ)) → length (requests_from known before lines) ≤ length lines
fewer_requests known before [] = omega arith
fewer_requests known before (line ∷ lines) =
    omega (
      arith,
      length-append (numbered_request (before + 1) (line_of known line))
          (requests_from known (before + 1) lines),
      one_at_most (before + 1)
          (line_of known line),
      fewer_requests known (before + 1) lines,
    )

-- a text has at most one request more than bytes
pub few_requests : (known : Known) (text : List ℕ) → length (requests_of known text) ≤ length text + 1
few_requests known text =
    omega (arith, fewer_requests known 0 (lines_of text), fewer_parts (parts newline text), length-slice_split (λ byte. byte == newline) text, count_by-le-length (λ byte. byte == newline) text)
