-- Where in a line a fault is: at a piece of the list that the line sets.
use Rattle.std.specs.Prelude.{ℕ, ◌+◌, ◌&&◌, Bool, true, false, List, [], ◌∷◌, Option, Some, None}
use Rattle.std.specs.Prelude.{Result, Ok, Err, bytes_eq, codes, if◌then◌else◌, take}
use Rattle.acl_names.specs.Directory.{Known}
use Rattle.acl_names.specs.Pieces.{after_word, first_word, pieces, trim}
use Rattle.acl_nfs4.specs.AceText.{piece_value}
use Rattle.acl_nfs4.specs.declared.limits.TheConstants.{MAX_ACES}
use Rattle.acl_posix.specs.EntryText.{entry_of}
use Rattle.acl_posix.specs.declared.limits.TheConstants.{MAX_ENTRIES}
use Rattle.acl_tree.specs.declared.faults.LineFault.{LineFault}
use Rattle.acl_tree.specs.declared.faults.LineFault.TheVariants.{BadAcl, InheritOnly, UnknownName}

-- a piece of a list's text, and its number, from 1
pub record Piece : Type 0 where
  pub number : ℕ
  pub text : List ℕ

-- by how a piece reads: it is at fault, or else another is
abbrev pub piece_or : {A F : Type 0} → Result A F → Piece → Option Piece → Option Piece
piece_or (Ok value) piece other = other
piece_or (Err fault) piece other = Some piece

-- the first piece that is malformed, of those after so many
abbrev pub first_unread : {A F : Type 0} → (List ℕ → Result A F) → ℕ → List (List ℕ)
    → Option Piece
first_unread read before [] = None
first_unread read before (piece ∷ more) = piece_or (read piece)
    (record { number = before + 1; text = piece }) (first_unread read (before + 1) more)

-- the first of a text's pieces that is malformed, of so many as a list may have
abbrev pub unread_in : {A F : Type 0} → (List ℕ → Result A F) → ℕ → List ℕ → Option Piece
unread_in read most text = first_unread read 0 (take most (pieces text))

-- of TEXT, by the word for the kind of list
abbrev pub unread_of_kind : Known → List ℕ → List ℕ → Option Piece
unread_of_kind known kind text =
    if bytes_eq kind (codes "nfs4") then unread_in (piece_value known) MAX_ACES text
    else unread_in (entry_of known) MAX_ENTRIES text

-- of the fields `PATH KIND TEXT`
abbrev pub unread_of_fields : Known → List ℕ → Option Piece
unread_of_fields known fields =
    unread_of_kind known (first_word (after_word fields)) (after_word (after_word fields))

-- a piece may have this fault
abbrev pub is_of_piece : LineFault → Bool
is_of_piece BadAcl = true
is_of_piece UnknownName = true
is_of_piece InheritOnly = true
is_of_piece fault = false

-- the piece at fault in a line that begins with no blank and ends with none, if it sets a list and
-- has a fault of a piece
abbrev pub piece_of_trimmed : Known → LineFault → List ℕ → Option Piece
piece_of_trimmed known fault line =
    if is_of_piece fault && bytes_eq (first_word line) (codes "set")
    then unread_of_fields known (after_word line) else None

-- and in any line
abbrev pub piece_at_fault : Known → LineFault → List ℕ → Option Piece
piece_at_fault known fault line = piece_of_trimmed known fault (trim line)
