-- What is reported for sessions: a line for each fault of a line.
use Rattle.std.specs.Prelude.{ℕ, ◌+◌, List, [], ◌∷◌, ◌++◌, Option, Some, None, Vec, codes, decimal}
use Rattle.std.specs.List.{flat_map}
use Rattle.std.specs.declared.alloc.Global.{Global}
use Rattle.clap.specs.Words.{Text}
use Rattle.acl_names.specs.Bytes.{colon, hyphen, newline, space}
use Rattle.acl_names.specs.Directory.{Known}
use Rattle.acl_names.specs.Pieces.{lines_of}
use Rattle.acl_lang.specs.Lines.{line_of}
use Rattle.acl_lang.specs.Printed.{line_fault_word}
use Rattle.acl_lang.specs.declared.line.Line.{Line}
use Rattle.acl_lang.specs.declared.line.Line.TheVariants.{Nothing, Command}
use Rattle.acl_tree.specs.declared.faults.LineFault.{LineFault}
use Rattle.acl_tree.specs.declared.request.Request.{Request}
use Rattle.acl_tree.specs.declared.request.Request.TheVariants.{Bad}
use Rattle.acl_lint.specs.Places.{Piece, piece_at_fault}

-- a fault, the number of its line, and the piece at fault, if it is a piece's
pub record Found : Type 0 where
  pub line : ℕ
  pub fault : LineFault
  pub piece : Option Piece

-- the fault of a line, if what it asks for is one
abbrev pub found_in_request : Known → ℕ → List ℕ → Request → List Found
found_in_request known number bytes (Bad fault) =
    record { line = number; fault = fault; piece = piece_at_fault known fault bytes } ∷ []
found_in_request known number bytes request = []

abbrev pub found_in_read : Known → ℕ → List ℕ → Line → List Found
found_in_read known number bytes Nothing = []
found_in_read known number bytes (Command request) = found_in_request known number bytes request

abbrev pub found_in_line : Known → ℕ → List ℕ → List Found
found_in_line known number bytes = found_in_read known number bytes (line_of known bytes)

-- the faults of lines, of which the first has the number above this one
abbrev pub found_from : Known → ℕ → List (List ℕ) → List Found
found_from known before [] = []
found_from known before (line ∷ lines) =
    found_in_line known (before + 1) line ++ found_from known (before + 1) lines

-- the faults of a text's lines, numbered from 1
abbrev pub found_in : Known → List ℕ → List Found
found_in known text = found_from known 0 (lines_of text)

-- a piece as it stands, and `-` for an empty one
abbrev pub shown_piece : List ℕ → List ℕ
shown_piece [] = hyphen ∷ []
shown_piece (byte ∷ bytes) = byte ∷ bytes

-- `NUMBER PIECE`, and `-` if the fault is no piece's
abbrev pub place_text : Option Piece → List ℕ
place_text None = hyphen ∷ []
place_text (Some piece) = decimal piece.number ++ space ∷ shown_piece piece.text

-- `NAME:LINE: WORD PLACE`
abbrev pub found_text : Text → Found → List ℕ
found_text name found = name ++ colon ∷ decimal found.line ++ codes ": "
    ++ line_fault_word found.fault ++ space ∷ place_text found.piece ++ newline ∷ []

-- what is reported for a session of this name, with this text
abbrev pub session_text : Known → Text → List ℕ → List ℕ
session_text known name text = flat_map (found_text name) (found_in known text)

-- of sessions of these names, with these texts
abbrev pub sessions_text : Known → List Text → List (Vec ℕ Global) → List ℕ
sessions_text known (name ∷ names) (text ∷ texts) =
    session_text known name text.items ++ sessions_text known names texts
sessions_text known _ _ = []
