-- What is reported for sessions, beside what `run` answers and what the pieces of a list say.
use Rattle.std.specs.Prelude.{◌≡◌, ◌≢◌, ◌++◌, ◌+◌, ℕ, All, List, [], ◌∷◌, Option, Some, None, Ok}
use Rattle.std.specs.Prelude.{Err, IsSomeAnd, bytes_eq, codes, if◌then◌else◌, length}
use Rattle.std.specs.Prelude.{map, true}
use Rattle.std.specs.List.{flat_map}
use Rattle.acl_names.specs.Directory.{Known}
use Rattle.acl_names.specs.Pieces.{after_word, first_word, pieces, trim}
use Rattle.acl_names.specs.Steps.{map_fault}
use Rattle.acl_nfs4.specs.AceText.{piece_value}
use Rattle.acl_posix.specs.AclText.{entry_in}
use Rattle.acl_posix.specs.EntryText.{entry_of}
use Rattle.acl_lang.specs.Fields.{as_ace}
use Rattle.acl_lang.specs.Lines.{line_of}
use Rattle.acl_lang.specs.Refusals.{Asked, acl_line_fault}
use Rattle.acl_lang.specs.Texts.{requests_of}
use Rattle.acl_lang.specs.declared.answer.Answer.{Answer}
use Rattle.acl_lang.specs.declared.line.Line.TheVariants.{Command}
use Rattle.acl_service.specs.Runs.{answers_of}
use Rattle.acl_setup.specs.declared.fault.SetupError.{SetupError}
use Rattle.acl_tree.specs.Tree.{NodesUnderUmask}
use Rattle.acl_tree.specs.declared.faults.LineFault.{LineFault}
use Rattle.acl_tree.specs.declared.reply.Reply.{Reply}
use Rattle.acl_tree.specs.declared.reply.Reply.TheVariants.{Fault}
use Rattle.acl_tree.specs.declared.request.Request.TheVariants.{Bad}
use Rattle.acl_lint.specs.LintText.{Found, found_in, place_text}
use Rattle.acl_lint.specs.Places.{Piece, is_of_piece, piece_at_fault}
use Rattle.acl_lint.specs.SetupPlace.{setup_place}

-- the number of a line, and its fault
abbrev pub reported_of : Found → ℕ × LineFault
reported_of found = (found.line, found.fault)

-- the same of an answer, if it is that the line has a fault
abbrev pub fault_replied : ℕ → Reply → List (ℕ × LineFault)
fault_replied line (Fault fault) = (line, fault) ∷ []
fault_replied line reply = []

abbrev pub faults_answered : List Answer → List (ℕ × LineFault)
faults_answered = flat_map (λ answer. fault_replied answer.line answer.reply)

-- Of every text, over whatever tree it runs: those lines are reported, with those faults, of which
-- the session's answers say so, in their order.
abbrev pub ReportsWhatIsAnswered : Type 0
ReportsWhatIsAnswered = (known : Known) (tree : NodesUnderUmask) (text : List ℕ)
    → map reported_of (found_in known text)
    ≡ faults_answered (answers_of known tree (requests_of known text))

-- the fault of a piece of a list of this kind, if it is malformed
abbrev pub fault_of : {A : Type 0} → Asked A → Option LineFault
fault_of (Ok value) = None
fault_of (Err fault) = Some fault

abbrev pub fault_of_piece : Known → List ℕ → List ℕ → Option LineFault
fault_of_piece known kind piece = if bytes_eq kind (codes "nfs4")
    then fault_of (as_ace (piece_value known piece))
    else fault_of (map_fault acl_line_fault (entry_in (entry_of known) piece))

-- a piece of TEXT has the fault, and those before it read
pub record IsFirstAtFault (known : Known) (kind text : List ℕ) (fault : LineFault) (piece : Piece) :
    Type 0 where
  pub before : List (List ℕ)
  pub behind : List (List ℕ)
  pub pieces_are : pieces text ≡ before ++ piece.text ∷ behind
  pub number_is : piece.number ≡ length before + 1
  pub earlier_read : All (λ earlier. fault_of_piece known kind earlier ≡ None) before
  pub at_fault : fault_of_piece known kind piece.text ≡ Some fault

-- of the fields `PATH KIND TEXT`
abbrev pub IsFirstOfFields : Known → List ℕ → LineFault → Piece → Type 0
IsFirstOfFields known fields fault =
    IsFirstAtFault known (first_word (after_word fields)) (after_word (after_word fields)) fault

-- Where a line sets a list, and has a fault that a piece may have, there is a piece at fault: the
-- first that is malformed, and it has that very fault.
abbrev pub ReportsThePiece : Type 0
ReportsThePiece = (known : Known) (bytes : List ℕ) (fault : LineFault)
    → line_of known bytes ≡ Command (Bad fault) → is_of_piece fault ≡ true
    → first_word (trim bytes) ≡ codes "set"
    → IsSomeAnd (piece_at_fault known fault bytes)
    (IsFirstOfFields known (after_word (trim bytes)) fault)

-- No place that is reported is empty: of a setup, and of a line.
pub record ReportsAPlace : Type 0 where
  pub of_setup : (error : SetupError) → setup_place error ≢ []
  pub of_line : (piece : Option Piece) → place_text piece ≢ []
