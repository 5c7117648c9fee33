-- The words on standard input.
use Rattle.std.specs.Prelude.{◌≡◌, ◌<◌, ◌≤◌, ⊤, ℕ, List, length, IsUtf8, codes}
use Rattle.acl_names.specs.Pieces.{lines_of}
use Rattle.acl_cli.specs.declared.failure.Failure.{Failure}
use Rattle.acl_cli.specs.declared.failure.Failure.TheVariants.{CannotRead, Lacks, Misuse}
use Rattle.acl_cli.specs.declared.misuse.Misuse.TheVariants.{BadWords, TooManyWords}
use Rattle.acl_cli.specs.declared.reason.Reason.TheVariants.{Unknown}
use Rattle.acl_cli.specs.declared.run_fault.RunFault.TheVariants.{Memory}

-- how many bytes the words may take
abbrev pub max_bytes : ℕ
max_bytes = 65536

-- the words are the lines of the bytes, of which there are no more than may be
pub record AreWordsOf (bytes : List ℕ) (words : List (List ℕ)) : Type 0 where
  pub within : length bytes ≤ max_bytes
  pub lines : words ≡ lines_of bytes

-- what the bytes that a reader reports can be refused for; a failed read and out of memory say
-- nothing of them
abbrev pub IsInputFailure : Failure → List ℕ → Type 0
IsInputFailure (CannotRead name reason) bytes = (name.now ≡ codes "-") × (reason ≡ Unknown)
IsInputFailure (Misuse TooManyWords) bytes = max_bytes < length bytes
IsInputFailure (Misuse BadWords) bytes = ¬ IsUtf8 bytes
IsInputFailure (Lacks lack) bytes = lack ≡ Memory
IsInputFailure _ bytes = ⊥
