-- What is written to standard error.
use Rattle.std.specs.Prelude.{◌≡◌, ◌++◌, ◌∷◌, [], ℕ, Bool, false, true, List, Option, codes}
use Rattle.std.specs.Io.KnownBytes.{Appends}
use Rattle.acl_names.specs.Bytes.{newline}
use Rattle.acl_cli.specs.Output.{AppendsFront}

-- the bytes that were written, if they are known, and whether a write failed
pub record ErrorText : Type 0 where
  pub contents : Option (List ℕ)
  pub has_failed : Bool

-- the line of a fault, by its words
abbrev pub line_of_words : List ℕ → List ℕ
line_of_words words = codes "aclctl: " ++ words ++ newline ∷ []

-- a text was written: all of it, or, if a write failed, a prefix of it; nothing after a failed
-- write; and nothing at all for an empty text
pub record Reports (text : List ℕ) (old new : ErrorText) : Type 0 where
  pub whole : new.has_failed ≡ false → Appends old.contents new.contents text
  pub front : AppendsFront old.contents new.contents text
  pub stopped : old.has_failed ≡ true → new ≡ old
  pub none : text ≡ [] → new ≡ old
