-- Private steps, which no public clause cites: the entry that a text begins with, its word, its
-- qualifier and its permissions.
use Rattle.std.specs.Prelude.{◌≡◌, ℕ, Bool, List, ◌∷◌, ◌++◌, Some, Ok}
use Rattle.acl_names.specs.Bytes.{colon}
use Rattle.acl_names.specs.Names.{Names}
use Rattle.acl_names.specs.Plain.{IsField}
use Rattle.acl_posix.specs.EntryText.{tag_by, tag_word}
use Rattle.acl_posix.specs.PermsText.{perms_with, three_letters}
use Rattle.acl_posix.specs.declared.entry.Tag.{Tag}
use Rattle.acl_posix.specs.declared.reading.TagWord.{TagWord}

-- the text begins with a word for the kind of tag and a colon
pub record BeginsWithWord (text : List ℕ) (word : TagWord) (rest : List ℕ) : Type 0 where
  pub written : List ℕ
  pub cut : text ≡ written ++ colon ∷ rest
  pub field : IsField written
  pub says : tag_word written ≡ Some word

-- the text after the word begins with a qualifier and a colon, and they mean the tag
pub record BeginsWithTag (names : Names) (text : List ℕ) (word : TagWord) (tag : Tag)
    (rest : List ℕ) : Type 0 where
  pub qualifier : List ℕ
  pub cut : text ≡ qualifier ++ colon ∷ rest
  pub field : IsField qualifier
  pub says : tag_by names word (Some qualifier) ≡ Ok tag

-- the text begins with three characters of permissions
pub record BeginsWithPerms (text : List ℕ) (perms : ℕ) (rest : List ℕ) : Type 0 where
  pub read : Bool
  pub write : Bool
  pub execute : Bool
  pub cut : text ≡ three_letters read write execute ++ rest
  pub says : perms ≡ perms_with read write execute
