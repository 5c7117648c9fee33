-- The query that words ask, field by field.
use Rattle.std.specs.Prelude.{◌≡◌, ◌≤◌, ◌↔◌, ◌⊎◌, ℕ, Bool, true, List, [], length, map, Some, None}
use Rattle.std.specs.Prelude.{codes}
use Rattle.clap.specs.Words.{Text, first_of, matches_of}
use Rattle.acl_names.specs.Bytes.{comma}
use Rattle.acl_names.specs.Ids.{decimal_value}
use Rattle.acl_names.specs.Pieces.{parts}
use Rattle.acl_names.specs.declared.limits.TheConstants.{MAX_GROUPS_OF_USER}
use Rattle.acl_posix.specs.AclText.{SpellsAcl}
use Rattle.acl_posix.specs.Entry.{EntryValue}
use Rattle.acl_posix.specs.PermsText.{perms_of_text}
use Rattle.acl_queries.specs.AclText.{nobody}
use Rattle.acl_queries.specs.Asked.{Asked}
use Rattle.acl_cli.specs.CommandLine.{Takes}
use Rattle.acl_queries.specs.DecideLine.{decide_line}

-- the words give the text for the name
abbrev pub GiveText : List Text → Text → Text → Type 0
GiveText words name text = first_of name (matches_of decide_line words) ≡ Some text

-- the words give the id for the name, in decimal
abbrev pub GiveId : List Text → Text → ℕ → Type 0
GiveId words name id = (text : Text) × GiveText words name text × (decimal_value text ≡ Some id)

-- the texts are the ids in decimal, one for one
abbrev pub WriteIds : List Text → List ℕ → Type 0
WriteIds texts ids = map decimal_value texts ≡ map Some ids

-- the words give the gids, between commas, or nothing at all
abbrev pub GiveGids : List Text → List ℕ → Type 0
GiveGids words gids = ((first_of (codes "gids") (matches_of decide_line words) ≡ None)
    × (gids ≡ []))
    ⊎ ((text : Text) × GiveText words (codes "gids") text × WriteIds (parts comma text) gids
    × (length gids ≤ MAX_GROUPS_OF_USER))

-- the words give permissions
abbrev pub GivePerms : List Text → ℕ → Type 0
GivePerms words perms = (text : Text) × GiveText words (codes "perms") text
    × (perms_of_text text ≡ Some perms)

-- the words give a text that spells the access control list
abbrev pub GiveAcl : List Text → List EntryValue → Type 0
GiveAcl words acl = (text : Text) × GiveText words (codes "text") text × SpellsAcl nobody text acl

-- the words set the flag exactly if this is true; the parser gives it a value then, `true`
abbrev pub GiveFlag : List Text → Text → Bool → Type 0
GiveFlag words name given = (given ≡ true) ↔ GiveText words name (codes "true")

-- the words ask this: the parser takes them, and they give each field
pub record Ask (words : List Text) (asked : Asked) : Type 0 where
  pub taken : Takes decide_line words
  pub owner : GiveId words (codes "owner") asked.owner
  pub group : GiveId words (codes "group") asked.group
  pub uid : GiveId words (codes "uid") asked.requester.uid
  pub gids : GiveGids words asked.requester.gids
  pub request : GivePerms words asked.request
  pub acl : GiveAcl words asked.acl
  pub nfs4 : GiveFlag words (codes "nfs4") asked.nfs4
