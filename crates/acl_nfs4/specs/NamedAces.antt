-- What an entry means by the names of any resolver.
use Rattle.std.specs.Prelude.{◌≡◌, ◌≤◌, ℕ, List, Bool, true, false, Option, Some, None, Result, Ok}
use Rattle.std.specs.Prelude.{Err, codes, decimal, if◌then◌else◌, bytes_eq}
use Rattle.acl_names.specs.Bits.{has}
use Rattle.acl_names.specs.Letters.{letters_of}
use Rattle.acl_names.specs.Names.{Names, resolved}
use Rattle.acl_names.specs.Steps.{◌>>=◌, or_fault}
use Rattle.acl_names.specs.declared.directory.resolve.NameFault.{NameFault}
use Rattle.acl_names.specs.declared.directory.resolve.NameFault.TheVariants.{Malformed, Unknown}
use Rattle.acl_names.specs.declared.limits.TheConstants.{MAX_ID}
use Rattle.acl_nfs4.specs.Ace.{Nfsace4, ace_of}
use Rattle.acl_nfs4.specs.AceFields.{fields_of, refuse_idle, type_of}
use Rattle.acl_nfs4.specs.Flags.{identifier_group}
use Rattle.acl_nfs4.specs.Letters.{flag_table, mask_table}
use Rattle.acl_nfs4.specs.declared.reading.PieceFault.{PieceFault}
use Rattle.acl_nfs4.specs.declared.reading.PieceFault.TheVariants.{Syntax, UnknownName}
use Rattle.acl_nfs4.specs.declared.who.Who.{Who}
use Rattle.acl_nfs4.specs.declared.who.Who.TheVariants.{Owner, Group, Everyone, User, NamedGroup}

-- the who with the id that was found
abbrev pub who_with : (ℕ → Who) → Result ℕ NameFault → Result Who PieceFault
who_with tag (Ok id) = Ok (tag id)
who_with tag (Err Malformed) = Err Syntax
who_with tag (Err Unknown) = Err UnknownName

-- the user who is written, or the group
abbrev pub named_who : Names → Bool → List ℕ → Result Who PieceFault
named_who names true text =
    who_with (λ gid. NamedGroup gid) (resolved names.written names.gid text)
named_who names false text =
    who_with (λ uid. User uid) (resolved names.written names.uid text)

-- a special identifier
abbrev pub special_who : List ℕ → Option Who
special_who text =
    if bytes_eq text (codes "OWNER@") then Some Owner
    else (if bytes_eq text (codes "GROUP@") then Some Group
    else (if bytes_eq text (codes "EVERYONE@") then Some Everyone else None))

abbrev pub special_or : Option Who → Result Who PieceFault → Result Who PieceFault
special_or (Some who) named = Ok who
special_or None named = named

-- whom the field of an entry names: a group if the flags have g
abbrev pub who_by : Names → Bool → List ℕ → Result Who PieceFault
who_by names is_group text = special_or (special_who text) (named_who names is_group text)

-- the entry that a piece of a text means, or its fault
unfoldable pub ace_by : Names → List ℕ → Result Nfsace4 PieceFault
ace_by names piece = do
  fields ← or_fault Syntax (fields_of piece)
  kind ← or_fault Syntax (type_of fields.kind)
  flags ← or_fault Syntax (letters_of flag_table fields.flags)
  mask ← or_fault Syntax (letters_of mask_table fields.letters)
  who ← who_by names (has flags identifier_group) fields.who
  refuse_idle (ace_of kind flags who mask)

-- a decimal is read as its id, whatever users and groups there are
pub record ReadNumbers (names : Names) : Type 0 where
  pub uids : (uid : ℕ) → uid ≤ MAX_ID → resolved names.written names.uid (decimal uid) ≡ Ok uid
  pub gids : (gid : ℕ) → gid ≤ MAX_ID → resolved names.written names.gid (decimal gid) ≡ Ok gid
