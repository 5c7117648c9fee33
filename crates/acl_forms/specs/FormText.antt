-- How entries are written in the freebsd form: `tag:perms:flags:type`.
use Rattle.std.specs.Prelude.{ℕ, List, [], ◌∷◌, Bool, true, false, ◌||◌, Option, Some, None}
use Rattle.std.specs.Prelude.{Result, Err, codes, if◌then◌else◌, bytes_eq}
use Rattle.acl_names.specs.Bytes.{colon}
use Rattle.acl_names.specs.Names.{Names}
use Rattle.acl_names.specs.Pieces.{trimmed_parts}
use Rattle.acl_names.specs.Steps.{◌>>=◌, or_fault}
use Rattle.acl_nfs4.specs.Ace.{Nfsace4, ace_of}
use Rattle.acl_nfs4.specs.AceFields.{refuse_idle}
use Rattle.acl_nfs4.specs.NamedAces.{named_who}
use Rattle.acl_nfs4.specs.declared.ace.AceType.{AceType}
use Rattle.acl_nfs4.specs.declared.ace.AceType.TheVariants.{Allow, Deny, Audit, Alarm}
use Rattle.acl_nfs4.specs.declared.reading.PieceFault.{PieceFault}
use Rattle.acl_nfs4.specs.declared.reading.PieceFault.TheVariants.{Syntax}
use Rattle.acl_nfs4.specs.declared.who.Who.{Who}
use Rattle.acl_nfs4.specs.declared.who.Who.TheVariants.{Owner, Group, Everyone}
use Rattle.acl_forms.specs.Marks.{marks_of, mark_table, perm_table}

-- the fields of a piece; a special tag has no name, and the flags may be left out
pub record FormFields : Type 0 where
  pub tag : List ℕ
  pub name : Option (List ℕ)
  pub perms : List ℕ
  pub flags : List ℕ
  pub kind : List ℕ

-- a tag that a name follows
abbrev pub is_named_tag : List ℕ → Bool
is_named_tag tag = bytes_eq tag (codes "user") || bytes_eq tag (codes "group")

-- with a name if the tag needs one, and else with flags
abbrev pub four_fields : Bool → List ℕ → List ℕ → List ℕ → List ℕ → FormFields
four_fields named tag second perms kind = if named
    then record { tag = tag; name = Some second; perms = perms; flags = []; kind = kind }
    else record { tag = tag; name = None; perms = second; flags = perms; kind = kind }

abbrev pub as_fields : List (List ℕ) → Option FormFields
as_fields (tag ∷ perms ∷ kind ∷ []) =
    Some (record { tag = tag; name = None; perms = perms; flags = []; kind = kind })
as_fields (tag ∷ second ∷ perms ∷ kind ∷ []) =
    Some (four_fields (is_named_tag tag) tag second perms kind)
as_fields (tag ∷ name ∷ perms ∷ flags ∷ kind ∷ []) =
    Some (record { tag = tag; name = Some name; perms = perms; flags = flags; kind = kind })
as_fields _ = None

-- three to five fields, separated by colons, each trimmed
abbrev pub fields_of : List ℕ → Option FormFields
fields_of piece = as_fields (trimmed_parts colon piece)

abbrev pub type_of : List ℕ → Option AceType
type_of text =
    if bytes_eq text (codes "allow") then Some Allow
    else (if bytes_eq text (codes "deny") then Some Deny
    else (if bytes_eq text (codes "audit") then Some Audit
    else (if bytes_eq text (codes "alarm") then Some Alarm else None)))

-- the who of a tag without a name
abbrev pub special_who : List ℕ → Option Who
special_who tag =
    if bytes_eq tag (codes "owner@") then Some Owner
    else (if bytes_eq tag (codes "group@") then Some Group
    else (if bytes_eq tag (codes "everyone@") then Some Everyone else None))

-- the who of a tag with the name after it
abbrev pub who_named : Names → List ℕ → List ℕ → Result Who PieceFault
who_named names tag name =
    if bytes_eq tag (codes "user") then named_who names false name
    else (if bytes_eq tag (codes "group") then named_who names true name else Err Syntax)

abbrev pub who_by : Names → List ℕ → Option (List ℕ) → Result Who PieceFault
who_by names tag None = or_fault Syntax (special_who tag)
who_by names tag (Some name) = who_named names tag name

-- the entry that a piece of a text means, or its fault
unfoldable pub entry_by : Names → List ℕ → Result Nfsace4 PieceFault
entry_by names piece = do
  fields ← or_fault Syntax (fields_of piece)
  mask ← or_fault Syntax (marks_of perm_table fields.perms)
  flags ← or_fault Syntax (marks_of mark_table fields.flags)
  kind ← or_fault Syntax (type_of fields.kind)
  who ← who_by names fields.tag fields.name
  refuse_idle (ace_of kind flags who mask)
