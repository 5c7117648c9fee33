-- How entries are written: `type:flags:who:letters`.
use Rattle.std.specs.Prelude.{ℕ, List, [], ◌∷◌, Option, Some, None, Result, Ok, Err, codes}
use Rattle.std.specs.Prelude.{if◌then◌else◌, bytes_eq}
use Rattle.acl_names.specs.Bytes.{colon}
use Rattle.acl_names.specs.Pieces.{trimmed_parts}
use Rattle.acl_nfs4.specs.Ace.{Nfsace4, is_idle}
use Rattle.acl_nfs4.specs.declared.ace.AceType.{AceType}
use Rattle.acl_nfs4.specs.declared.ace.AceType.TheVariants.{Allow, Deny, Audit, Alarm}
use Rattle.acl_nfs4.specs.declared.reading.PieceFault.{PieceFault}
use Rattle.acl_nfs4.specs.declared.reading.PieceFault.TheVariants.{InheritOnly}

-- the fields of a piece
pub record AceFields : Type 0 where
  pub kind : List ℕ
  pub flags : List ℕ
  pub who : List ℕ
  pub letters : List ℕ

abbrev pub as_fields : List (List ℕ) → Option AceFields
as_fields (kind ∷ flags ∷ who ∷ letters ∷ []) =
    Some (record { kind = kind; flags = flags; who = who; letters = letters })
as_fields _ = None

-- four fields, separated by colons, each trimmed
abbrev pub fields_of : List ℕ → Option AceFields
fields_of piece = as_fields (trimmed_parts colon piece)

abbrev pub type_of : List ℕ → Option AceType
type_of text =
    if bytes_eq text (codes "A") then Some Allow
    else (if bytes_eq text (codes "D") then Some Deny
    else (if bytes_eq text (codes "U") then Some Audit
    else (if bytes_eq text (codes "L") then Some Alarm else None)))

-- the entry, unless it has no effect, neither on the file itself nor on what inherits it
abbrev pub refuse_idle : Nfsace4 → Result Nfsace4 PieceFault
refuse_idle ace = if is_idle ace then Err InheritOnly else Ok ace
