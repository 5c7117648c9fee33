-- The line of a block that is at fault.
use Rattle.std.specs.Prelude.{◌≡◌, ℕ, zero, suc, ◌+◌, ◌-◌, nat_le, Bool, true, false, ◌&&◌}
use Rattle.std.specs.Prelude.{List, length, take, codes, Option, Some, None, is_none, is_some}
use Rattle.std.specs.Prelude.{is_ok, if◌then◌else◌}
use Rattle.std.specs.List.{list_all}
use Rattle.std.specs.Option.{option_and_then}
use Rattle.acl_names.specs.Bytes.{newline}
use Rattle.acl_names.specs.Names.{Names}
use Rattle.acl_names.specs.Pieces.{parts, pieces}
use Rattle.acl_posix.specs.EntryText as posix
use Rattle.acl_posix.specs.declared.limits.TheConstants.{MAX_ENTRIES}
use Rattle.acl_nfs4.specs.NamedAces.{ace_by}
use Rattle.acl_nfs4.specs.declared.limits.TheConstants.{MAX_ACES}
use Rattle.acl_forms.specs.Forms.{form_of}
use Rattle.acl_forms.specs.FormText as freebsd
use Rattle.acl_forms.specs.declared.form.Form.{Form}
use Rattle.acl_forms.specs.declared.form.Form.TheVariants as form
use Rattle.acl_listings.specs.Header.{after_prefix, path_in}
use Rattle.acl_listings.specs.Lines.{after_line, first_line}
use Rattle.acl_listings.specs.ListLines.{pieces_in}
use Rattle.acl_listings.specs.declared.fault.BlockFault.{BlockFault}
use Rattle.acl_listings.specs.declared.fault.BlockFault.TheVariants.{BadHeader, Acl}
use Rattle.acl_listings.specs.declared.fault.BlockFault.TheVariants.{UnknownOwner, UnknownGroup}
use Rattle.acl_listings.specs.declared.list_lines.ListKind.{ListKind}
use Rattle.acl_listings.specs.declared.list_lines.ListKind.TheVariants.{Access, Default, Nfs4}
use Rattle.acl_listings.specs.declared.list_lines.ListKind.TheVariants.{Freebsd}

-- the line after so many others; after the last there is nothing
abbrev pub line_at : List ℕ → ℕ → List ℕ
line_at text zero = first_line text
line_at text (suc before) = line_at (after_line text) before

-- the lines after a block's header, as a text and one by one
abbrev pub list_in : List ℕ → List ℕ
list_in text = after_line (after_line (after_line text))

abbrev pub list_lines : List ℕ → List (List ℕ)
list_lines text = parts newline (list_in text)

-- the line names the file's owner, by an id or a name
abbrev pub is_owner_line : Names → List ℕ → Bool
is_owner_line names line =
    is_some (option_and_then names.written (after_prefix (codes "# owner: ") line))

-- how many lines are before the first of three that isn't one of a header
abbrev pub before_bad_header : Names → List ℕ → ℕ
before_bad_header names text =
    if is_none (path_in (line_at text 0)) then 0
    else if is_owner_line names (line_at text 1) then 2 else 1

-- whether a piece is an entry of a list of this kind
abbrev pub is_entry : Names → ListKind → List ℕ → Bool
is_entry names Access piece = is_ok (posix.entry_by names piece)
is_entry names Default piece = is_ok (posix.entry_by names piece)
is_entry names Nfs4 piece = is_ok (ace_by names piece)
is_entry names Freebsd piece = is_ok (freebsd.entry_by names piece)

-- how many entries it may have
abbrev pub most : ListKind → ℕ
most Access = MAX_ENTRIES
most Default = MAX_ENTRIES
most Nfs4 = MAX_ACES
most Freebsd = MAX_ACES

-- whether the entries of a list in these lines are well-formed, and no more than it may have
abbrev pub lines_read : Names → ListKind → List (List ℕ) → Bool
lines_read names kind lines = list_all (is_entry names kind) (pieces_in kind lines)
    && nat_le (length (pieces_in kind lines)) (most kind)

-- those in so many lines are, and with those in the next line they aren't
pub record IsFirstFaulty (names : Names) (kind : ListKind) (lines : List (List ℕ)) (before : ℕ)
    : Type 0 where
  pub reads : lines_read names kind (take before lines) ≡ true
  pub fails : lines_read names kind (take (before + 1) lines) ≡ false

-- the list that is at fault: of POSIX lists the default list if the access list is well-formed
abbrev pub kind_at_fault : Names → Form → List (List ℕ) → ListKind
kind_at_fault names form.Posix lines = if lines_read names Access lines then Default else Access
kind_at_fault names form.Nfs4 lines = Nfs4
kind_at_fault names form.Freebsd lines = Freebsd

abbrev pub faulty_kind : Names → List ℕ → ListKind
faulty_kind names list = kind_at_fault names (form_of list) (parts newline list)

-- so many lines of a list are before the one at fault, if there is one
abbrev pub IsBadLine : Names → ListKind → List (List ℕ) → ℕ → Type 0
IsBadLine names kind lines before =
    lines_read names kind lines ≡ false → IsFirstFaulty names kind lines before

-- how many lines of a block are before the one at fault; any number for a list without a fault
abbrev pub IsFaultyAt : Names → BlockFault → List ℕ → ℕ → Type 0
IsFaultyAt names BadHeader text before = before ≡ before_bad_header names text
IsFaultyAt names UnknownOwner text before = before ≡ 1
IsFaultyAt names UnknownGroup text before = before ≡ 2
IsFaultyAt names (Acl fault) text before =
    lines_read names (faulty_kind names (list_in text)) (list_lines text) ≡ false
    → IsFirstFaulty names (faulty_kind names (list_in text)) (list_lines text) (before - 3)
    × (before ≡ 3 + (before - 3))
IsFaultyAt names fault text before = before ≡ 0

-- how many more entries there may be after these pieces; none if one of them is malformed or one
-- too many
abbrev pub room_behind : Names → ListKind → ℕ → List (List ℕ) → Option ℕ
room_behind names kind room texts =
    if list_all (is_entry names kind) texts && nat_le (length texts) room
    then Some (room - length texts) else None

-- and after the part of a line that belongs to the list
abbrev pub room_behind_line : Names → ListKind → ℕ → Option (List ℕ) → Option ℕ
room_behind_line names kind room None = Some room
room_behind_line names kind room (Some text) = room_behind names kind room (pieces text)
