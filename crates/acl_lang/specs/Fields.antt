-- What the fields of a command say.
use Rattle.std.specs.Prelude.{ℕ, ◌==◌, List, [], ◌∷◌, Option, Some, None}
use Rattle.std.specs.Prelude.{option_map, Result, Ok, Err, codes, if◌then◌else◌}
use Rattle.std.specs.Prelude.{option_and_then, bytes_eq}
use Rattle.acl_names.specs.Directory.{Known, uid_of}
use Rattle.acl_names.specs.Ids.{written_id, id_of_written}
use Rattle.acl_names.specs.Letters.{letters_of}
use Rattle.acl_names.specs.Pieces.{pieces}
use Rattle.acl_names.specs.ReadList.{at_most_read}
use Rattle.acl_names.specs.Steps.{◌>>=◌, map_fault, or_fault}
use Rattle.acl_nfs4.specs.Ace.{Nfsace4}
use Rattle.acl_nfs4.specs.AceText.{piece_value}
use Rattle.acl_nfs4.specs.Letters.{mask_table}
use Rattle.acl_nfs4.specs.declared.inheritance.Kind.{Kind}
use Rattle.acl_nfs4.specs.declared.inheritance.Kind.TheVariants.{File, Dir}
use Rattle.acl_nfs4.specs.declared.limits.TheConstants.{MAX_ACES}
use Rattle.acl_nfs4.specs.declared.mask.Mask.{Mask}
use Rattle.acl_nfs4.specs.declared.reading.PieceFault as aces
use Rattle.acl_nfs4.specs.declared.reading.PieceFault.TheVariants as ace
use Rattle.acl_posix.specs.AclText as posix
use Rattle.acl_posix.specs.Entry.{EntryValue}
use Rattle.acl_posix.specs.Mode.{Classes}
use Rattle.acl_posix.specs.ModeText.{mode_of_octal}
use Rattle.acl_posix.specs.PermsText.{perms_of_text}
use Rattle.acl_posix.specs.declared.perms.Perms.{Perms}
use Rattle.acl_tree.specs.Path.{is_path}
use Rattle.acl_tree.specs.declared.faults.LineFault.{LineFault}
use Rattle.acl_tree.specs.declared.faults.LineFault.TheVariants.{Syntax, BadPath, BadMode, BadPerms}
use Rattle.acl_tree.specs.declared.faults.LineFault.TheVariants.{UnknownName, BadAcl}
use Rattle.acl_tree.specs.declared.faults.LineFault.TheVariants.{TooMany, InheritOnly}
use Rattle.acl_names.specs.Bytes.{digit_0}
use Rattle.acl_lang.specs.Refusals.{Asked, acl_line_fault}

-- P: a path
abbrev pub path_of : List ℕ → Asked (List ℕ)
path_of text = if is_path text then Ok text else Err BadPath

-- `file` or `dir`
abbrev pub kind_of : List ℕ → Asked Kind
kind_of text =
    if bytes_eq text (codes "file") then Ok File
    else (if bytes_eq text (codes "dir") then Ok Dir else Err Syntax)

-- OOO: three octal digits, before which a 0 may stand
abbrev pub mode_of : List ℕ → Asked Classes
mode_of (first ∷ user ∷ group ∷ other ∷ []) = if first == digit_0
    then or_fault BadMode (mode_of_octal (user ∷ group ∷ other ∷ [])) else Err BadMode
mode_of digits = or_fault BadMode (mode_of_octal digits)

-- USER: a user's name, or a decimal
abbrev pub user_of : Known → List ℕ → Asked ℕ
user_of known text = or_fault UnknownName (option_and_then (id_of_written (uid_of known))
    (written_id text))

-- PERMS: 1 to 3 characters out of r, w, x and -
abbrev pub perms_of : List ℕ → Asked Perms
perms_of text = or_fault BadPerms (option_map (λ bits. record { 0 = bits }) (perms_of_text text))

-- LETTERS: those of a mask; a word has one at least
abbrev pub mask_of : List ℕ → Asked Mask
mask_of text = or_fault BadPerms (option_map (λ bits. record { 0 = bits })
    (letters_of mask_table text))

-- TEXT, if it is an access control list of the posix style
abbrev pub acl_of : Known → List ℕ → Asked (List EntryValue)
acl_of known text = map_fault acl_line_fault (posix.acl_of known (pieces text))

-- `none`, or an access control list
abbrev pub default_of : Known → List ℕ → Asked (Option (List EntryValue))
default_of known text = if bytes_eq text (codes "none") then Ok None
    else acl_of known text >>= (λ acl. Ok (Some acl))

-- TEXT, if it is an access control list of the nfs4 style

abbrev pub ace_fault : aces.PieceFault → LineFault
ace_fault ace.Syntax = BadAcl
ace_fault ace.UnknownName = UnknownName
ace_fault ace.InheritOnly = InheritOnly

abbrev pub as_ace : Result Nfsace4 aces.PieceFault → Asked Nfsace4
as_ace (Ok ace) = Ok ace
as_ace (Err fault) = Err (ace_fault fault)

abbrev pub aces_of : Known → List ℕ → Asked (List Nfsace4)
aces_of known text = at_most_read TooMany MAX_ACES (λ piece. as_ace (piece_value known piece))
    (pieces text)
