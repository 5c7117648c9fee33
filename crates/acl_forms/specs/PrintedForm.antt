-- How entries are printed in the freebsd form.
use Rattle.std.specs.Prelude.{ℕ, List, [], ◌∷◌, ◌++◌, codes, map}
use Rattle.std.specs.Prelude.{bit_and, ◌==◌, if◌then◌else◌}
use Rattle.std.specs.List.{flat_map, join_with_byte}
use Rattle.acl_names.specs.Bits.{◌∩◌}
use Rattle.acl_names.specs.Bytes.{newline, colon, hyphen}
use Rattle.acl_names.specs.Directory.{Known, user_name, group_name}
use Rattle.acl_names.specs.Ids.{id_text}
use Rattle.acl_names.specs.Letters.{letters_text}
use Rattle.acl_names.specs.declared.text.letters.Letter.{Letter}
use Rattle.acl_nfs4.specs.Ace.{Nfsace4}
use Rattle.acl_nfs4.specs.declared.ace.AceType.{AceType}
use Rattle.acl_nfs4.specs.declared.ace.AceType.TheVariants.{Allow, Deny, Audit, Alarm}
use Rattle.acl_nfs4.specs.declared.who.Who.{Who}
use Rattle.acl_nfs4.specs.declared.who.Who.TheVariants.{Owner, Group, Everyone, User, NamedGroup}
use Rattle.acl_forms.specs.Marks.{mark_table, perm_table}
use Rattle.acl_forms.specs.declared.printing.Places.{Places}
use Rattle.acl_forms.specs.declared.printing.Places.TheVariants.{Compact, Full}

abbrev pub type_text : AceType → List ℕ
type_text Allow = codes "allow"
type_text Deny = codes "deny"
type_text Audit = codes "audit"
type_text Alarm = codes "alarm"

-- a place for each row: its letter if its bit is set, else a hyphen
abbrev pub place_of : ℕ → Letter → ℕ
place_of bits row = if bit_and bits row.bit == 0 then hyphen else row.letter

abbrev pub places_text : List Letter → ℕ → List ℕ
places_text table bits = map (place_of bits) table

-- the letters alone, or one place for each
abbrev pub marks_text : Places → List Letter → ℕ → List ℕ
marks_text Compact = letters_text
marks_text Full = places_text

-- the tag, with a user or a group as its id is written
abbrev pub tag_by : (ℕ → List ℕ) → (ℕ → List ℕ) → Who → List ℕ
tag_by user group Owner = codes "owner@"
tag_by user group Group = codes "group@"
tag_by user group Everyone = codes "everyone@"
tag_by user group (User uid) = codes "user:" ++ user uid
tag_by user group (NamedGroup gid) = codes "group:" ++ group gid

-- the name if there is one, else the decimal
abbrev pub tag_text : Known → Who → List ℕ
tag_text known = tag_by (id_text (user_name known)) (id_text (group_name known))

-- the flags but for that of a group, which the tag shows
abbrev pub marks_of_flags : ℕ → ℕ
marks_of_flags flags = flags ∩ 0x3F

-- `tag:perms:flags:type`, with the tag as it is written
abbrev pub fields_text : Places → List ℕ → Nfsace4 → List ℕ
fields_text places tag ace = join_with_byte colon
    (tag ∷ marks_text places perm_table ace.mask
    ∷ marks_text places mark_table (marks_of_flags ace.flags) ∷ type_text ace.kind ∷ [])

abbrev pub entry_text : Places → Known → Nfsace4 → List ℕ
entry_text places known ace = fields_text places (tag_text known ace.who) ace

-- one entry per line
abbrev pub line_text : Places → Known → Nfsace4 → List ℕ
line_text places known ace = entry_text places known ace ++ newline ∷ []

abbrev pub entries_text : Places → Known → List Nfsace4 → List ℕ
entries_text places known = flat_map (line_text places known)
