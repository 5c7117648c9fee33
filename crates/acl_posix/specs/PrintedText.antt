-- How POSIX ACLs are printed: the long and the short text form of 1003.1e draft 17, section 23, and
-- the marks of effective permissions.
use Rattle.std.specs.Prelude.{ℕ, ◌≤◌, ◌&&◌, not, List, [], ◌∷◌, ◌++◌, Option, Some, None, codes}
use Rattle.std.specs.Prelude.{if◌then◌else◌, decimal, map}
use Rattle.std.specs.List.{flat_map, join_with_byte, All}
use Rattle.acl_names.specs.declared.limits.TheConstants.{MAX_ID}
use Rattle.acl_names.specs.Bytes.{newline, tab, colon, comma}
use Rattle.acl_names.specs.Bits.{◌∩◌, has_all}
use Rattle.acl_names.specs.Directory.{Known, group_name, user_name}
use Rattle.acl_names.specs.Ids.{id_text}
use Rattle.acl_posix.specs.Access.{is_under_mask}
use Rattle.acl_posix.specs.PermsText.{perms_text}
use Rattle.acl_posix.specs.Entry.{EntryValue}
use Rattle.acl_posix.specs.declared.entry.Tag.{Tag}
use Rattle.acl_posix.specs.declared.entry.Tag.TheVariants.{UserObj, User, GroupObj, Group, Mask}
use Rattle.acl_posix.specs.declared.entry.Tag.TheVariants.{Other}

-- the full word of a tag
abbrev pub word_text : Tag → List ℕ
word_text UserObj = codes "user"
word_text (User uid) = codes "user"
word_text GroupObj = codes "group"
word_text (Group gid) = codes "group"
word_text Mask = codes "mask"
word_text Other = codes "other"

abbrev pub qualifier_text : Known → Tag → List ℕ
qualifier_text known (User uid) = id_text (user_name known) uid
qualifier_text known (Group gid) = id_text (group_name known) gid
qualifier_text known UserObj = []
qualifier_text known GroupObj = []
qualifier_text known Mask = []
qualifier_text known Other = []

-- `tag:qualifier:perms`
abbrev pub entry_text : Known → EntryValue → List ℕ
entry_text known entry = join_with_byte colon
    (word_text entry.tag ∷ qualifier_text known entry.tag ∷ perms_text entry.perms ∷ [])

-- one entry per line
abbrev pub long_text : Known → List EntryValue → List ℕ
long_text known = flat_map (λ entry. entry_text known entry ++ newline ∷ [])

-- a tab, `#effective:` and three characters, if a mask leaves fewer permissions
abbrev pub mark_of : Option ℕ → List ℕ
mark_of None = []
mark_of (Some left) = tab ∷ codes "#effective:" ++ perms_text left

-- the mark of an entry, if the mask removes something from it
abbrev pub effective_mark : Option ℕ → EntryValue → List ℕ
effective_mark None entry = []
effective_mark (Some mask) entry = if is_under_mask entry.tag && not (has_all mask entry.perms)
    then mark_of (Some (entry.perms ∩ mask)) else []

-- a line: the entry, its mark, and a newline
abbrev pub line_text : Known → Option ℕ → EntryValue → List ℕ
line_text known mask entry = entry_text known entry ++ (effective_mark mask entry ++ newline ∷ [])

-- one entry per line, with its mark
abbrev pub effective_text : Known → Option ℕ → List EntryValue → List ℕ
effective_text known mask = flat_map (line_text known mask)

-- the same of a directory's default list, with `default:` before each line
abbrev pub default_text : Known → Option ℕ → List EntryValue → List ℕ
default_text known mask = flat_map (λ entry. codes "default:" ++ line_text known mask entry)

-- the letter of a tag
abbrev pub letter_text : Tag → List ℕ
letter_text UserObj = codes "u"
letter_text (User uid) = codes "u"
letter_text GroupObj = codes "g"
letter_text (Group gid) = codes "g"
letter_text Mask = codes "m"
letter_text Other = codes "o"

-- the id of a tag in decimal, as which it is read whatever names there are
abbrev pub number_text : Tag → List ℕ
number_text (User uid) = decimal uid
number_text (Group gid) = decimal gid
number_text UserObj = []
number_text GroupObj = []
number_text Mask = []
number_text Other = []

-- `letter:number:perms`
abbrev pub short_entry : EntryValue → List ℕ
short_entry entry = join_with_byte colon
    (letter_text entry.tag ∷ number_text entry.tag ∷ perms_text entry.perms ∷ [])

-- all entries on one line, a comma between each two
abbrev pub short_text : List EntryValue → List ℕ
short_text entries = join_with_byte comma (map short_entry entries)

-- an id within the range of ids; other tags have none
abbrev pub HasId : Tag → Type 0
HasId (User uid) = uid ≤ MAX_ID
HasId (Group gid) = gid ≤ MAX_ID
HasId UserObj = Unit {0}
HasId GroupObj = Unit {0}
HasId Mask = Unit {0}
HasId Other = Unit {0}

-- the ids of the entries are within their range
abbrev pub HaveIds : List EntryValue → Type 0
HaveIds = All (λ entry. HasId entry.tag)
