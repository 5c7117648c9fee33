-- The ids that a listing names and no account has.
use Rattle.std.specs.Prelude.{◌≡◌, ⊤, ℕ, ◌+◌, Bool, ◌||◌, false, true, List, [], ◌∷◌, ◌++◌}
use Rattle.std.specs.Prelude.{Option, Some, None, Result, Ok, Err, codes, decimal, drop}
use Rattle.std.specs.Prelude.{if◌then◌else◌, is_some, option_map, unwrap_or}
use Rattle.std.specs.List.{list_any}
use Rattle.std.specs.Option.{option_and_then, option_map_or, option_or}
use Rattle.acl_names.specs.Bytes.{newline}
use Rattle.acl_names.specs.Names.{resolved}
use Rattle.acl_names.specs.Pieces.{parts, pieces}
use Rattle.acl_posix.specs.Entry.{EntryValue}
use Rattle.acl_posix.specs.EntryText as posix
use Rattle.acl_posix.specs.declared.entry.Tag.{Tag}
use Rattle.acl_posix.specs.declared.entry.Tag.TheVariants as tag
use Rattle.acl_nfs4.specs.Ace.{Nfsace4}
use Rattle.acl_nfs4.specs.NamedAces.{ace_by}
use Rattle.acl_nfs4.specs.declared.who.Who.{Who}
use Rattle.acl_nfs4.specs.declared.who.Who.TheVariants as who
use Rattle.acl_forms.specs.Forms.{form_of}
use Rattle.acl_forms.specs.FormText as freebsd
use Rattle.acl_forms.specs.declared.form.Form.{Form}
use Rattle.acl_forms.specs.declared.form.Form.TheVariants.{Posix, Nfs4, Freebsd}
use Rattle.acl_cli.specs.ErrorOutput.{line_of_words}
use Rattle.acl_listings.specs.Block.{FileValue, file_by}
use Rattle.acl_listings.specs.Header.{after_prefix}
use Rattle.acl_listings.specs.Lines.{after_line, first_line}
use Rattle.acl_listings.specs.ListLines.{is_default}
use Rattle.acl_listings.specs.declared.lists.Lists.{Lists}
use Rattle.acl_listings.specs.declared.lists.Lists.TheVariants as lists
use Rattle.acl_people.specs.Host.{Host, lacks_group, lacks_user, names_of_host}
use Rattle.acl_reports.specs.declared.sighting.Sighting.{Sighting}
use Rattle.acl_reports.specs.declared.sighting.Sighting.TheVariants.{Nobody, Another, First}
use Rattle.acl_reports.specs.declared.stranger.Stranger.{Stranger}
use Rattle.acl_reports.specs.declared.strangers.FirstStranger.{FirstStranger}
use Rattle.acl_reports.specs.declared.strangers.Strangers.{Strangers}

-- ---- of a file

-- an id, if no user has it; and if no group has it
abbrev pub unless_user : Host → ℕ → Option ℕ
unless_user host uid = if lacks_user host uid then Some uid else None

abbrev pub unless_group : Host → ℕ → Option ℕ
unless_group host gid = if lacks_group host gid then Some gid else None

-- the id that an entry names, if no account has it
abbrev pub tag_stranger : Host → Tag → Option ℕ
tag_stranger host (tag.User uid) = unless_user host uid
tag_stranger host (tag.Group gid) = unless_group host gid
tag_stranger host _ = None

abbrev pub who_stranger : Host → Who → Option ℕ
who_stranger host (who.User uid) = unless_user host uid
who_stranger host (who.NamedGroup gid) = unless_group host gid
who_stranger host _ = None

-- whether an entry does
abbrev pub is_strange : Host → EntryValue → Bool
is_strange host entry = is_some (tag_stranger host entry.tag)

abbrev pub is_strange_ace : Host → Nfsace4 → Bool
is_strange_ace host ace = is_some (who_stranger host ace.who)

-- and one of a list
abbrev pub has_stranger : Host → List EntryValue → Bool
has_stranger host entries = list_any (is_strange host) entries

abbrev pub have_stranger : Host → Lists → Bool
have_stranger host (lists.Posix access default) =
    has_stranger host access || option_map_or (has_stranger host) default false
have_stranger host (lists.Nfs4 aces) = list_any (is_strange_ace host) aces

-- whether a file names an id that no account has: its owner's, its group's, or an entry's
abbrev pub names_stranger : Host → FileValue → Bool
names_stranger host file = lacks_user host file.owner || lacks_group host file.group
    || have_stranger host file.lists

-- ---- where its block does first

-- of what reads
abbrev pub if_read : {A F B : Type 0} → (A → Option B) → Result A F → Option B
if_read named (Ok value) = named value
if_read named (Err fault) = None

-- the id that a piece names, as an entry of this form
abbrev pub piece_stranger : Host → Form → List ℕ → Option ℕ
piece_stranger host Posix piece = if_read (λ entry. tag_stranger host entry.tag)
    (posix.entry_by (names_of_host host) piece)
piece_stranger host Nfs4 piece = if_read (λ ace. who_stranger host ace.who)
    (ace_by (names_of_host host) piece)
piece_stranger host Freebsd piece = if_read (λ ace. who_stranger host ace.who)
    (freebsd.entry_by (names_of_host host) piece)

-- what a line has of entries of this form: in a default list what stands behind its word
abbrev pub entries_in : Form → List ℕ → List ℕ
entries_in Posix line = if is_default line then drop 8 line else line
entries_in form line = line

-- the first that pieces name; and that a line does
abbrev pub first_stranger : Host → Form → List (List ℕ) → Option ℕ
first_stranger host form [] = None
first_stranger host form (piece ∷ more) =
    option_or (piece_stranger host form piece) (first_stranger host form more)

abbrev pub line_stranger : Host → Form → List ℕ → Option ℕ
line_stranger host form line = first_stranger host form (pieces (entries_in form line))

-- an id, and how many lines of its block stand before it
abbrev pub placed : ℕ → Option ℕ → Option Stranger
placed before id = option_map (λ id. record { id = id; before = before }) id

-- the first that lines name, before which so many stand
abbrev pub list_stranger : Host → Form → ℕ → List (List ℕ) → Option Stranger
list_stranger host form before [] = None
list_stranger host form before (line ∷ more) = option_or
    (placed before (line_stranger host form line)) (list_stranger host form (before + 1) more)

-- the owner's, by its line, and the group's
abbrev pub owner_stranger : Host → List ℕ → Option ℕ
owner_stranger host line =
    option_and_then (λ owner. if_read (unless_user host)
    (resolved (names_of_host host).written (names_of_host host).uid owner))
    (after_prefix (codes "# owner: ") line)

abbrev pub group_stranger : Host → List ℕ → Option ℕ
group_stranger host line =
    option_and_then (λ group. if_read (unless_group host)
    (resolved (names_of_host host).written (names_of_host host).gid group))
    (after_prefix (codes "# group: ") line)

-- the first id without an account that the lines of a block behind its first name
abbrev pub stranger_behind : Host → List ℕ → Option Stranger
stranger_behind host lines =
    let list = after_line (after_line lines) in
    option_or (placed 1 (owner_stranger host (first_line lines)))
    (option_or (placed 2 (group_stranger host (first_line (after_line lines))))
    (list_stranger host (form_of list) 3 (parts newline list)))

-- if the file does that they say
abbrev pub file_stranger : Host → FileValue → List ℕ → Option Stranger
file_stranger host file lines =
    if names_stranger host file then stranger_behind host lines else None

-- the first that a block names, which reads
abbrev pub stranger_in : Host → List ℕ → Option Stranger
stranger_in host text = if_read (λ file. file_stranger host file (after_line text))
    (file_by (names_of_host host) text)

-- ids aren't looked for
abbrev pub none_sought : List ℕ → Option Stranger
none_sought text = None

-- ---- of a listing

abbrev pub no_strangers : Strangers
no_strangers = record { files = 0; first = None }

-- an id, of a block whose first line has this number
abbrev pub first_of : ℕ → Stranger → FirstStranger
first_of line found = record { id = found.id; line = line + found.before }

-- a block more, whose first line has this number, and which names this id first, if any
abbrev pub with_stranger : Strangers → ℕ → Option Stranger → Strangers
with_stranger strangers line None = strangers
with_stranger strangers line (Some found) = record {
  files = strangers.files + 1;
  first = Some (unwrap_or strangers.first (first_of line found));
}

-- what a block is counted as that names this id first, if any, behind blocks of which so much is
-- counted
abbrev pub IsSighting : Strangers → Option Stranger → Sighting → Type 0
IsSighting strangers None Nobody = ⊤
IsSighting strangers (Some found) Another = is_some strangers.first ≡ true
IsSighting strangers (Some found) (First stranger) =
    (strangers.first ≡ None) × (stranger ≡ found)
IsSighting strangers _ _ = ⊥

abbrev pub first_words : FirstStranger → List ℕ
first_words first = decimal first.id ++ codes " (line " ++ decimal first.line ++ codes ")"

-- `aclctl: LISTING: N of M files name ids without an account, the first is ID (line LINE)`
abbrev pub strangers_line : List ℕ → ℕ → Strangers → List ℕ
strangers_line name blocks strangers = by strangers.first
  where
    by : Option FirstStranger → List ℕ
    by None = []
    by (Some first) = line_of_words (name ++ codes ": " ++ decimal strangers.files ++ codes " of "
        ++ decimal blocks ++ codes " files name ids without an account, the first is "
        ++ first_words first)
