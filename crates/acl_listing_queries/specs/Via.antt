-- Which entries of a list decide that somebody is granted something, in short.
use Rattle.std.specs.Prelude.{ℕ, ◌+◌, ◌==◌, ◌&&◌, Bool, not, List, [], ◌∷◌, ◌++◌, Option, Some}
use Rattle.std.specs.Prelude.{None, codes, decimal, fold, if◌then◌else◌, length, option_to_list}
use Rattle.std.specs.List.{enumerate_from, flat_map, list_any}
use Rattle.acl_names.specs.Bits.{has_all}
use Rattle.acl_names.specs.Requester.{Identity}
use Rattle.acl_posix.specs.Access.{effective_perms}
use Rattle.acl_posix.specs.Entry.{EntryValue}
use Rattle.acl_posix.specs.declared.entry.Tag.{Tag}
use Rattle.acl_posix.specs.declared.entry.Tag.TheVariants.{UserObj, User, GroupObj, Group, Mask}
use Rattle.acl_posix.specs.declared.entry.Tag.TheVariants.{Other}
use Rattle.acl_nfs4.specs.Ace.{Nfsace4}
use Rattle.acl_nfs4.specs.Who.{matches}
use Rattle.acl_nfs4.specs.declared.owners.Owners.{Owners}
use Rattle.acl_nfs4.specs.declared.who.Who.{Who}
use Rattle.acl_queries.specs.Explanation.{class_of, first_speaker, is_of_class}
use Rattle.acl_queries.specs.declared.explanation.Class.{Class}

-- a word behind a text, with a comma between them, if there is a text
abbrev pub with_word : List ℕ → List ℕ → List ℕ
with_word text word = (if length text == 0 then [] else text ++ codes ",") ++ word

abbrev pub with_commas : List (List ℕ) → List ℕ
with_commas words = fold with_word [] words

-- ---- POSIX lists

abbrev pub entry_word : Tag → List ℕ
entry_word UserObj = codes "owner"
entry_word (User uid) = codes "user"
entry_word GroupObj = codes "group"
entry_word (Group gid) = codes "group:" ++ decimal gid
entry_word Mask = codes "mask"
entry_word Other = codes "other"

-- whether permissions have what is asked for: all of some at once, or any
abbrev pub has_asked : Option ℕ → ℕ → Bool
has_asked (Some perms) granted = has_all granted perms
has_asked None granted = not (granted == 0)

-- whether an entry decides: it is of the class that does, and has what is asked for under the mask
abbrev pub gives : Class → List EntryValue → ℕ → Identity → Option ℕ → EntryValue → Bool
gives class acl group who asked entry = is_of_class class group who entry.tag
    && has_asked asked (effective_perms acl entry)

-- whether the mask takes something from an entry
abbrev pub is_masked : List EntryValue → EntryValue → Bool
is_masked acl entry = not (effective_perms acl entry == entry.perms)

-- the word of an entry that decides
abbrev pub entry_words : Class → List EntryValue → ℕ → Identity → Option ℕ → EntryValue
    → List (List ℕ)
entry_words class acl group who asked entry =
    if gives class acl group who asked entry then entry_word entry.tag ∷ [] else []

-- and the mask's, if it takes something from one that does
abbrev pub mask_words : Class → List EntryValue → ℕ → Identity → Option ℕ → List (List ℕ)
mask_words class acl group who asked =
    if list_any (λ entry. gives class acl group who asked entry && is_masked acl entry) acl
    then entry_word Mask ∷ [] else []

abbrev pub class_via : Class → List EntryValue → ℕ → Identity → Option ℕ → List ℕ
class_via class acl group who asked = with_commas
    (flat_map (entry_words class acl group who asked) acl ++ mask_words class acl group who asked)

-- the entries that decide, in canonical order, and the mask that limits them
abbrev pub posix_via : List EntryValue → Owners → Identity → Option ℕ → List ℕ
posix_via acl owners who asked =
    class_via (class_of acl owners.owner owners.group who) acl owners.group who asked

-- ---- NFSv4 lists

-- the fourteen bits of a mask, each by itself
abbrev pub single_bits : List ℕ
single_bits = 0x1 ∷ 0x2 ∷ 0x4 ∷ 0x8 ∷ 0x10 ∷ 0x20 ∷ 0x40 ∷ 0x80 ∷ 0x100 ∷ 0x10000 ∷ 0x20000
    ∷ 0x40000 ∷ 0x80000 ∷ 0x100000 ∷ []

-- of a bit, if it is one of these, the place of the entry that speaks first of it
abbrev pub speaker_of : (Who → Bool) → ℕ → List Nfsace4 → ℕ → List ℕ
speaker_of applies bits aces bit =
    if has_all bits bit then option_to_list (first_speaker applies bit aces) else []

abbrev pub speakers_of : (Who → Bool) → ℕ → List Nfsace4 → List ℕ
speakers_of applies bits aces = flat_map (speaker_of applies bits aces) single_bits

abbrev pub is_place_of : List ℕ → ℕ → Bool
is_place_of places place = list_any (λ other. other == place) places

-- the number of the entry at a place, from 1, if it is one of these
abbrev pub number_words : List ℕ → ℕ × Nfsace4 → List (List ℕ)
number_words places here = if is_place_of places here.0 then decimal (here.0 + 1) ∷ [] else []

-- a text, or a hyphen if it is empty
abbrev pub or_hyphen : List ℕ → List ℕ
or_hyphen text = if length text == 0 then codes "-" else text

-- the numbers of the entries that speak first of one of the bits, if there is one
abbrev pub nfs4_via : List Nfsace4 → Owners → Identity → ℕ → List ℕ
nfs4_via aces owners who bits = or_hyphen (with_commas (flat_map
    (number_words (speakers_of (matches owners.owner owners.group who) bits aces))
    (enumerate_from 0 aces)))
