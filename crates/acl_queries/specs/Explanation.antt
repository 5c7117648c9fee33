-- Which entries decide a request, and that no others count.
use Rattle.std.specs.Prelude.{◌≡◌, ◌==◌, ◌&&◌, ℕ, Bool, true, false, List, ◌++◌, Option, Some, None}
use Rattle.std.specs.Prelude.{IsSomeAnd, slice_get, ◌^◌, if◌then◌else◌}
use Rattle.std.specs.List.{AllZip, list_any, position_from}
use Rattle.acl_names.specs.Bits.{has_all, without}
use Rattle.acl_names.specs.Requester.{Identity}
use Rattle.acl_posix.specs.Access.{effective_perms, grants, is_for_group_of}
use Rattle.acl_posix.specs.Entry.{EntryValue, same_tag}
use Rattle.acl_posix.specs.Validity.{IsValid}
use Rattle.acl_posix.specs.declared.entry.Tag.{Tag}
use Rattle.acl_posix.specs.declared.entry.Tag.TheVariants as tags
use Rattle.acl_nfs4.specs.Ace.{Nfsace4, decides, is_allow}
use Rattle.acl_nfs4.specs.Evaluation.{allows, speaks}
use Rattle.acl_nfs4.specs.declared.who.Who.{Who}
use Rattle.acl_queries.specs.declared.explanation.Class.{Class}
use Rattle.acl_queries.specs.declared.explanation.Class.TheVariants.{Owner, User, Group, Other}

-- ---- POSIX lists

-- the class that decides about the requester: the owner's, if the requester is the owner; else that
-- of the user's own entry, if there is one; else that of the entries for the requester's groups, if
-- there are any; else the others'
abbrev pub class_of : List EntryValue → ℕ → ℕ → Identity → Class
class_of acl owner group requester =
    if requester.uid == owner then Owner
    else (if list_any (λ entry. same_tag entry.tag (tags.User requester.uid)) acl then User
    else (if list_any (λ entry. is_for_group_of requester group entry.tag) acl then Group
    else Other))

-- whether an entry is of the class
abbrev pub is_of_class : Class → ℕ → Identity → Tag → Bool
is_of_class Owner group requester tag = same_tag tag tags.UserObj
is_of_class User group requester tag = same_tag tag (tags.User requester.uid)
is_of_class Group group requester tag = is_for_group_of requester group tag
is_of_class Other group requester tag = same_tag tag tags.Other

-- whether the mask limits the class
abbrev pub is_limited : Class → Bool
is_limited User = true
is_limited Group = true
is_limited _ = false

-- whether an entry with the tag counts: it is of the class, or is the mask that limits it
abbrev pub counts : Class → ℕ → Identity → Tag → Bool
counts class group requester tags.Mask = is_limited class
counts class group requester tag = is_of_class class group requester tag

-- the permissions of the request that the entry lacks under the mask
abbrev pub lacks : List EntryValue → EntryValue → ℕ → ℕ
lacks acl entry request = without request (effective_perms acl entry)

-- A request is granted exactly if an entry of the class that decides has the whole of it.
abbrev pub ClassesDecide : Type 0
ClassesDecide =
    (acl : List EntryValue) (owner group : ℕ) (requester : Identity) (request : ℕ) → IsValid acl
    → grants acl owner group requester request
    ≡ list_any (λ entry. is_of_class (class_of acl owner group requester) group requester entry.tag
    && has_all (effective_perms acl entry) request) acl

-- the same entries, but for permissions that don't count
abbrev pub AreSameWhere : (Tag → Bool) → List EntryValue → List EntryValue → Type 0
AreSameWhere count = AllZip (λ entry other. (other.tag ≡ entry.tag)
    × (count entry.tag ≡ true → other.perms ≡ entry.perms))

-- With other permissions in entries that don't count, the list answers as it did.
abbrev pub OtherEntriesDontCount : Type 0
OtherEntriesDontCount =
    (acl other : List EntryValue) (owner group : ℕ) (requester : Identity) (request : ℕ)
    → IsValid acl
    → AreSameWhere (counts (class_of acl owner group requester) group requester) acl other
    → grants other owner group requester request ≡ grants acl owner group requester request

-- ---- NFSv4 lists

-- whether the entry decides about those to whom it applies, and has all of the bits
abbrev pub speaks_of : (Who → Bool) → ℕ → Nfsace4 → Bool
speaks_of applies bits ace = decides ace && (applies ace.who && has_all ace.mask bits)

-- the place of the first entry that does, if there is one
abbrev pub first_speaker : (Who → Bool) → ℕ → List Nfsace4 → Option ℕ
first_speaker applies bits aces = position_from (speaks_of applies bits) 0 aces

-- what the entry at the place says
abbrev pub SaidBy : List Nfsace4 → Option ℕ → Bool → Type 0
SaidBy aces None allowed = allowed ≡ false
SaidBy aces (Some place) allowed = IsSomeAnd (slice_get aces place)
    (λ ace. allowed ≡ is_allow ace.kind)

-- A bit is granted exactly if the entry that speaks first of it allows it.
abbrev pub FirstSpeakersDecide : Type 0
FirstSpeakersDecide =
    (applies : Who → Bool) (bit : ℕ) (aces : List Nfsace4)
    → SaidBy aces (first_speaker applies (2 ^ bit) aces) (allows applies bit aces)

-- the same entries, but for some that speak of the bit in neither list
abbrev pub AreSameOrSilent : (Who → Bool) → ℕ → List Nfsace4 → List Nfsace4 → Type 0
AreSameOrSilent applies bit =
    AllZip (λ ace other. (speaks applies bit ace ≡ true → other ≡ ace)
    × (speaks applies bit ace ≡ false → speaks applies bit other ≡ false))

-- With other entries in the place of silent ones, silent too, the list decides the bit as it did.
abbrev pub SilentEntriesDontCount : Type 0
SilentEntriesDontCount =
    (applies : Who → Bool) (bit : ℕ) (aces others : List Nfsace4)
    → AreSameOrSilent applies bit aces others
    → allows applies bit others ≡ allows applies bit aces

-- Whatever comes after the entry that speaks first, the list decides the bit as it did.
abbrev pub LaterEntriesDontCount : Type 0
LaterEntriesDontCount =
    (applies : Who → Bool) (bit : ℕ) (front rest others : List Nfsace4)
    → list_any (speaks applies bit) front ≡ true
    → allows applies bit (front ++ others) ≡ allows applies bit (front ++ rest)
