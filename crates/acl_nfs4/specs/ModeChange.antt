-- A list with a mode set (within RFC 8881, section 6.4.1.1).
use Rattle.std.specs.Prelude.{ℕ, ◌^◌, Bool, not, ◌&&◌, if◌then◌else◌, List, [], ◌∷◌, ◌++◌, map}
use Rattle.std.specs.Prelude.{filter, flat_map}
use Rattle.acl_names.specs.Bits.{◌∪◌, without, union}
use Rattle.acl_nfs4.specs.Ace.{decides, is_allow, is_deny, plain_ace, unless_empty, is_inheritable}
use Rattle.acl_nfs4.specs.Ace.{Nfsace4}
use Rattle.acl_nfs4.specs.Who.{is_special, same_who}
use Rattle.acl_nfs4.specs.Mask.{mask_of, rest_of, mode_bits}
use Rattle.acl_nfs4.specs.Flags.{inherit_only, inheritance_flags}
use Rattle.acl_nfs4.specs.declared.ace.AceType.TheVariants.{Allow, Deny}
use Rattle.acl_posix.specs.Mode.{Classes}
use Rattle.acl_nfs4.specs.declared.who.Who.{Who}
use Rattle.acl_nfs4.specs.declared.who.Who.TheVariants.{Owner, Group, Everyone}

-- an entry that decides and is also inherited, as two entries
unfoldable pub split : Nfsace4 → List Nfsace4
split ace =
    if decides ace && is_inheritable ace
    then record ace { flags = ace.flags ∪ 2 ^ inherit_only } ∷ record ace
    { flags = without ace.flags inheritance_flags } ∷ []
    else ace ∷ []

-- what an entry that decides keeps of its mask: one for a special identifier none of the mode's
-- bits, and one that allows a named user or group none of those that the mode's group lacks
unfoldable pub kept_mask : ℕ → Nfsace4 → ℕ
kept_mask group ace =
    if is_special ace.who then without ace.mask mode_bits
    else if is_allow ace.kind then without ace.mask (rest_of group)
    else ace.mask

-- what is left of an entry under a mode with this group
unfoldable pub kept_of_part : ℕ → Nfsace4 → List Nfsace4
kept_of_part group ace = if decides ace
    then unless_empty (record ace { mask = kept_mask group ace }) else ace ∷ []

-- what is left of an entry, split and restricted
abbrev pub kept_of_entry : ℕ → Nfsace4 → List Nfsace4
kept_of_entry group ace = flat_map (kept_of_part group) (split ace)

-- what is left of the old list under a mode with this group
abbrev pub kept_of_list : ℕ → List Nfsace4 → List Nfsace4
kept_of_list group aces = flat_map (kept_of_part group) (flat_map split aces)

-- each who only once, at its first place
abbrev pub without_repeats : List Who → List Who
without_repeats [] = []
without_repeats (who ∷ rest) = who
    ∷ filter (λ other. not (same_who other who)) (without_repeats rest)

-- whether an entry allows or denies a named user or group something
abbrev pub names_someone : Nfsace4 → Bool
names_someone ace = decides ace && not (is_special ace.who)

-- the named users and groups whom entries allow or deny something, in the order of their first
-- entry
abbrev pub named_whos : List Nfsace4 → List Who
named_whos aces = without_repeats (map (λ ace. ace.who) (filter names_someone aces))

-- whether an entry allows or denies this who something by name
abbrev pub names : Who → Nfsace4 → Bool
names who ace = names_someone ace && same_who ace.who who

-- whether an entry denies this who something by name
abbrev pub denies_by_name : Who → Nfsace4 → Bool
denies_by_name who ace = decides ace && (is_deny ace.kind && same_who ace.who who)

-- the bits that the list denies this who by name
abbrev pub denied_to : Who → List Nfsace4 → ℕ
denied_to who aces = union (map (λ ace. ace.mask) (filter (denies_by_name who) aces))

-- a denial of those of the bits that the list doesn't deny this who
abbrev pub denial_of : ℕ → List Nfsace4 → Who → List Nfsace4
denial_of bits aces who = plain_ace Deny who (without bits (denied_to who aces))

-- the entries at the front, for the owner, and at the end, for the group and everyone
abbrev pub for_owner : ℕ → List Nfsace4
for_owner user = plain_ace Allow Owner (mask_of user) ++ plain_ace Deny Owner (rest_of user)

abbrev pub for_others : ℕ → ℕ → List Nfsace4
for_others group other = plain_ace Allow Group (mask_of group)
    ++ plain_ace Deny Group (rest_of group)
    ++ plain_ace Allow Everyone (mask_of other)

-- the denials for all whom the list names
abbrev pub denials : ℕ → List Nfsace4 → List Nfsace4
denials bits aces = flat_map (denial_of bits aces) (named_whos aces)

-- the list with the mode set, and these bits denied to those whom it names
abbrev pub with_denials : ℕ → List Nfsace4 → Classes → List Nfsace4
with_denials bits aces mode =
    for_owner mode.user
    ++ kept_of_list mode.group aces
    ++ denials bits aces
    ++ for_others mode.group mode.other

-- the list with the mode set: all that the mode's group lacks is denied to those whom it names
abbrev pub with_mode : List Nfsace4 → Classes → List Nfsace4
with_mode aces mode = with_denials (rest_of mode.group) aces mode

-- what the mode's others have and its group lacks
abbrev pub beyond_group : Classes → ℕ
beyond_group mode = without (mask_of mode.other) (mask_of mode.group)

-- the list with the mode set, which denies only what entries after it would allow: a mode that is
-- set later can lift the other denials
abbrev pub with_mode_least : List Nfsace4 → Classes → List Nfsace4
with_mode_least aces mode = with_denials (beyond_group mode) aces mode

-- the list with the mode set, and no denials beside the owner's and the group's
abbrev pub without_denials : List Nfsace4 → Classes → List Nfsace4
without_denials aces mode =
    for_owner mode.user
    ++ kept_of_list mode.group aces
    ++ for_others mode.group mode.other
