-- What a list grants (RFC 8881, section 6.2.1), and the mode of its file (section 6.3.2).
use Rattle.std.specs.Prelude.{ℕ, ◌^◌, Bool, false, ◌&&◌, ◌||◌, if◌then◌else◌, IsTrue, List, Option}
use Rattle.std.specs.Prelude.{find, option_map, unwrap_or}
use Rattle.std.specs.List.{filter, list_all, range_with_len}
use Rattle.acl_names.specs.Bits.{has, ◌∪◌}
use Rattle.acl_names.specs.Requester.{Identity}
use Rattle.acl_nfs4.specs.Ace.{Nfsace4, decides, is_allow}
use Rattle.acl_nfs4.specs.Mask.{read_data, write_data, append_data, execute, read_permission}
use Rattle.acl_nfs4.specs.Mask.{write_permission, execute_permission}
use Rattle.acl_nfs4.specs.Who.{matches, same_who}
use Rattle.acl_posix.specs.Mode.{Classes}
use Rattle.acl_nfs4.specs.declared.who.Who.{Who}
use Rattle.acl_nfs4.specs.declared.who.Who.TheVariants.{Owner, Group, Everyone}

-- whether the entry allows or denies the bit, if its who applies
unfoldable pub speaks : (Who → Bool) → ℕ → Nfsace4 → Bool
speaks applies bit ace = decides ace && (applies ace.who && has ace.mask bit)

-- whether the first entry that allows or denies the bit allows it
abbrev pub verdict : (Who → Bool) → ℕ → List Nfsace4 → Option Bool
verdict applies bit aces = option_map (λ ace. is_allow ace.kind) (find (speaks applies bit) aces)

-- whether the bit is granted: the first entry that allows or denies it allows it
abbrev pub allows : (Who → Bool) → ℕ → List Nfsace4 → Bool
allows applies bit aces = unwrap_or (verdict applies bit aces) false

-- a mask is granted if each of its bits is
abbrev pub Grants : (Who → Bool) → List Nfsace4 → ℕ → Type 0
Grants applies aces mask = (bit : ℕ) → IsTrue (has mask bit) → IsTrue (allows applies bit aces)

-- the places of the bits of a mask, which has 32
unfoldable pub places_of : ℕ → List ℕ
places_of mask = filter (has mask) (range_with_len 0 32)

-- whether the list of a file of this owner and this group grants the requester each bit of the mask
abbrev pub grants4 : List Nfsace4 → ℕ → ℕ → Identity → ℕ → Bool
grants4 acl owner group requester mask = list_all
    (λ bit. allows (matches owner group requester) bit acl) (places_of mask)

-- the permissions of the mode for those to whom these entries apply
abbrev pub shown_to : (Who → Bool) → List Nfsace4 → ℕ
shown_to applies aces =
    (if allows applies read_data aces then 2 ^ read_permission else 0)
    ∪ (if allows applies write_data aces && allows applies append_data aces
    then 2 ^ write_permission else 0)
    ∪ (if allows applies execute aces then 2 ^ execute_permission else 0)

-- the entries that count for the mode of one of OWNER@, GROUP@ and EVERYONE@: its own, and those of
-- EVERYONE@
abbrev pub of_class : Who → Who → Bool
of_class class who = same_who who class || same_who who Everyone

-- the mode of a file with the list
abbrev pub mode_of : List Nfsace4 → Classes
mode_of aces = record {
  user = shown_to (of_class Owner) aces;
  group = shown_to (of_class Group) aces;
  other = shown_to (of_class Everyone) aces;
}
