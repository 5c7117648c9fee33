-- Private steps, which no public clause cites: a check in one pass over entries that stand in
-- canonical order already.
use Rattle.std.specs.Prelude.{◌≡◌, ℕ, ◌+◌, ◌<◌, ◌^◌, ◌&&◌, ◌||◌, not, Bool, true, false, List, []}
use Rattle.std.specs.Prelude.{◌∷◌, Option, Some, None, is_some, option_map, Result, Ok, Err, nat_le}
use Rattle.std.specs.Prelude.{nat_lt, if◌then◌else◌}
use Rattle.std.specs.List.{All}
use Rattle.std.specs.Option.{option_and_then}
use Rattle.acl_access.specs.declared.rules.Rules.{Rules}
use Rattle.acl_access.specs.declared.rules.Rules.TheVariants.{Draft, Linux}
use Rattle.acl_names.specs.Bits.{has_all}
use Rattle.acl_names.specs.Requester.{Identity}
use Rattle.acl_posix.specs.Access.{is_for_group_of}
use Rattle.acl_posix.specs.Canonical.{IsCanonical, qualifier_of}
use Rattle.acl_posix.specs.CheckSteps.{groups_answer, has_tag, tag_answer}
use Rattle.acl_posix.specs.Entry.{EntryValue, is_named, perms_of, same_tag}
use Rattle.acl_posix.specs.Keys.{IsShort, order_of}
use Rattle.acl_posix.specs.Perms.{bits_of}
use Rattle.acl_posix.specs.Validity.{names_someone}
use Rattle.acl_posix.specs.declared.entry.Tag.{Tag}
use Rattle.acl_posix.specs.declared.entry.Tag.TheVariants.{UserObj, User, GroupObj, Mask, Other}
use Rattle.acl_wire.specs.declared.fault.PosixFault.{PosixFault}
use Rattle.acl_wire.specs.declared.one_pass.Seen.{Seen}

-- what the entries for someone answer, with a further one
abbrev pub joined : Option Bool → Bool → Option Bool
joined None has = Some has
joined (Some true) has = Some true
joined (Some false) has = Some has

abbrev pub nothing_seen : Seen
nothing_seen = record {
  next = 0;
  owner = None;
  user = None;
  group_obj = false;
  groups = None;
  named = false;
  mask = None;
  other = None;
}

-- a tag that comes behind all that was seen
abbrev pub may_follow : Seen → Tag → Bool
may_follow seen tag = nat_le seen.next (order_of tag) && nat_lt (qualifier_of tag) (2 ^ 32)

-- whether entries of which this was seen are a list, if no tag stands twice
abbrev pub is_complete : Seen → Bool
is_complete seen = is_some seen.owner && seen.group_obj && is_some seen.other
    && (not seen.named || is_some seen.mask)

-- whether lists with an empty mask are passed over
abbrev pub is_linux : Rules → Bool
is_linux Draft = false
is_linux Linux = true

module _ (requester : Identity) (group request : ℕ) where
  -- what was seen with one entry more
  abbrev pub with_entry : Seen → EntryValue → Seen
  with_entry seen entry = record {
    next = order_of entry.tag + 1;
    owner = if same_tag entry.tag UserObj then Some (has_all entry.perms request)
        else seen.owner;
    user = if same_tag entry.tag (User requester.uid) then Some (has_all entry.perms request)
        else seen.user;
    group_obj = if same_tag entry.tag GroupObj then true else seen.group_obj;
    groups = if is_for_group_of requester group entry.tag
        then joined seen.groups (has_all entry.perms request) else seen.groups;
    named = if is_named entry.tag then true else seen.named;
    mask = if same_tag entry.tag Mask then Some (record { 0 = entry.perms }) else seen.mask;
    other = if same_tag entry.tag Other then Some (has_all entry.perms request) else seen.other;
  }

  -- the same, if the entry comes behind the others
  abbrev pub after : Seen → EntryValue → Option Seen
  after seen entry = if may_follow seen entry.tag then Some (with_entry seen entry) else None

  abbrev pub all_after : Seen → List EntryValue → Option Seen
  all_after seen [] = Some seen
  all_after seen (entry ∷ more) = option_and_then (λ next. all_after next more) (after seen entry)

  -- the same of entries that are still to be read
  abbrev pub goes_on : Seen → Result (List EntryValue) PosixFault → Option Seen
  goes_on seen (Ok entries) = all_after seen entries
  goes_on seen (Err fault) = None

  abbrev pub after_read : Seen → Result EntryValue PosixFault → Option Seen
  after_read seen (Ok entry) = after seen entry
  after_read seen (Err fault) = None

  -- what was seen of entries reports for them all that a check asks
  pub record IsSeen (entries : List EntryValue) (seen : Seen) : Type 0 where
    pub canonical : IsCanonical entries
    pub short : All (λ entry. IsShort entry.tag) entries
    pub below : All (λ entry. order_of entry.tag < seen.next) entries
    pub owner : seen.owner ≡ tag_answer UserObj entries request
    pub user : seen.user ≡ tag_answer (User requester.uid) entries request
    pub group_obj : seen.group_obj ≡ has_tag GroupObj entries
    pub groups : seen.groups ≡ groups_answer entries group requester request
    pub named : seen.named ≡ names_someone entries
    pub mask : option_map bits_of seen.mask ≡ perms_of Mask entries
    pub other : seen.other ≡ tag_answer Other entries request
