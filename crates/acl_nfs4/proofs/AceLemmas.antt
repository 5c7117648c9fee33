-- What keeps an entry an entry: no bit without a name, and the group flag exactly if it names a group.
use Rattle.std.proofs.Common.{◌≡◌, ℕ, ◌^◌, Bool, true, false, not, ◌&&◌, ◌||◌, refl, sym, ap, subst, ◌∙◌, inl, inr, ◌⊎◌}
use Rattle.std.proofs.lemmas.Bool.{and_parts, or_cases}
use Rattle.std.proofs.Math.Bool.{and-false}
use Rattle.acl_names.specs.Bits.{has, without, ◌∩◌, ◌∪◌}
use Rattle.acl_names.proofs.BitSets.{has-and, has-or, has-without, same_bits}
use Rattle.acl_nfs4.specs.Ace.{IsAce, ace_of, flags_for, is_idle}
use Rattle.acl_nfs4.specs.Flags.{all_flags, identifier_group}
use Rattle.acl_nfs4.specs.Mask.{all_masks}
use Rattle.acl_nfs4.specs.Who.{flags_of_who, is_named_group}
use Rattle.acl_nfs4.specs.declared.ace.AceType.{AceType}
use Rattle.acl_nfs4.specs.declared.who.Who.{Who}
use Rattle.acl_nfs4.specs.declared.who.Who.TheVariants.{Owner, Group, Everyone, User, NamedGroup}

-- ---- sets within a set

-- a set whose bits are all in another is what both have
pub within-from : (set all : ℕ) → ((k : ℕ) → has set k ≡ true → has all k ≡ true) → set ∩ all ≡ set
within-from set all inside = same_bits _ _ (λ k. has-and set all k ∙ go k (has set k) refl)
  where
    go : (k : ℕ) (b : Bool) → has set k ≡ b → (b && has all k) ≡ b
    go k true e = inside k e
    go k false e = refl

pub within-has : (set all k : ℕ) → set ∩ all ≡ set → has set k ≡ true → has all k ≡ true
within-has set all k within e = (and_parts (has set k) (has all k) (sym (has-and set all k) ∙ ap (λ s. has s k) within ∙ e)).1

pub within-and : (set all : ℕ) → (set ∩ all) ∩ all ≡ set ∩ all
within-and set all = within-from _ all (λ k e. (and_parts (has set k) (has all k) (sym (has-and set all k) ∙ e)).1)

pub within-without : (set removed all : ℕ) → set ∩ all ≡ set → without set removed ∩ all ≡ without set removed
within-without set removed all within =
    within-from _ all (λ k e. within-has set all k within (and_parts (has set k) _ (sym (has-without set removed k) ∙ e)).0)

pub within-or : (a b all : ℕ) → a ∩ all ≡ a → b ∩ all ≡ b → (a ∪ b) ∩ all ≡ a ∪ b
within-or a b all in_a in_b = within-from _ all (λ k e. go k (or_cases (has a k) (has b k) (sym (has-or a b k) ∙ e)))
  where
    go : (k : ℕ) → (has a k ≡ true) ⊎ (has b k ≡ true) → has all k ≡ true
    go k (inl e) = within-has a all k in_a e
    go k (inr e) = within-has b all k in_b e

-- ---- the flags of an entry

-- a who asks for no flag, or for a group's
pub by_flags_of_who : (P : ℕ → Type 0) → P 0 → P (2 ^ identifier_group) → (who : Who) → P (flags_of_who who)
by_flags_of_who P none group Owner = none
by_flags_of_who P none group Group = none
by_flags_of_who P none group Everyone = none
by_flags_of_who P none group (User uid) = none
by_flags_of_who P none group (NamedGroup gid) = group

pub within-flags_of_who : (who : Who) → flags_of_who who ∩ all_flags ≡ flags_of_who who
within-flags_of_who = by_flags_of_who (λ flags. flags ∩ all_flags ≡ flags) refl refl

has-flags_of_who : (who : Who) → has (flags_of_who who) identifier_group ≡ is_named_group who
unfolding has
has-flags_of_who Owner = refl
has-flags_of_who Group = refl
has-flags_of_who Everyone = refl
has-flags_of_who (User uid) = refl
has-flags_of_who (NamedGroup gid) = refl

has-group_flag : has (2 ^ identifier_group) identifier_group ≡ true
unfolding has
has-group_flag = refl

group_flag-flags_for : (who : Who) (flags : ℕ) → has (flags_for who flags) identifier_group ≡ is_named_group who
group_flag-flags_for who flags =
    has-or (without flags (2 ^ identifier_group)) (flags_of_who who) identifier_group
    ∙ ap (λ b. b || has (flags_of_who who) identifier_group)
    (has-without flags (2 ^ identifier_group) identifier_group
    ∙ ap (λ b. has flags identifier_group && not b) has-group_flag
    ∙ and-false (has flags identifier_group))
    ∙ has-flags_of_who who

-- the entry of any parts
pub IsAce-ace_of : (kind : AceType) (flags : ℕ) (who : Who) (mask : ℕ) → IsAce (ace_of kind flags who mask)
IsAce-ace_of kind flags who mask = record {
  known_flags = within-or (without (flags ∩ all_flags) (2 ^ identifier_group)) (flags_of_who who) all_flags
      (within-without (flags ∩ all_flags) (2 ^ identifier_group) all_flags (within-and flags all_flags))
      (within-flags_of_who who);
  known_mask = within-and mask all_masks;
  group_flag = group_flag-flags_for who (flags ∩ all_flags);
}

pub IsAce-made : (kind : AceType) (flags : ℕ) (who : Who) (mask : ℕ) {own_flags own_mask : ℕ}
    → own_flags ≡ flags_for who (flags ∩ all_flags) → own_mask ≡ mask ∩ all_masks
    → IsAce (record { kind = kind; flags = own_flags; who = who; mask = own_mask })
IsAce-made kind flags who mask {own_flags} {own_mask} f m =
    subst (λ (own : ℕ). IsAce (record { kind = kind; flags = own; who = who; mask = own_mask })) (sym f)
    (subst (λ (own : ℕ). IsAce (record { kind = kind; flags = flags_for who (flags ∩ all_flags); who = who; mask = own })) (sym m)
    (IsAce-ace_of kind flags who mask))

idle-flags_of_who : (who : Who) → (has (flags_of_who who) 3 && not (has (flags_of_who who) 0 || has (flags_of_who who) 1)) ≡ false
unfolding has
idle-flags_of_who = by_flags_of_who (λ flags. (has flags 3 && not (has flags 0 || has flags 1)) ≡ false) refl refl

-- an entry with no flags of its own
pub IsAce-plain_ace : (kind : AceType) (who : Who) (mask : ℕ) {own_flags : ℕ} → own_flags ≡ flags_of_who who → mask ∩ all_masks ≡ mask
    → IsAce (record { kind = kind; flags = own_flags; who = who; mask = mask })
IsAce-plain_ace kind who mask f known = record {
  known_flags = ap (λ (flags : ℕ). flags ∩ all_flags) f ∙ within-flags_of_who who ∙ sym f;
  known_mask = known;
  group_flag = ap (λ (flags : ℕ). has flags identifier_group) f ∙ has-flags_of_who who;
}

pub is_idle-plain_ace : (kind : AceType) (who : Who) (mask : ℕ) {own_flags : ℕ} → own_flags ≡ flags_of_who who
    → is_idle (record { kind = kind; flags = own_flags; who = who; mask = mask }) ≡ false
is_idle-plain_ace kind who mask f =
    ap (λ (flags : ℕ). has flags 3 && not (has flags 0 || has flags 1)) f ∙ idle-flags_of_who who
