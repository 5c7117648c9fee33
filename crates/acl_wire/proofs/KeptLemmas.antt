-- Entries with all their bits beside those that are decided by: whom they name, what they deny by name, and how many a mode leaves.
use Rattle.std.proofs.Common.{◌≡◌, ◌∙◌, ◌≤◌, ℕ, Bool, true, false, cond, not, ◌&&◌, ◌||◌, ◌==◌, List, [], ◌∷◌, length, map, filter, Ok, refl, sym, ap, ap₂, subst, arith, length-append}
use mathlib.Core.Path.{fun_ext}
use Rattle.std.specs.List.{flat_map, list_any}
use Rattle.std.proofs.lemmas.Bool.{true≢false, and_parts, eqb-true}
use Rattle.acl_names.specs.Bits.{has, without, ◌∩◌}
use Rattle.acl_names.proofs.BitSets.{has-and, has-without, has-zero, no_bits, same_bits}
use Rattle.acl_names.proofs.StepLemmas.{bind_ok, if_else}
use Rattle.acl_nfs4.specs.Ace.{Nfsace4, decides, is_allow, is_deny, is_idle, is_inheritable, plain_ace, unless_empty}
use Rattle.acl_nfs4.specs.Flags.{inherit_only, inheritance_flags}
use Rattle.acl_nfs4.specs.Mask.{all_masks, mode_bits, rest_of}
use Rattle.acl_nfs4.specs.ModeChange.{denial_of, denials, denied_to, kept_mask, kept_of_entry, kept_of_list, names_someone, without_repeats}
use Rattle.acl_nfs4.specs.Who.{is_special, same_who}
use Rattle.acl_nfs4.specs.declared.ace.AceType.TheVariants.{Deny}
use Rattle.acl_nfs4.specs.declared.who.Who.{Who}
use Rattle.acl_nfs4.proofs.AceLemmas.{within-has}
use Rattle.acl_nfs4.proofs.ModeChangeDenials.{denies, has-denied_to}
use Rattle.acl_nfs4.proofs.ModeChangeKept.{effective_part, kept-cons, reduced}
use Rattle.acl_nfs4.proofs.ModeChangeParts.{kept_of-parts, kept_of-rest, kept_of-stays}
use Rattle.acl_wire.specs.Decision.{value_of}
use Rattle.acl_wire.specs.Kept.{kept_ace, kept_aces}
use Rattle.acl_wire.specs.RawAces.{ace_of_raw, aces_of, but_inherited, but_retention, effective, seen}
use Rattle.acl_wire.specs.RawAcesWriting.{raw_of}
use Rattle.acl_wire.specs.Written.{tidied_raw}
use Rattle.acl_wire.specs.declared.fault.Nfs4Fault.{Nfs4Fault}
use Rattle.acl_wire.specs.declared.fault.Nfs4Fault.TheVariants as faults
use Rattle.acl_wire.specs.declared.raw_ace.Purpose.TheVariants.{Decide}
use Rattle.acl_wire.specs.declared.raw_ace.RawAce.{RawAce}
use Rattle.acl_wire.proofs.RawsWritten.{raw_written}
use Rattle.acl_wire.proofs.StepsBack.{ok_same}

-- ---- an entry

-- both have the flags that speak of inheritance, and the bits of a mask that have a name; and there is none that is decided by alone
pub record IsLike (raw : RawAce) (ace : Nfsace4) : Type 0 where
  pub flags_are : (k : ℕ) → has inheritance_flags k ≡ true → has (kept_ace raw ace).flags k ≡ has ace.flags k
  pub mask_is : (k : ℕ) → has all_masks k ≡ true → has raw.mask k ≡ has ace.mask k
  pub no_more : (k : ℕ) → has ace.mask k ≡ true → has raw.mask k ≡ true

masked : (bits all k : ℕ) → has all k ≡ true → has bits k ≡ has (bits ∩ all) k
masked bits all k there = sym (has-and bits all k ∙ ap (λ b. has bits k && b) there ∙ and_true (has bits k))
  where
    and_true : (b : Bool) → (b && true) ≡ b
    and_true true = refl
    and_true false = refl

abbrev tidied_by : Bool → RawAce → RawAce
tidied_by b raw = cond b raw (record { kind = raw.kind; flags = without raw.flags 64; mask = raw.mask; special = raw.special; id = 0 })

abbrev flags_without : Bool → ℕ → ℕ
flags_without b flags = cond b flags (without flags 64)

pub is_like : (raw : RawAce) (ace : Nfsace4) → value_of raw ≡ Ok ace → IsLike raw ace
unfolding has
is_like raw ace is = by (raw.special == 0) refl (raw_written (seen Decide raw) ace is)
  where
    of : (b : Bool) → (tidied_raw raw).flags ≡ flags_without b raw.flags → flags_without b (raw.flags ∩ but_inherited) ≡ ace.flags → raw.mask ∩ but_retention ≡ ace.mask → IsLike raw ace
    of b kept flags mask = record {
      flags_are = λ k there. ap (λ (f : ℕ). has f k) kept ∙ each b k (within-has inheritance_flags but_inherited k refl there) ∙ ap (λ (f : ℕ). has f k) flags;
      mask_is = λ k there. masked raw.mask but_retention k (within-has all_masks but_retention k refl there) ∙ ap (λ (m : ℕ). has m k) mask;
      no_more = λ k there. (and_parts (has raw.mask k) (has but_retention k) (sym (has-and raw.mask but_retention k) ∙ ap (λ (m : ℕ). has m k) mask ∙ there)).0;
    }
      where
        each : (b : Bool) (k : ℕ) → has but_inherited k ≡ true → has (flags_without b raw.flags) k ≡ has (flags_without b (raw.flags ∩ but_inherited)) k
        each true k there = masked raw.flags but_inherited k there
        each false k there =
            has-without raw.flags 64 k ∙ ap (λ c. c && not (has 64 k)) (masked raw.flags but_inherited k there) ∙ sym (has-without (raw.flags ∩ but_inherited) 64 k)

    by : (b : Bool) → (raw.special == 0) ≡ b → raw_of ace ≡ tidied_raw (seen Decide raw) → IsLike raw ace
    by true e written =
        let same : raw_of ace ≡ seen Decide raw = written ∙ ap (λ (b : Bool). tidied_by b (seen Decide raw)) e in
        of true (ap (λ (b : Bool). (tidied_by b raw).flags) e) (sym (ap (λ (r : RawAce). r.flags) same)) (sym (ap (λ (r : RawAce). r.mask) same))
    by false e written =
        let same : raw_of ace ≡ tidied_by false (seen Decide raw) = written ∙ ap (λ (b : Bool). tidied_by b (seen Decide raw)) e in
        of false (ap (λ (b : Bool). (tidied_by b raw).flags) e) (sym (ap (λ (r : RawAce). r.flags) same)) (sym (ap (λ (r : RawAce). r.mask) same))

fewer : (x y : Nfsace4) → (y.mask ≡ 0 → x.mask ≡ 0) → length (unless_empty x) ≤ length (unless_empty y)
unfolding unless_empty
fewer x y empty = go (y.mask == 0) refl
  where
    one : (b : Bool) → length (cond b [] (x ∷ [])) ≤ 1
    one true = omega arith
    one false = omega arith

    go : (b : Bool) → (y.mask == 0) ≡ b → length (cond (x.mask == 0) [] (x ∷ [])) ≤ length (cond b [] (y ∷ []))
    go true e = rw (empty (eqb-true y.mask 0 e)) (omega arith)
    go false e = one (x.mask == 0)

module _ (raw : RawAce) (ace : Nfsace4) (like : IsLike raw ace) where
  pub like-decides : decides (kept_ace raw ace) ≡ decides ace
  unfolding decides has
  like-decides = ap (λ b. (is_allow ace.kind || is_deny ace.kind) && not b) (like.flags_are inherit_only refl)

  pub like-inheritable : is_inheritable (kept_ace raw ace) ≡ is_inheritable ace
  unfolding has
  like-inheritable = ap₂ (λ f d. f || d) (like.flags_are 0 refl) (like.flags_are 1 refl)

  like-names : names_someone (kept_ace raw ace) ≡ names_someone ace
  like-names = ap (λ d. d && not (is_special ace.who)) like-decides

  like-denies : (who : Who) (k : ℕ) → has all_masks k ≡ true → denies who k (kept_ace raw ace) ≡ denies who k ace
  like-denies who k there = ap₂ (λ d m. (d && (is_deny ace.kind && same_who ace.who who)) && m) like-decides (like.mask_is k there)

  like-mask : (group k : ℕ) → has (kept_mask group ace) k ≡ true → has (kept_mask group (kept_ace raw ace)) k ≡ true
  unfolding kept_mask
  like-mask group k = by (is_special ace.who) (is_allow ace.kind)
    where
      less : (taken : ℕ) → has (without ace.mask taken) k ≡ true → has (without raw.mask taken) k ≡ true
      less taken e =
          let both = and_parts (has ace.mask k) (not (has taken k)) (sym (has-without ace.mask taken k) ∙ e) in
          has-without raw.mask taken k ∙ ap₂ (λ m t. m && t) (like.no_more k both.0) both.1

      by : (s a : Bool) → has (cond s (without ace.mask mode_bits) (cond a (without ace.mask (rest_of group)) ace.mask)) k ≡ true
          → has (cond s (without raw.mask mode_bits) (cond a (without raw.mask (rest_of group)) raw.mask)) k ≡ true
      by true a = less mode_bits
      by false true = less (rest_of group)
      by false false = like.no_more k

  like-empty : (group : ℕ) → kept_mask group (kept_ace raw ace) ≡ 0 → kept_mask group ace ≡ 0
  like-empty group none = no_bits (kept_mask group ace) (λ k. by k (has (kept_mask group ace) k) refl)
    where
      by : (k : ℕ) (b : Bool) → has (kept_mask group ace) k ≡ b → b ≡ false
      by k true e = absurd (true≢false (sym (like-mask group k e) ∙ ap (λ (m : ℕ). has m k) none ∙ has-zero k))
      by k false e = refl

  -- of an entry without further bits no more is left
  pub like-length : (group : ℕ) → length (kept_of_entry group ace) ≤ length (kept_of_entry group (kept_ace raw ace))
  like-length group = by (decides ace) refl (is_inheritable ace) refl
    where
      by : (d : Bool) → decides ace ≡ d → (i : Bool) → is_inheritable ace ≡ i → length (kept_of_entry group ace) ≤ length (kept_of_entry group (kept_ace raw ace))
      by false d i is = rw (kept_of-stays group ace d, kept_of-stays group (kept_ace raw ace) (like-decides ∙ d)) (omega arith)
      by true d true i =
          let few = fewer (effective_part group ace) (effective_part group (kept_ace raw ace)) (like-empty group) in
          rw (kept_of-parts group ace d i, kept_of-parts group (kept_ace raw ace) (like-decides ∙ d) (like-inheritable ∙ i)) (omega (arith, few))
      by true d false i =
          let few = fewer (reduced group ace) (reduced group (kept_ace raw ace)) (like-empty group) in
          rw (kept_of-rest group ace d i, kept_of-rest group (kept_ace raw ace) (like-decides ∙ d) (like-inheritable ∙ i)) few

-- ---- a list

-- the entries that are read of these numbers
pub data AreRead : List RawAce → List Nfsace4 → Type 0 where
  none : AreRead [] []
  more : {raw : RawAce} {raws : List RawAce} {ace : Nfsace4} {aces : List Nfsace4} → IsLike raw ace → AreRead raws aces → AreRead (raw ∷ raws) (ace ∷ aces)

pub are_read : (raws : List RawAce) (aces : List Nfsace4) → aces_of Decide raws ≡ Ok aces → AreRead raws aces
unfolding aces_of
are_read [] aces is = subst (AreRead []) (ok_same {F = Nfs4Fault} [] aces is) none
are_read (raw ∷ raws) aces is =
    let one = bind_ok (ace_of_raw (seen Decide raw)) _ aces is in
    let two = bind_ok (effective one.0) _ aces one.2 in
    let three = bind_ok (aces_of Decide raws) _ aces two.2 in
    let same : one.0 ≡ two.0 = (if_else (is_idle one.0) faults.InheritOnly one.0 two.0 two.1).1 in
    let value : value_of raw ≡ Ok two.0 = one.1 ∙ ap (λ (ace : Nfsace4). Ok ace) same in
    subst (AreRead (raw ∷ raws)) (ok_same {F = Nfs4Fault} (two.0 ∷ three.0) aces three.2) (more (is_like raw two.0 value) (are_read raws three.0 three.1))

pub read-length : {raws : List RawAce} {aces : List Nfsace4} → AreRead raws aces → length raws ≡ length aces
read-length none = refl
read-length (more like rest) = omega (arith, read-length rest)

pub kept-count : {raws : List RawAce} {aces : List Nfsace4} → AreRead raws aces → length (kept_aces raws aces) ≡ length raws
unfolding kept_aces
kept-count none = refl
kept-count (more like rest) = omega (arith, kept-count rest)

abbrev whos : List Nfsace4 → List Who
whos aces = map (λ ace. ace.who) (filter names_someone aces)

kept-whos : {raws : List RawAce} {aces : List Nfsace4} → AreRead raws aces → whos (kept_aces raws aces) ≡ whos aces
unfolding kept_aces
kept-whos none = refl
kept-whos (more {raw} {raws} {ace} {aces} like rest) =
    ap (λ b. map (λ (it : Nfsace4). it.who) (cond b (kept_ace raw ace ∷ filter names_someone (kept_aces raws aces)) (filter names_someone (kept_aces raws aces)))) (like-names raw ace like)
    ∙ by (names_someone ace) (kept-whos rest)
  where
    by : (b : Bool) → whos (kept_aces raws aces) ≡ whos aces → map (λ (it : Nfsace4). it.who) (cond b (kept_ace raw ace ∷ filter names_someone (kept_aces raws aces)) (filter names_someone (kept_aces raws aces)))
        ≡ map (λ (it : Nfsace4). it.who) (cond b (ace ∷ filter names_someone aces) (filter names_someone aces))
    by true same = ap (λ (all : List Who). ace.who ∷ all) same
    by false same = same

kept-denies : {raws : List RawAce} {aces : List Nfsace4} → AreRead raws aces → (who : Who) (k : ℕ) → has all_masks k ≡ true
    → list_any (denies who k) (kept_aces raws aces) ≡ list_any (denies who k) aces
unfolding kept_aces
kept-denies none who k there = refl
kept-denies (more {raw} {raws} {ace} {aces} like rest) who k there = ap₂ (λ here more. here || more) (like-denies raw ace like who k there) (kept-denies rest who k there)

module _ {raws : List RawAce} {aces : List Nfsace4} (read : AreRead raws aces) (bits : ℕ) (known : bits ∩ all_masks ≡ bits) where
  kept-denial : (who : Who) → denial_of bits (kept_aces raws aces) who ≡ denial_of bits aces who
  kept-denial who = ap (plain_ace Deny who) (same_bits _ _ (λ k.
      has-without bits (denied_to who (kept_aces raws aces)) k ∙ by k (has bits k) refl ∙ sym (has-without bits (denied_to who aces) k)))
    where
      by : (k : ℕ) (b : Bool) → has bits k ≡ b → (has bits k && not (has (denied_to who (kept_aces raws aces)) k)) ≡ (has bits k && not (has (denied_to who aces) k))
      by k true e = ap (λ d. has bits k && not d)
          (has-denied_to who k (kept_aces raws aces) ∙ kept-denies read who k (within-has bits all_masks k known e) ∙ sym (has-denied_to who k aces))
      by k false e = rw e refl

  -- the same is denied to the same
  pub kept-denials : denials bits (kept_aces raws aces) ≡ denials bits aces
  kept-denials = ap₂ (λ (f : Who → List Nfsace4) (all : List Who). flat_map f all) (fun_ext kept-denial) (ap without_repeats (kept-whos read))

-- and no fewer entries are left
pub kept-length : {raws : List RawAce} {aces : List Nfsace4} → AreRead raws aces → (group : ℕ) → length (kept_of_list group aces) ≤ length (kept_of_list group (kept_aces raws aces))
unfolding kept_aces
kept-length none group = omega arith
kept-length (more {raw} {raws} {ace} {aces} like rest) group =
    let one = like-length raw ace like group in
    let others = kept-length rest group in
    let here = ap length (kept-cons group ace aces) ∙ length-append (kept_of_entry group ace) (kept_of_list group aces) in
    let there = ap length (kept-cons group (kept_ace raw ace) (kept_aces raws aces)) ∙ length-append (kept_of_entry group (kept_ace raw ace)) (kept_of_list group (kept_aces raws aces)) in
    omega (arith, one, others, here, there)
