-- What an entry with all its bits leaves beside a mode, as numbers.
use Rattle.std.proofs.Common.{◌≡◌, ◌∙◌, ◌<◌, ◌||◌, ℕ, Bool, true, false, cond, ◌==◌, List, [], ◌∷◌, ◌++◌, refl, sym, ap, ap₂, arith, append_assoc, length, length-append}
use Rattle.std.proofs.lemmas.List.{length-map, map-append}
use Rattle.acl_names.specs.Bits.{has, without, ◌∪◌}
use Rattle.acl_nfs4.specs.Ace.{Nfsace4, decides, is_inheritable, unless_empty}
use Rattle.acl_nfs4.specs.ModeChange.{kept_mask, kept_of_entry}
use Rattle.acl_nfs4.specs.declared.ace.AceType.{AceType}
use Rattle.acl_nfs4.specs.declared.who.Who.{Who}
use Rattle.acl_nfs4.proofs.ModeChangeKept.{effective_part, inherited_part, reduced}
use Rattle.acl_nfs4.proofs.ModeChangeParts.{kept_of-parts, kept_of-rest, kept_of-stays}
use Rattle.acl_wire.specs.Kept.{kept_ace, raw_unless_empty}
use Rattle.acl_wire.specs.RawAcesWriting.{raw_of, raws_of}
use Rattle.acl_wire.specs.declared.raw_ace.RawAce.{RawAce}

pub raws-append : (xs ys : List Nfsace4) → raws_of (xs ++ ys) ≡ raws_of xs ++ raws_of ys
raws-append xs ys = map-append raw_of xs ys

pub raws-length : (xs : List Nfsace4) → length (raws_of xs) ≡ length xs
raws-length xs = length-map xs raw_of

pub raws-unless : (ace : Nfsace4) → raws_of (unless_empty ace) ≡ raw_unless_empty (raw_of ace)
unfolding unless_empty raw_unless_empty
raws-unless ace = by (ace.mask == 0)
  where
    by : (b : Bool) → raws_of (cond b [] (ace ∷ [])) ≡ cond b [] (raw_of ace ∷ [])
    by true = refl
    by false = refl

-- what is too long stays too long with more behind it
pub longer : (most : ℕ) (front next rest whole : List RawAce) → front ++ (next ++ rest) ≡ whole → most < length (front ++ next) → most < length whole
longer most front next rest whole e long =
    omega (arith, long, length-append (front ++ next) rest, ap length (append_assoc front next rest), ap length e)

-- ---- what an entry leaves

module _ (raw : RawAce) (ace : Nfsace4) (group : ℕ) (kept : RawAce) (e : kept ≡ raw_of (kept_ace raw ace)) where
  pub decided : (kind : AceType) (result : Bool) → ((who : Who) (mask : ℕ) → result ≡ decides (record { kind = kind; flags = kept.flags; who = who; mask = mask })) → kind ≡ ace.kind
      → result ≡ decides (kept_ace raw ace)
  decided kind result says kind_is =
      says ace.who raw.mask ∙ ap₂ (λ (k : AceType) (f : ℕ). decides (record { kind = k; flags = f; who = ace.who; mask = raw.mask })) kind_is (ap (λ (r : RawAce). r.flags) e)

  pub inherits : (result : Bool) → result ≡ (has kept.flags 0 || has kept.flags 1) → result ≡ is_inheritable (kept_ace raw ace)
  inherits result says = says ∙ ap (λ (r : RawAce). has r.flags 0 || has r.flags 1) e

  pub stays : decides (kept_ace raw ace) ≡ false → kept ∷ [] ≡ raws_of (kept_of_entry group (kept_ace raw ace))
  stays d = ap (λ (r : RawAce). r ∷ []) e ∙ sym (ap raws_of (kept_of-stays group (kept_ace raw ace) d))

  module _ (mask : ℕ) (mask_is : (flags : ℕ) → mask ≡ kept_mask group (record ace { flags = flags; mask = kept.mask })) where
    mask_kept : mask ≡ kept_mask group (kept_ace raw ace)
    mask_kept = mask_is (kept_ace raw ace).flags ∙ ap (λ (r : RawAce). kept_mask group (record ace { flags = (kept_ace raw ace).flags; mask = r.mask })) e

    pub parts : (flags : ℕ) → flags ≡ without kept.flags 15 → decides (kept_ace raw ace) ≡ true → is_inheritable (kept_ace raw ace) ≡ true
        → record kept { flags = kept.flags ∪ 8 } ∷ raw_unless_empty (record kept { flags = flags; mask = mask }) ≡ raws_of (kept_of_entry group (kept_ace raw ace))
    parts flags flags_is d i =
        let flags_kept : flags ≡ without (kept_ace raw ace).flags 15 = flags_is ∙ ap (λ (r : RawAce). without r.flags 15) e in
        let one : record kept { flags = kept.flags ∪ 8 } ≡ raw_of (inherited_part (kept_ace raw ace)) = ap (λ (r : RawAce). record r { flags = r.flags ∪ 8 }) e in
        let other : record kept { flags = flags; mask = mask } ≡ raw_of (effective_part group (kept_ace raw ace)) =
        (λ j. record { kind = (e j).kind; flags = flags_kept j; mask = mask_kept j; special = (e j).special; id = (e j).id }) in
        ap₂ (λ (r s : RawAce). r ∷ raw_unless_empty s) one other
        ∙ ap (λ (rest : List RawAce). raw_of (inherited_part (kept_ace raw ace)) ∷ rest) (sym (raws-unless (effective_part group (kept_ace raw ace))))
        ∙ sym (ap raws_of (kept_of-parts group (kept_ace raw ace) d i))

    pub rest : decides (kept_ace raw ace) ≡ true → is_inheritable (kept_ace raw ace) ≡ false
        → raw_unless_empty (record kept { mask = mask }) ≡ raws_of (kept_of_entry group (kept_ace raw ace))
    rest d i =
        let it : record kept { mask = mask } ≡ raw_of (reduced group (kept_ace raw ace)) =
        (λ j. record { kind = (e j).kind; flags = (e j).flags; mask = mask_kept j; special = (e j).special; id = (e j).id }) in
        ap raw_unless_empty it ∙ sym (raws-unless (reduced group (kept_ace raw ace))) ∙ sym (ap raws_of (kept_of-rest group (kept_ace raw ace) d i))

-- how many there are of an entry that may be empty
pub unless-length : (ace : Nfsace4) → length (unless_empty ace) ≡ cond (ace.mask == 0) 0 1
unfolding unless_empty
unless-length ace = by (ace.mask == 0)
  where
    by : (b : Bool) → length (cond b [] (ace ∷ [])) ≡ cond b 0 1
    by true = refl
    by false = refl
