-- What stands around what old entries leave beside a mode, and how many these are.
use Rattle.std.proofs.Common.{◌≡◌, ◌∙◌, ◌≤◌, ◌<◌, ◌+◌, ◌*◌, ◌-◌, ℕ, Bool, true, false, cond, List, ◌++◌, length, take, drop, nat_le, Result, Ok, Err, IfOk, refl, sym, ap, ap₂, subst, arith, append_assoc, length-append}
use Rattle.std.proofs.lemmas.Bool.{le-leb, lt-leb}
use Rattle.std.proofs.lemmas.List.{length-drop, take_all}
use Rattle.std.proofs.Math.Seq.{take-append_seam, drop-append_seam}
use Rattle.acl_names.specs.Bits.{◌∩◌}
use Rattle.acl_nfs4.specs.Ace.{Nfsace4}
use Rattle.acl_nfs4.specs.Mask.{all_masks, rest_of}
use Rattle.acl_nfs4.specs.ModeChange.{beyond_group, denials, for_others, for_owner, kept_of_list, with_denials}
use Rattle.acl_nfs4.specs.declared.limits.TheConstants.{INLINE_ACES, MAX_ACES}
use Rattle.acl_nfs4.proofs.ModeChangeLeast.{beyond-known}
use Rattle.acl_nfs4.proofs.ModeChangeParts.{rest_of-known}
use Rattle.acl_posix.specs.Mode.{Classes}
use Rattle.acl_names.specs.Steps.{◌>>=◌}
use Rattle.acl_wire.specs.Kept.{kept_aces, kept_list}
use Rattle.acl_wire.specs.ModeChange.{changed, denied_by, fits, with_mode_by}
use Rattle.acl_wire.specs.RawAces.{aces_of, list_of}
use Rattle.acl_wire.specs.RawAcesWriting.{raws_of}
use Rattle.acl_wire.specs.declared.fault.Nfs4Fault.{Nfs4Fault}
use Rattle.acl_wire.specs.declared.fault.Nfs4Fault.TheVariants as faults
use Rattle.acl_wire.specs.declared.mode_change.ModeRule.{ModeRule}
use Rattle.acl_wire.specs.declared.mode_change.ModeRule.TheVariants.{Profile, Least, Keep}
use Rattle.acl_wire.specs.declared.raw_ace.Purpose.TheVariants.{Decide}
use Rattle.acl_wire.specs.declared.raw_ace.RawAce.{RawAce}
use Rattle.acl_wire.proofs.KeptLemmas.{AreRead, are_read, kept-count, kept-denials, kept-length}
use Rattle.acl_wire.proofs.ModeLengths.{most, most-left}
use Rattle.acl_wire.proofs.PartsLemmas.{raws-length}

pub list_read : (raws : List RawAce) (aces : List Nfsace4) → list_of Decide raws ≡ Ok aces → AreRead raws aces
list_read raws aces is = are_read raws aces (by (nat_le (length raws) MAX_ACES) (aces_of Decide raws) is)
  where
    by : (b : Bool) (read : Result (List Nfsace4) Nfs4Fault) → cond b read (Err faults.TooMany) ≡ Ok aces → read ≡ Ok aces
    by true read e = e
    by false read e = cc

pub fits-not : (aces : List Nfsace4) → MAX_ACES < length aces → fits aces ≡ Err faults.TooMany
fits-not aces long = ap (λ (b : Bool). cond b (Ok (raws_of aces)) (Err faults.TooMany)) (lt-leb (length aces) MAX_ACES long)

pub fits-as : (aces : List Nfsace4) (raws : List RawAce) → raws ≡ raws_of aces → length raws ≤ MAX_ACES → fits aces ≡ Ok raws
fits-as aces raws is few =
    ap (λ (b : Bool). cond b (Ok (raws_of aces)) (Err faults.TooMany)) (le-leb (length aces) MAX_ACES (omega (arith, few, ap length is, raws-length aces)))
    ∙ ap (λ (numbers : List RawAce). Ok numbers) (sym is)

regrouped : (a b c d : List Nfsace4) → ((a ++ b) ++ c) ++ d ≡ a ++ (b ++ (c ++ d))
regrouped a b c d = append_assoc (a ++ b) c d ∙ append_assoc a b (c ++ d)

denied-known : (least : Bool) (mode : Classes) → denied_by least mode ∩ all_masks ≡ denied_by least mode
denied-known false mode = rest_of-known mode.group refl
denied-known true mode = beyond-known mode refl

parted : (bits : ℕ) (aces : List Nfsace4) (mode : Classes)
    → with_denials bits aces mode ≡ for_owner mode.user ++ (kept_of_list mode.group aces ++ (denials bits aces ++ for_others mode.group mode.other))
parted bits aces mode = regrouped (for_owner mode.user) (kept_of_list mode.group aces) (denials bits aces) (for_others mode.group mode.other)

module _ (least : Bool) (raws : List RawAce) (aces base : List Nfsace4) (mode : Classes) (read : list_of Decide raws ≡ Ok aces) (its : base ≡ aces) where
  abbrev front : List Nfsace4
  front = for_owner mode.user

  abbrev left : List Nfsace4
  left = kept_of_list mode.group base

  abbrev back : List Nfsace4
  back = denials (denied_by least mode) base ++ for_others mode.group mode.other

  front_is : take (length front) (with_denials (denied_by least mode) base mode) ≡ front
  front_is = ap (take (length front)) (parted (denied_by least mode) base mode) ∙ take-append_seam front (left ++ back)

  back_is : drop (length front + length left) (with_denials (denied_by least mode) base mode) ≡ back
  back_is =
      ap (drop (length front + length left)) (parted (denied_by least mode) base mode ∙ sym (append_assoc front left back))
      ∙ ap (λ n. drop n ((front ++ left) ++ back)) (sym (length-append front left))
      ∙ drop-append_seam (front ++ left) back

  -- the list is made of these and of what the entries with all their bits leave
  made_of : with_denials (denied_by least mode) (kept_aces raws aces) mode ≡ front ++ (kept_of_list mode.group (kept_aces raws aces) ++ back)
  made_of =
      parted (denied_by least mode) (kept_aces raws aces) mode
      ∙ ap (λ (d : List Nfsace4). front ++ (kept_of_list mode.group (kept_aces raws aces) ++ (d ++ for_others mode.group mode.other)))
      (kept-denials (list_read raws aces read) (denied_by least mode) (denied-known least mode) ∙ ap (denials (denied_by least mode)) (sym its))

  -- so are these parts of it
  pub assembled_of : (front_len left_len group : ℕ) (all : List Nfsace4) → front_len ≡ length front → left_len ≡ length left → group ≡ mode.group → all ≡ with_denials (denied_by least mode) base mode
      → take front_len all ++ (kept_of_list group (kept_aces raws aces) ++ take (length all - (front_len + left_len)) (drop (front_len + left_len) all))
      ≡ with_denials (denied_by least mode) (kept_aces raws aces) mode
  assembled_of front_len left_len group all front_len_is left_len_is group_is all_is =
      let last : List Nfsace4 = drop (front_len + left_len) all in
      let start : take front_len all ≡ front = ap₂ (λ (n : ℕ) (xs : List Nfsace4). take n xs) front_len_is all_is ∙ front_is in
      let whole_end : take (length all - (front_len + left_len)) last ≡ last = take_all (length all - (front_len + left_len)) last (omega (arith, length-drop (front_len + left_len) all)) in
      let end_is : last ≡ back = ap₂ (λ (n : ℕ) (xs : List Nfsace4). drop n xs) (ap₂ (λ (a b : ℕ). a + b) front_len_is left_len_is) all_is ∙ back_is in
      ap₂ (λ (xs ys : List Nfsace4). xs ++ (kept_of_list group (kept_aces raws aces) ++ ys)) start (whole_end ∙ end_is)
      ∙ ap (λ (g : ℕ). front ++ (kept_of_list g (kept_aces raws aces) ++ back)) group_is
      ∙ sym made_of

  -- and is no shorter than the one that is decided by
  pub longer : length (with_denials (denied_by least mode) base mode) ≤ length (with_denials (denied_by least mode) (kept_aces raws aces) mode)
  longer =
      let made = ap length made_of ∙ length-append front (kept_of_list mode.group (kept_aces raws aces) ++ back) in
      let made_back = length-append (kept_of_list mode.group (kept_aces raws aces)) back in
      let fewer : length left ≤ length (kept_of_list mode.group (kept_aces raws aces)) = rw its (kept-length (list_read raws aces read) mode.group) in
      omega (arith, made, made_back, ap length (parted (denied_by least mode) base mode), length-append front (left ++ back), length-append left back, fewer)

-- ---- of few entries no list becomes too long

bounded : (rule : ModeRule) (aces : List Nfsace4) (mode : Classes) → length (with_mode_by rule aces mode) ≤ 3 * length aces + 5
bounded Profile aces mode = most (rest_of mode.group) aces mode
bounded Least aces mode = most (beyond_group mode) aces mode
bounded Keep aces mode = most-left aces mode

pub short-made : (rule : ModeRule) (mode : Classes) (raws : List RawAce) (aces : List Nfsace4) → list_of Decide raws ≡ Ok aces → length raws ≤ INLINE_ACES
    → IfOk (changed rule mode raws) (λ made. length made ≤ INLINE_ACES) → length (with_mode_by rule (kept_aces raws aces) mode) ≤ INLINE_ACES
unfolding changed
short-made rule mode raws aces read few short =
    let made : List Nfsace4 = with_mode_by rule (kept_aces raws aces) mode in
    let at_most : length (raws_of made) ≤ MAX_ACES = omega (arith, bounded rule (kept_aces raws aces) mode, kept-count (list_read raws aces read), raws-length made, few) in
    let whole : changed rule mode raws ≡ Ok (raws_of made) = rw read (fits-as made (raws_of made) refl at_most) in
    let fewer : length (raws_of made) ≤ INLINE_ACES = subst (λ (answer : Result (List RawAce) Nfs4Fault). IfOk answer (λ (list : List RawAce). length list ≤ INLINE_ACES)) whole short in
    omega (arith, raws-length made, fewer)

-- so do those of its entries
short-left : (rule : ModeRule) (mode : Classes) (raws : List RawAce) → length raws ≤ INLINE_ACES
    → IfOk (changed rule mode raws) (λ made. length made ≤ INLINE_ACES) → IfOk (kept_list raws) (λ aces. length (with_mode_by rule aces mode) ≤ INLINE_ACES)
short-left rule mode raws few short = by (list_of Decide raws) refl
  where
    by : (read : Result (List Nfsace4) Nfs4Fault) → list_of Decide raws ≡ read → IfOk (read >>= λ aces. Ok (kept_aces raws aces)) (λ aces. length (with_mode_by rule aces mode) ≤ INLINE_ACES)
    by (Ok aces) is = short-made rule mode raws aces is few short
    by (Err fault) is = tt

pub short-left-as : (rule its : ModeRule) → rule ≡ its → (mode : Classes) (raws : List RawAce) → length raws ≤ INLINE_ACES
    → IfOk (changed rule mode raws) (λ made. length made ≤ INLINE_ACES) → IfOk (kept_list raws) (λ aces. length (with_mode_by its aces mode) ≤ INLINE_ACES)
short-left-as rule its same mode raws few short =
    short-left its mode raws few (subst (λ (rule : ModeRule). IfOk (changed rule mode raws) (λ made. length made ≤ INLINE_ACES)) same short)
