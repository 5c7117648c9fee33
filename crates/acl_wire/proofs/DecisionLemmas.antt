-- What a request comes to that is decided entry by entry.
use Rattle.std.proofs.Common.{◌≡◌, ◌∙◌, ◌<◌, ◌^◌, ◌⊎◌, inl, inr, ℕ, Bool, true, false, cond, not, ◌&&◌, ◌||◌, ◌==◌, List, [], ◌∷◌, Option, Some, None, Result, Ok, Err, refl, sym, ap, ap₂, subst, arith, find, is_some, option_map, unwrap_or, length, nat_le}
use Rattle.std.specs.Int.Bits.{or_zero_r}
use Rattle.std.proofs.lemmas.Bool.{true≢false, and_parts, eqb-true, eq-eqb}
use Rattle.acl_names.specs.Bits.{has, without, ◌∩◌, ◌∪◌}
use Rattle.acl_names.specs.Requester.{Identity}
use Rattle.acl_names.specs.declared.limits.TheConstants.{MAX_ID}
use Rattle.acl_names.specs.Steps.{◌>>=◌}
use Rattle.acl_names.proofs.BitSets.{has-and, has-without, has-zero, no_bits, same_bits}
use Rattle.acl_names.proofs.StepLemmas.{bind_ok, if_else, some_from_cond}
use Rattle.acl_nfs4.specs.Ace.{Nfsace4, decides, is_allow, is_idle}
use Rattle.acl_nfs4.specs.Evaluation.{allows, places_of, speaks, verdict}
use Rattle.acl_nfs4.specs.Who.{matches}
use Rattle.acl_nfs4.specs.declared.limits.TheConstants.{MAX_ACES}
use Rattle.acl_nfs4.specs.declared.who.Who.{Who}
use Rattle.acl_nfs4.proofs.EvaluationLoop.{allows-skip, found, found-allow, found-deny}
use Rattle.acl_nfs4.proofs.MaskLemmas.{passed, passes, within}
use Rattle.acl_wire.specs.Decision.{Front, IsDecided, ListsDecideAsAWhole, SaysOf, decided_by, deciding, denies, front_of, led_by, settles, unless_fault, value_of}
use Rattle.acl_wire.specs.DecisionSteps.{goes_on, with_ace, with_word}
use Rattle.acl_wire.specs.RawAces.{ace_of_raw, aces_of, effective, is_request, seen}
use Rattle.acl_wire.specs.declared.decision.Decided.{Decided}
use Rattle.acl_wire.specs.declared.decision.Found.{Found}
use Rattle.acl_wire.specs.declared.fault.Nfs4Fault.{Nfs4Fault}
use Rattle.acl_wire.specs.declared.fault.Nfs4Fault.TheVariants as faults
use Rattle.acl_wire.specs.declared.raw_ace.Purpose.TheVariants.{Decide}
use Rattle.acl_wire.specs.declared.raw_ace.RawAce.{RawAce}
use Rattle.acl_wire.proofs.StepsBack.{ok_same}

module _ (applies : Who → Bool) where
  -- whether an entry speaks of the bit
  abbrev pub is_spoken_of : ℕ → List Nfsace4 → Bool
  is_spoken_of bit aces = is_some (verdict applies bit aces)

  spoken-cons : (bit : ℕ) (ace : Nfsace4) (rest : List Nfsace4) → is_spoken_of bit (ace ∷ rest) ≡ (speaks applies bit ace || is_spoken_of bit rest)
  spoken-cons bit ace rest =
      elim (speaks applies bit ace)
      as (λ b. is_some (option_map (λ (other : Nfsace4). is_allow other.kind) (cond b (Some ace) (find (speaks applies bit) rest))) ≡ (b || is_spoken_of bit rest))
      [ true ↦ refl | false ↦ refl ]

  module _ (ace : Nfsace4) (bit : ℕ) where
    silent : (decides ace && applies ace.who) ≡ false → speaks applies bit ace ≡ false
    unfolding speaks
    silent idle = by (decides ace) (applies ace.who) idle
      where
        by : (d a : Bool) → (d && a) ≡ false → (d && (a && has ace.mask bit)) ≡ false
        by true true e = absurd (true≢false e)
        by true false e = refl
        by false a e = refl

    speaking : (decides ace && applies ace.who) ≡ true → speaks applies bit ace ≡ has ace.mask bit
    unfolding speaks
    speaking concerned =
        let both = and_parts (decides ace) (applies ace.who) concerned in
        ap₂ (λ d a. d && (a && has ace.mask bit)) both.0 both.1

  module _ (before : Found) (ace : Nfsace4) (rest : List Nfsace4) (bit : ℕ) where
    one_left : (has (with_ace applies before ace).left bit && not (is_spoken_of bit rest)) ≡ (has before.left bit && not (is_spoken_of bit (ace ∷ rest)))
    unfolding with_ace
    one_left = by (decides ace && applies ace.who) refl
      where
        closes : (o m s : Bool) → ((o && not m) && not s) ≡ (o && not (m || s))
        closes true true s = refl
        closes true false s = refl
        closes false m s = refl

        reported : (b : Bool) → speaks applies bit ace ≡ b → is_spoken_of bit (ace ∷ rest) ≡ (b || is_spoken_of bit rest)
        reported b is = spoken-cons bit ace rest ∙ ap (λ s. s || is_spoken_of bit rest) is

        by : (b : Bool) → (decides ace && applies ace.who) ≡ b
            → (has (cond b (with_word before ace) before).left bit && not (is_spoken_of bit rest)) ≡ (has before.left bit && not (is_spoken_of bit (ace ∷ rest)))
        by true concerned =
            ap (λ o. o && not (is_spoken_of bit rest)) (has-without before.left ace.mask bit)
            ∙ closes (has before.left bit) (has ace.mask bit) (is_spoken_of bit rest)
            ∙ sym (ap (λ s. has before.left bit && not s) (reported (has ace.mask bit) (speaking ace bit concerned)))
        by false idle = sym (ap (λ s. has before.left bit && not s) (reported false (silent ace bit idle)))

    one_allowed : found (has (with_ace applies before ace).allowed bit) (has (with_ace applies before ace).left bit) (allows applies bit rest)
        ≡ found (has before.allowed bit) (has before.left bit) (allows applies bit (ace ∷ rest))
    unfolding with_ace
    one_allowed = by (decides ace && applies ace.who) refl
      where
        word : (b : Bool) → is_allow ace.kind ≡ b → (decides ace && applies ace.who) ≡ true
            → found (has (cond b (before.allowed ∪ before.left ∩ ace.mask) before.allowed) bit) (has (without before.left ace.mask) bit) (allows applies bit rest)
            ≡ found (has before.allowed bit) (has before.left bit) (allows applies bit (ace ∷ rest))
        word true allow concerned = sym (found-allow applies ace rest before.allowed before.left bit concerned allow)
        word false deny concerned = sym (found-deny applies ace rest before.allowed before.left bit concerned deny)

        by : (b : Bool) → (decides ace && applies ace.who) ≡ b
            → found (has (cond b (with_word before ace) before).allowed bit) (has (cond b (with_word before ace) before).left bit) (allows applies bit rest) ≡ found (has before.allowed bit) (has before.left bit) (allows applies bit (ace ∷ rest))
        by true concerned = word (is_allow ace.kind) refl concerned
        by false idle = sym (ap (found (has before.allowed bit) (has before.left bit)) (allows-skip applies ace rest idle bit))

  module _ (before : Found) (ace : Nfsace4) where
    pub with_ace-idle : (decides ace && applies ace.who) ≡ false → before ≡ with_ace applies before ace
    unfolding with_ace
    with_ace-idle idle = sym (ap (λ b. cond b (with_word before ace) before) idle)

    -- an entry with no bit that is open
    pub with_ace-closed : before.left ∩ ace.mask ≡ 0 → before ≡ with_ace applies before ace
    unfolding with_ace
    with_ace-closed none = by (decides ace && applies ace.who)
      where
        apart : (l m : Bool) → (l && m) ≡ false → (l && not m) ≡ l
        apart true true e = absurd (true≢false e)
        apart true false e = refl
        apart false m e = refl

        left_is : without before.left ace.mask ≡ before.left
        left_is = same_bits _ _ (λ k.
            has-without before.left ace.mask k
            ∙ apart (has before.left k) (has ace.mask k) (sym (has-and before.left ace.mask k) ∙ ap (λ (set : ℕ). has set k) none ∙ has-zero k))

        allowed_is : (b : Bool) → cond b (before.allowed ∪ before.left ∩ ace.mask) before.allowed ≡ before.allowed
        allowed_is true = ap (λ (set : ℕ). before.allowed ∪ set) none ∙ or_zero_r before.allowed
        allowed_is false = refl

        same : with_word before ace ≡ before
        same = λ i. record { allowed = allowed_is (is_allow ace.kind) i; left = left_is i }

        by : (b : Bool) → before ≡ cond b (with_word before ace) before
        by true = sym same
        by false = refl

  -- what is found of all entries of a front
  pub record IsFoundIn (before : Found) (front : Front) (after : Found) : Type 0 where
    pub allowed : (bit : ℕ) → has after.allowed bit ≡ found (has before.allowed bit) (has before.left bit) (allows applies bit front.aces)
    pub left_is : (bit : ℕ) → has after.left bit ≡ (has before.left bit && not (is_spoken_of bit front.aces))
    pub enough : (front.fault ≡ None) ⊎ (after.left ≡ 0)

  -- each bit that is open is spoken of
  abbrev pub IsSettled : Found → Front → Type 0
  IsSettled before front = (bit : ℕ) → has before.left bit ≡ true → is_spoken_of bit front.aces ≡ true

  abbrev pub Comes : Found → Front → Result Found Nfs4Fault → Type 0
  Comes before front (Ok after) = IsFoundIn before front after
  Comes before front (Err fault) = (front.fault ≡ Some fault) × (IsSettled before front → ⊥)

  further : (o s o' s' : Bool) → (o' && not s') ≡ (o && not s) → (o ≡ true → s ≡ true) → o' ≡ true → s' ≡ true
  further o s o' true same each there = refl
  further true true true false same each there = absurd (true≢false same)
  further true false true false same each there = each refl
  further false s true false same each there = absurd (true≢false same)
  further o s false false same each there = absurd (true≢false (sym there))

  module _ (before : Found) (ace : Nfsace4) (rest : Front) where
    one_more : (r : Result Found Nfs4Fault) → Comes (with_ace applies before ace) rest r → Comes before (led_by (Ok ace) rest) r
    one_more (Ok after) is = record {
      allowed = λ bit. is.allowed bit ∙ one_allowed before ace rest.aces bit;
      left_is = λ bit. is.left_is bit ∙ one_left before ace rest.aces bit;
      enough = is.enough;
    }
    one_more (Err fault) is = (
      is.0,
      λ each. is.1 (λ bit.
          further (has before.left bit) (is_spoken_of bit (ace ∷ rest.aces)) (has (with_ace applies before ace).left bit) (is_spoken_of bit rest.aces)
          (one_left before ace rest.aces bit) (each bit)),
    )

  or_nothing : (a : Bool) (r : Bool) → (a || (false && r)) ≡ a
  or_nothing true r = refl
  or_nothing false r = refl

  pub comes : (raws : List RawAce) (before : Found) → Comes before (front_of raws) (goes_on applies before raws)
  unfolding front_of goes_on
  comes [] before = record {
    allowed = λ bit. sym (none (has before.allowed bit) (has before.left bit));
    left_is = λ bit. sym (all (has before.left bit));
    enough = inl refl;
  }
    where
      none : (a o : Bool) → (a || (o && false)) ≡ a
      none true o = refl
      none false true = refl
      none false false = refl

      all : (o : Bool) → (o && true) ≡ o
      all true = refl
      all false = refl
  comes (raw ∷ raws) before = by (comes raws) (before.left == 0) refl
    where
      next : ((between : Found) → Comes between (front_of raws) (goes_on applies between raws)) → (before.left ≡ 0 → ⊥) → (read : Result Nfsace4 Nfs4Fault) → Comes before (led_by read (front_of raws)) (read >>= λ ace. goes_on applies (with_ace applies before ace) raws)
      next more some (Ok ace) = one_more before ace (front_of raws) (goes_on applies (with_ace applies before ace) raws) (more (with_ace applies before ace))
      next more some (Err fault) = (refl, λ each. some (no_bits before.left (λ bit. nothing bit (has before.left bit) refl each)))
        where
          nothing : (bit : ℕ) (b : Bool) → has before.left bit ≡ b → ((k : ℕ) → has before.left k ≡ true → false ≡ true) → b ≡ false
          nothing bit true there each = sym (each bit there)
          nothing bit false there each = refl

      by : ((between : Found) → Comes between (front_of raws) (goes_on applies between raws)) → (b : Bool) → (before.left == 0) ≡ b
          → Comes before (led_by (value_of raw) (front_of raws)) (cond b (Ok before) (value_of raw >>= λ ace. goes_on applies (with_ace applies before ace) raws))
      by more true none =
          let zero : before.left ≡ 0 = eqb-true before.left 0 none in
          let empty : (bit : ℕ) → has before.left bit ≡ false = λ bit. ap (λ (set : ℕ). has set bit) zero ∙ has-zero bit in
          let front = led_by (value_of raw) (front_of raws) in
          record {
            allowed = λ bit. sym (ap (λ o. found (has before.allowed bit) o (allows applies bit front.aces)) (empty bit) ∙ or_nothing (has before.allowed bit) (allows applies bit front.aces));
            left_is = λ bit. empty bit ∙ sym (ap (λ o. o && not (is_spoken_of bit front.aces)) (empty bit));
            enough = inr zero;
          }
      by more false some = next more (λ zero. absurd (true≢false (sym (eq-eqb before.left 0 zero) ∙ some))) (value_of raw)

-- ---- what a request comes to as a whole

module _ (applies : Who → Bool) (raws : List RawAce) (request : ℕ) where
  abbrev pub start : Found
  start = record { allowed = 0; left = request }

  settled_or : (aces : List Nfsace4) (fault : Option Nfs4Fault) → unless_fault aces fault true ≡ Ok aces
  settled_or aces None = refl
  settled_or aces (Some fault) = refl

  module _ (after : Found) (is : IsFoundIn applies start (front_of raws) after) where
    all_spoken_of : after.left ≡ 0 → settles applies (front_of raws).aces request ≡ true
    unfolding settles places_of
    all_spoken_of none = passes request (λ bit. is_spoken_of applies bit (front_of raws).aces) 0 32 (λ bit there.
        spoken (has request bit) (is_spoken_of applies bit (front_of raws).aces) there (sym (has-zero bit) ∙ sym (ap (λ (set : ℕ). has set bit) none) ∙ is.left_is bit))
      where
        spoken : (r s : Bool) → r ≡ true → false ≡ (r && not s) → s ≡ true
        spoken true true there e = refl
        spoken true false there e = absurd (true≢false (sym e))
        spoken false s there e = absurd (true≢false (sym there))

    pub enough_read : deciding applies raws request ≡ Ok (front_of raws).aces
    enough_read = elim is.enough [
      | inl none ↦ ap (λ (fault : Option Nfs4Fault). unless_fault (front_of raws).aces fault (settles applies (front_of raws).aces request)) none
      | inr none ↦ ap (unless_fault (front_of raws).aces (front_of raws).fault) (all_spoken_of none) ∙ settled_or (front_of raws).aces (front_of raws).fault
    ]

    pub allowed_is : (bit : ℕ) → has after.allowed bit ≡ (has request bit && allows applies bit (front_of raws).aces)
    allowed_is bit = is.allowed bit ∙ ap (λ a. found a (has request bit) (allows applies bit (front_of raws).aces)) (has-zero bit)

    pub denied_is : (bit : ℕ) → has (without (without request after.allowed) after.left) bit ≡ (has request bit && denies applies bit (front_of raws).aces)
    denied_is bit =
        has-without (without request after.allowed) after.left bit
        ∙ ap (λ b. b && not (has after.left bit)) (has-without request after.allowed bit)
        ∙ ap₂ (λ a o. (has request bit && not a) && not o) (allowed_is bit) (is.left_is bit)
        ∙ denied (has request bit) (verdict applies bit (front_of raws).aces)
      where
        denied : (r : Bool) (v : Option Bool) → ((r && not (r && unwrap_or v false)) && not (r && not (is_some v))) ≡ (r && not (unwrap_or v true))
        denied true None = refl
        denied true (Some true) = refl
        denied true (Some false) = refl
        denied false v = refl

  pub not_enough_read : (fault : Nfs4Fault) → request < 2 ^ 32 → (front_of raws).fault ≡ Some fault → (IsSettled applies start (front_of raws) → ⊥)
      → deciding applies raws request ≡ Err fault
  unfolding settles places_of
  not_enough_read fault small reported some =
      ap (λ (fault : Option Nfs4Fault). unless_fault (front_of raws).aces fault (settles applies (front_of raws).aces request)) reported
      ∙ by (settles applies (front_of raws).aces request) refl
    where
      by : (b : Bool) → settles applies (front_of raws).aces request ≡ b → cond b (Ok (front_of raws).aces) (Err fault) ≡ Err fault
      by true all = absurd (some (λ bit there. passed request (λ bit. is_spoken_of applies bit (front_of raws).aces) 0 32 all bit (omega arith) (within request bit small there) there))
      by false all = refl

module _ (owner group : ℕ) (requester : Identity) (raws : List RawAce) (request : ℕ) where
  pub decided-ok : (after : Found) → goes_on (matches owner group requester) (start (matches owner group requester) raws request) raws ≡ Ok after
      → (deciding (matches owner group requester) raws request ≡ Ok (front_of raws).aces)
      × IsDecided (front_of raws).aces owner group requester request (record { allowed = after.allowed; denied = without (without request after.allowed) after.left })
  decided-ok after ends =
      let applies = matches owner group requester in
      let is : IsFoundIn applies (start applies raws request) (front_of raws) after = subst (Comes applies (start applies raws request) (front_of raws)) ends (comes applies raws (start applies raws request)) in
      (enough_read applies raws request after is, record { allowed = allowed_is applies raws request after is; denied = denied_is applies raws request after is })

  pub decided-err : (fault : Nfs4Fault) → request < 2 ^ 32 → goes_on (matches owner group requester) (start (matches owner group requester) raws request) raws ≡ Err fault
      → deciding (matches owner group requester) raws request ≡ Err fault
  decided-err fault small ends =
      let applies = matches owner group requester in
      let is : Comes applies (start applies raws request) (front_of raws) (Err fault) = subst (Comes applies (start applies raws request) (front_of raws)) ends (comes applies raws (start applies raws request)) in
      not_enough_read applies raws request fault small is.0 is.1

-- ---- lists

whole : (raws : List RawAce) (aces : List Nfsace4) → aces_of Decide raws ≡ Ok aces → front_of raws ≡ record { aces = aces; fault = None }
unfolding front_of aces_of
whole [] aces is = ap (λ (all : List Nfsace4). record { aces = all; fault = None }) (ok_same [] aces is)
whole (raw ∷ raws) aces is =
    let one = bind_ok (ace_of_raw (seen Decide raw)) _ aces is in
    let two = bind_ok (effective one.0) _ aces one.2 in
    let three = bind_ok (aces_of Decide raws) _ aces two.2 in
    let same : one.0 ≡ two.0 = (if_else (is_idle one.0) faults.InheritOnly one.0 two.0 two.1).1 in
    let all : two.0 ∷ three.0 ≡ aces = ok_same (two.0 ∷ three.0) aces three.2 in
    ap₂ led_by one.1 (whole raws three.0 three.1)
    ∙ ap (λ (first : Nfsace4). record { aces = first ∷ three.0; fault = None }) same
    ∙ ap (λ (list : List Nfsace4). record { aces = list; fault = None }) all

pub lists_decide : ListsDecideAsAWhole
lists_decide raws aces applies request is =
    let front = whole raws aces (taken (nat_le (length raws) MAX_ACES) (aces_of Decide raws) is) in
    ap (λ (f : Front). unless_fault f.aces f.fault (settles applies f.aces request)) front
  where
    taken : (b : Bool) (read : Result (List Nfsace4) Nfs4Fault) → cond b read (Err faults.TooMany) ≡ Ok aces → read ≡ Ok aces
    taken true read e = e
    taken false read e = cc

-- ---- the numbers of a check

module _ (raws : List RawAce) (owner group uid : ℕ) (gids : List ℕ) (request : ℕ) (result : Result Decided Nfs4Fault) where
  -- numbers that are ids
  pub says-of_ids : (its_owner its_group its_uid : ℕ) → cond (nat_le owner MAX_ID) (Some owner) None ≡ Some its_owner
      → cond (nat_le group MAX_ID) (Some group) None ≡ Some its_group → cond (nat_le uid MAX_ID) (Some uid) None ≡ Some its_uid
      → is_request request ≡ true
      → SaysOf (deciding (matches its_owner its_group (record { uid = its_uid; gids = gids })) raws request) its_owner its_group (record { uid = its_uid; gids = gids }) request result
      → SaysOf (decided_by raws owner group (record { uid = uid; gids = gids }) request) owner group (record { uid = uid; gids = gids }) request result
  unfolding decided_by
  says-of_ids its_owner its_group its_uid o g u asked says =
      let o_is = some_from_cond (nat_le owner MAX_ID) owner its_owner o in
      let g_is = some_from_cond (nat_le group MAX_ID) group its_group g in
      let u_is = some_from_cond (nat_le uid MAX_ID) uid its_uid u in
      rw (o_is.0, g_is.0, u_is.0, asked) (rw (o_is.1, g_is.1, u_is.1) says)
