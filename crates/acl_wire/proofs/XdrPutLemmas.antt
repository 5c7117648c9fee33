-- Entries of numbers put in XDR one after the other: their bytes, and how many they are.
use Rattle.std.proofs.Common.{◌≡◌, ◌≢◌, ◌∙◌, ℕ, zero, suc, ◌+◌, ◌-◌, ◌^◌, ◌%◌, ◌/◌, ◌≤◌, ◌<◌, ◌==◌, Bool, true, false, eq-eqb, nat_lt, List, [], ◌∷◌, ◌++◌, length, get_or, take, drop, decimal, Some, None, Result, Ok, Err, refl, sym, ap, ap₂, subst, arith, append_assoc, append-nil, length-append, inl, inr}
use Rattle.std.specs.List.{flat_map}
use Rattle.std.proofs.lemmas.Bool.{cases_lt, lt-ltb, ne_eqb}
use Rattle.std.proofs.lemmas.Fmt.{decimal_by_steps, decimal_nonempty, length-decimal-le}
use Rattle.std.proofs.lemmas.Grind.{flat_map-append}
use Rattle.std.proofs.lemmas.List.{drop-drop, drop_all, get_or_default, length-drop, take-append-drop}
use Rattle.std.proofs.lemmas.List.Concat.{flat_map-cons}
use borrow.Rule.Slice.PartMut.{put_mid}
use Rattle.acl_names.specs.Steps.{◌>>=◌}
use Rattle.acl_names.proofs.TakeLemmas.{flat_map-take-next}
use Rattle.acl_nfs4.specs.Ace.{Nfsace4}
use Rattle.acl_nfs4.specs.Who.{id_of}
use Rattle.acl_nfs4.specs.declared.who.Who.{Who}
use Rattle.acl_nfs4.specs.declared.who.Who.TheVariants.{Owner, Group, Everyone, User, NamedGroup}
use Rattle.acl_wire.specs.Decision.{value_of, values_of}
use Rattle.acl_wire.specs.Kept.{kept_ace}
use Rattle.acl_wire.specs.RawAcesWriting.{special_number}
use Rattle.acl_wire.specs.Writing.{PutsInFront}
use Rattle.acl_wire.specs.Written.{tidied_raw}
use Rattle.acl_wire.specs.Xdr.{padded}
use Rattle.acl_wire.specs.XdrNames.{by_name, checked, entry_bytes, entry_of}
use Rattle.acl_wire.specs.XdrRaws.{fault_in}
use Rattle.acl_wire.specs.XdrWriting.{ace_bytes, raws_bytes, raws_xdr_of, who_text}
use Rattle.acl_wire.specs.XdrWritingSteps.{list_bytes, raw_bytes, text_by}
use Rattle.acl_wire.specs.declared.fault.Nfs4Fault.{Nfs4Fault}
use Rattle.acl_wire.specs.declared.raw_ace.RawAce.{RawAce}
use Rattle.acl_wire.proofs.AcesLoop.{nothing}
use Rattle.acl_wire.proofs.EntryLemmas.{length-entry}
use Rattle.acl_wire.proofs.ValuesLemmas.{faultless, faulty}
use Rattle.acl_wire.proofs.WritingLemmas.{put_behind}
use Rattle.acl_wire.proofs.XdrKeptAgain.{kept_written}

-- ---- an entry

text_is : (who : Who) (special id : ℕ) → special_number who ≡ special → (special ≡ 0 → id_of who ≡ id) → who_text who ≡ text_by special id
text_is Owner special id number its = ap (λ (n : ℕ). text_by n id) number
text_is Group special id number its = ap (λ (n : ℕ). text_by n id) number
text_is Everyone special id number its = ap (λ (n : ℕ). text_by n id) number
text_is (User uid) special id number its = ap decimal (its (sym number)) ∙ ap (λ (n : ℕ). text_by n id) number
text_is (NamedGroup gid) special id number its = ap decimal (its (sym number)) ∙ ap (λ (n : ℕ). text_by n id) number

same_special : (raw : RawAce) → (tidied_raw raw).special ≡ raw.special
same_special raw = by (raw.special == 0) refl
  where
    by : (b : Bool) → (raw.special == 0) ≡ b → (tidied_raw raw).special ≡ raw.special
    by true e = rw e refl
    by false e = rw e refl

same_id : (raw : RawAce) → raw.special ≡ 0 → (tidied_raw raw).id ≡ raw.id
same_id raw by_id = let named : (raw.special == 0) ≡ true = eq-eqb raw.special 0 by_id in rw named refl

-- the string that says who says it by the numbers
who_is : (raw : RawAce) (ace : Nfsace4) → value_of raw ≡ Ok ace → who_text ace.who ≡ text_by raw.special raw.id
who_is raw ace is =
    let written = kept_written raw ace is in
    text_is ace.who raw.special raw.id (ap (λ (r : RawAce). r.special) written ∙ same_special raw) (λ by_id. ap (λ (r : RawAce). r.id) written ∙ same_id raw by_id)

kept_bytes : (raw : RawAce) (ace : Nfsace4) → value_of raw ≡ Ok ace → ace_bytes (kept_ace raw ace) ≡ raw_bytes raw
kept_bytes raw ace is = ap₂ (λ (r : RawAce) (text : List ℕ). entry_bytes r text) (kept_written raw ace is) (who_is raw ace is)

-- what is put with the right string
pub put_with : (raw numbers : RawAce) (text : List ℕ) (count : ℕ) (old new : List ℕ) → numbers ≡ tidied_raw raw → text_by raw.special raw.id ≡ text
    → PutsInFront (entry_bytes numbers text) count old new → PutsInFront (raw_bytes raw) count old new
put_with raw numbers text count old new are is put =
    subst (λ (bytes : List ℕ). PutsInFront bytes count old new) (ap₂ (λ (r : RawAce) (t : List ℕ). entry_bytes r t) are (sym is)) put

-- an entry that may have a name, and has none
pub unnamed_bytes : (raw : RawAce) (name : List ℕ) (ace : Nfsace4) → raw.special ≢ by_name → checked raw ≡ Ok ace → entry_of raw name ≡ Ok (raw_bytes raw)
unfolding entry_of
unnamed_bytes raw name ace unnamed is =
    let other : (raw.special == by_name) ≡ false = ne_eqb raw.special by_name unnamed in
    let value : value_of raw ≡ Ok ace = rw other at is in
    rw (other, value) (ap (λ (text : List ℕ). Ok (entry_bytes (tidied_raw raw) text)) (who_is raw ace value))

-- ---- a list

list_is : (raws : List RawAce) → raws_bytes raws ≡ (values_of raws >>= λ _. Ok (flat_map raw_bytes raws))
unfolding values_of raws_bytes
list_is [] = refl
list_is (raw ∷ raws) = first (value_of raw) refl (list_is raws)
  where
    all : (ace : Nfsace4) → value_of raw ≡ Ok ace → ace_bytes (kept_ace raw ace) ++ flat_map raw_bytes raws ≡ flat_map raw_bytes (raw ∷ raws)
    all ace is = ap (λ (one : List ℕ). one ++ flat_map raw_bytes raws) (kept_bytes raw ace is) ∙ sym (flat_map-cons raw_bytes raw raws)

    others : (ace : Nfsace4) → value_of raw ≡ Ok ace → (read : Result (List Nfsace4) Nfs4Fault)
        → ((read >>= λ _. Ok (flat_map raw_bytes raws)) >>= λ more. Ok (ace_bytes (kept_ace raw ace) ++ more)) ≡ ((read >>= λ more. Ok (ace ∷ more)) >>= λ _. Ok (flat_map raw_bytes (raw ∷ raws)))
    others ace is (Ok aces) = ap (λ (bytes : List ℕ). Ok bytes) (all ace is)
    others ace is (Err fault) = refl

    first : (read : Result Nfsace4 Nfs4Fault) → value_of raw ≡ read → raws_bytes raws ≡ (values_of raws >>= λ _. Ok (flat_map raw_bytes raws)) → raws_bytes (raw ∷ raws) ≡ (values_of (raw ∷ raws) >>= λ _. Ok (flat_map raw_bytes (raw ∷ raws)))
    first (Ok ace) is rest = rw (is, rest) (others ace is (values_of raws))
    first (Err fault) is rest = rw is refl

module _ (raws : List RawAce) (few : length raws < 2 ^ 32) where
  short : nat_lt (length raws) (2 ^ 32) ≡ true
  short = lt-ltb _ _ few

  pub all_written : None ≡ fault_in (values_of raws) → raws_xdr_of raws ≡ Ok (list_bytes raws)
  unfolding raws_xdr_of
  all_written none =
      let known = faultless (values_of raws) (sym none) in
      let bytes : raws_bytes raws ≡ Ok (flat_map raw_bytes raws) = list_is raws ∙ ap (λ (read : Result (List Nfsace4) Nfs4Fault). read >>= λ _. Ok (flat_map raw_bytes raws)) known.1 in
      rw (short, bytes) refl

  pub none_written : (fault : Nfs4Fault) → Some fault ≡ fault_in (values_of raws) → raws_xdr_of raws ≡ Err fault
  unfolding raws_xdr_of
  none_written fault some =
      let bytes : raws_bytes raws ≡ Err fault = list_is raws ∙ ap (λ (read : Result (List Nfsace4) Nfs4Fault). read >>= λ _. Ok (flat_map raw_bytes raws)) (faulty (values_of raws) fault (sym some)) in
      rw (short, bytes) refl

-- ---- how long they are

positive : (k : ℕ) → 0 < 10 ^ k
positive zero = omega arith
positive (suc k) = omega (arith, positive k)

-- few digits are a small number
below_power : (n k : ℕ) → n < 2 ^ 64 → length (decimal n) ≤ k → n < 10 ^ k
below_power n k small = decimal_by_steps (λ m ds. (j : ℕ) → length ds ≤ j → m < 10 ^ j) one more n small k
  where
    one : (m : ℕ) → m < 10 → (j : ℕ) → length ((48 + m) ∷ []) ≤ j → m < 10 ^ j
    one m low zero le = absurd (omega (arith, le))
    one m low (suc j) le = omega (arith, low, positive j)

    more : (m : ℕ) (ds : List ℕ) → 10 ≤ m → ((j : ℕ) → length ds ≤ j → m / 10 < 10 ^ j) → (j : ℕ) → length (ds ++ ((48 + m % 10) ∷ [])) ≤ j → m < 10 ^ j
    more m ds high front zero le = absurd (omega (arith, le, length-append ds ((48 + m % 10) ∷ [])))
    more m ds high front (suc j) le =
        let fewer : length ds ≤ j = omega (arith, le, length-append ds ((48 + m % 10) ∷ [])) in
        omega (arith, front j fewer)

many_digits : (n k : ℕ) → n < 2 ^ 64 → 10 ^ k ≤ n → k < length (decimal n)
many_digits n k small large = elim (cases_lt k (length (decimal n))) [
  | inl more ↦ more
  | inr few ↦ absurd (omega (arith, large, below_power n k small few))
]

pub four_digits : (id : ℕ) → id < 10000 → padded (length (decimal id)) ≡ 4
four_digits id less = omega (arith, decimal_nonempty id (omega (arith, less)), length-decimal-le 4 id (omega arith) (omega (arith, less)) (omega (arith, less)))

pub eight_digits : (id : ℕ) → 10000 ≤ id → id < 100000000 → padded (length (decimal id)) ≡ 8
eight_digits id more less = omega (arith, many_digits id 4 (omega (arith, less)) (omega (arith, more)), length-decimal-le 8 id (omega arith) (omega (arith, less)) (omega (arith, less)))

pub twelve_digits : (id : ℕ) → 100000000 ≤ id → id < 2 ^ 32 → padded (length (decimal id)) ≡ 12
twelve_digits id more less = omega (arith, many_digits id 8 (omega (arith, less)) (omega (arith, more)), length-decimal-le 10 id (omega arith) (omega (arith, less)) (omega (arith, less)))

-- ---- one after the other

-- those so far
abbrev pub front_bytes : List RawAce → ℕ → List ℕ
front_bytes raws i = flat_map raw_bytes (take i raws)

-- no longer than all
pub front_within : (raws : List RawAce) (i : ℕ) → length (front_bytes raws i) ≤ length (flat_map raw_bytes raws)
front_within raws i =
    let parts : flat_map raw_bytes raws ≡ front_bytes raws i ++ flat_map raw_bytes (drop i raws) =
    ap (flat_map raw_bytes) (sym (take-append-drop i raws)) ∙ flat_map-append raw_bytes (take i raws) (drop i raws) in
    omega (arith, ap length parts, length-append (front_bytes raws i) (flat_map raw_bytes (drop i raws)))

module _ (raws : List RawAce) (i : ℕ) (more : i < length raws) where
  -- and the next
  next_bytes : front_bytes raws (i + 1) ≡ front_bytes raws i ++ raw_bytes (get_or raws i nothing)
  next_bytes = flat_map-take-next raw_bytes raws i (get_or raws i nothing) more (get_or_default raws i nothing (get_or raws i nothing) more)

  pub next_length : length (front_bytes raws (i + 1)) ≡ length (front_bytes raws i) + length (raw_bytes (get_or raws i nothing))
  next_length = ap length next_bytes ∙ length-append (front_bytes raws i) (raw_bytes (get_or raws i nothing))

  -- there is room for it
  pub next_fits : (head : List ℕ) (at room : ℕ) → length (head ++ front_bytes raws i) ≡ at → length (head ++ flat_map raw_bytes raws) ≤ room
      → at + length (raw_bytes (get_or raws i nothing)) ≤ room
  next_fits head at room many fits =
      omega (arith, many, fits, next_length, front_within raws (i + 1), length-append head (front_bytes raws i), length-append head (flat_map raw_bytes raws))

  -- it is put behind what stands in front
  pub next_put : (head old out new : List ℕ) (at end : ℕ) → out ≡ (head ++ front_bytes raws i) ++ drop at old → length (head ++ front_bytes raws i) ≡ at
      → new ≡ take at out ++ (raw_bytes (get_or raws i nothing) ++ drop (at + length (raw_bytes (get_or raws i nothing))) out)
      → end ≡ at + length (raw_bytes (get_or raws i nothing))
      → (new ≡ (head ++ front_bytes raws (i + 1)) ++ drop end old) × (length (head ++ front_bytes raws (i + 1)) ≡ end)
  next_put head old out new at end so_far many is ends =
      let one = raw_bytes (get_or raws i nothing) in (
        is
            ∙ ap (λ (bytes : List ℕ). take at bytes ++ (one ++ drop (at + length one) bytes)) so_far
            ∙ put_behind (head ++ front_bytes raws i) one old at many
            ∙ ap₂ (λ (bytes : List ℕ) (n : ℕ). bytes ++ drop n old) (append_assoc head (front_bytes raws i) one ∙ ap (λ (bytes : List ℕ). head ++ bytes) (sym next_bytes)) (sym ends),
        omega (arith, many, ends, next_length, length-append head (front_bytes raws i), length-append head (front_bytes raws (i + 1))),
      )

-- what is put from a place on
pub put_from : (at : ℕ) (old one mid part : List ℕ) → at + length one ≤ length old → mid ≡ drop at old → (length one ≤ length mid → part ≡ one ++ drop (length one) mid)
    → put_mid at (length old - at) old part ≡ take at old ++ (one ++ drop (at + length one) old)
put_from at old one mid part fits mid_is put =
    let size : length mid ≡ length old - at = ap length mid_is ∙ length-drop at old in
    let part_is : part ≡ one ++ drop (at + length one) old =
    put (omega (arith, fits, size)) ∙ ap (λ (bytes : List ℕ). one ++ drop (length one) bytes) mid_is ∙ ap (λ (bytes : List ℕ). one ++ bytes) (drop-drop (length one) at old) in
    let none : drop (length old - at) (drop at old) ≡ [] = drop_all (length old - at) (drop at old) (omega (arith, length-drop at old)) in
    ap (λ (bytes : List ℕ). take at old ++ bytes) (ap₂ (λ (a b : List ℕ). a ++ b) part_is none ∙ append-nil (one ++ drop (at + length one) old))

pub length-raw : (raw : RawAce) → length (raw_bytes raw) ≡ 16 + padded (length (text_by raw.special raw.id))
length-raw raw = length-entry (tidied_raw raw) (text_by raw.special raw.id)
