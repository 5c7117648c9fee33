-- The bytes from which a list is read in XDR are those of its entries.
use Rattle.std.proofs.Common.{◌≡◌, ◌∙◌, ℕ, zero, suc, ◌-◌, ◌≤◌, ◌==◌, true, leb, List, [], ◌∷◌, ◌++◌, length, take, drop, Ok, refl, sym, ap, ap₂, subst, arith, append_assoc, append-nil, inl, inr}
use Rattle.std.specs.Int.{w32, from_be_bytes, to_be_bytes}
use Rattle.std.proofs.lemmas.Bool.{cases_Bool, cases_lt, eqb-true, le-ltb, lt-ltb}
use Rattle.std.proofs.lemmas.List.{length-take, take-append-drop}
use Rattle.std.proofs.lemmas.Nat.{be_bytes_4}
use Rattle.std.proofs.Math.Seq.{take-add}
use Rattle.acl_names.proofs.StepLemmas.{bind_ok}
use Rattle.acl_nfs4.specs.Ace.{Nfsace4}
use Rattle.acl_nfs4.specs.declared.limits.TheConstants.{MAX_ACES}
use Rattle.acl_wire.specs.RawAces.{ace_of_raw, effective}
use Rattle.acl_wire.specs.RawAcesWriting.{raw_of}
use Rattle.acl_wire.specs.Xdr.{all_of, aces_at, number_at, padded, raw_at, text_at, who_in, xdr_list_of}
use Rattle.acl_wire.specs.XdrWritten.{WasWritten, WereWritten, XdrWasWritten, entry_with}
use Rattle.acl_wire.specs.declared.fault.Nfs4Fault.{Nfs4Fault}
use Rattle.acl_wire.specs.declared.fault.Nfs4Fault.TheVariants as faults
use Rattle.acl_wire.specs.declared.raw_ace.RawAce.{RawAce}
use Rattle.acl_wire.proofs.Bytes.{Bounded, bounded, bounded-drop, bounded-take}
use Rattle.acl_wire.proofs.RawsWritten.{has_effect, raw_written}
use Rattle.acl_wire.proofs.StepsBack.{ok_same, test_held}

-- a number, and the bytes behind it
record Numbers (bytes : List ℕ) (number : ℕ × List ℕ) : Type 0 where
  bytes_are : bytes ≡ to_be_bytes w32 number.0 ++ number.1
  are : Bounded number.1

number_read : (bytes : List ℕ) (number : ℕ × List ℕ) → Bounded bytes → number_at bytes ≡ Ok number → Numbers bytes number
number_read bytes number are is = elim (cases_lt (length bytes) 4) [
  | inl short ↦ let wrong = rw (lt-ltb _ _ short) at is in cc
  | inr long ↦
      let same : (from_be_bytes w32 (take 4 bytes), drop 4 bytes) ≡ number = ok_same (from_be_bytes w32 (take 4 bytes), drop 4 bytes) number (rw (le-ltb _ _ long) at is) in
      let front : to_be_bytes w32 (from_be_bytes w32 (take 4 bytes)) ≡ take 4 bytes =
      be_bytes_4 (take 4 bytes) (from_be_bytes w32 (take 4 bytes)) (omega (arith, length-take 4 bytes, long)) (bounded-take 4 bytes are) refl in
      subst (λ (it : ℕ × List ℕ). Numbers bytes it) same (record {
        bytes_are = sym (take-append-drop 4 bytes) ∙ ap (λ (first : List ℕ). first ++ drop 4 bytes) (sym front);
        are = bounded-drop 4 bytes are;
      })
]

-- a string, what fills it up, and the bytes behind it
record Texts (bytes : List ℕ) (text : List ℕ × List ℕ) : Type 0 where
  filling : List ℕ
  bytes_are : bytes ≡ to_be_bytes w32 (length text.0) ++ ((text.0 ++ filling) ++ text.1)
  is_filled : length (text.0 ++ filling) ≡ padded (length text.0)
  are : Bounded text.1

text_in : (n : ℕ) (bytes rest : List ℕ) → Bounded rest → bytes ≡ to_be_bytes w32 n ++ rest → padded n ≤ length rest → Texts bytes (take n rest, drop (padded n) rest)
text_in n bytes rest are is long =
    let size : length (take n rest) ≡ n = omega (arith, length-take n rest, long) in
    let whole : take n rest ++ take (padded n - n) (drop n rest) ≡ take (padded n) rest =
    sym (take-add n (padded n - n) rest) ∙ ap (λ (m : ℕ). take m rest) (omega arith) in
    record {
      filling = take (padded n - n) (drop n rest);
      bytes_are = is ∙ ap₂ (λ (m : ℕ) (more : List ℕ). to_be_bytes w32 m ++ more) (sym size)
          (sym (take-append-drop (padded n) rest) ∙ ap (λ (front : List ℕ). front ++ drop (padded n) rest) (sym whole));
      is_filled = ap length whole ∙ omega (arith, length-take (padded n) rest, long, size);
      are = bounded-drop (padded n) rest are;
    }

text_read : (bytes : List ℕ) (text : List ℕ × List ℕ) → Bounded bytes → text_at bytes ≡ Ok text → Texts bytes text
unfolding text_at
text_read bytes text are is =
    let number = bind_ok (number_at bytes) _ text is in
    let read = number_read bytes number.0 are number.1 in
    elim (cases_lt (length number.0.1) (padded number.0.0)) [
      | inl short ↦ let wrong = rw (lt-ltb _ _ short) at number.2 in cc
      | inr long ↦
          let same : (take number.0.0 number.0.1, drop (padded number.0.0) number.0.1) ≡ text =
          ok_same (take number.0.0 number.0.1, drop (padded number.0.0) number.0.1) text (rw (le-ltb _ _ long) at number.2) in
          subst (λ (it : List ℕ × List ℕ). Texts bytes it) same (text_in number.0.0 bytes number.0.1 read.are read.bytes_are long)
    ]

-- an entry of numbers, and the bytes behind it
record Raws (bytes : List ℕ) (raw : RawAce × List ℕ) : Type 0 where
  text : List ℕ
  filling : List ℕ
  bytes_are : bytes ≡ entry_with raw.0 text filling ++ raw.1
  is_filled : length (text ++ filling) ≡ padded (length text)
  who_is : who_in text ≡ Ok (raw.0.special, raw.0.id)
  are : Bounded raw.1

five : (a b c d e rest : List ℕ) → (a ++ (b ++ (c ++ (d ++ e)))) ++ rest ≡ a ++ (b ++ (c ++ (d ++ (e ++ rest))))
five a b c d e rest = append_assoc a (b ++ (c ++ (d ++ e))) rest ∙ ap (λ (more : List ℕ). a ++ more) (
    append_assoc b (c ++ (d ++ e)) rest ∙ ap (λ (more : List ℕ). b ++ more) (
    append_assoc c (d ++ e) rest ∙ ap (λ (more : List ℕ). c ++ more) (append_assoc d e rest)
    )
    )

raw_read : (bytes : List ℕ) (raw : RawAce × List ℕ) → Bounded bytes → raw_at bytes ≡ Ok raw → Raws bytes raw
unfolding raw_at
raw_read bytes raw are is =
    let kind = bind_ok (number_at bytes) _ raw is in
    let kind_read = number_read bytes kind.0 are kind.1 in
    let flags = bind_ok (number_at kind.0.1) _ raw kind.2 in
    let flags_read = number_read kind.0.1 flags.0 kind_read.are flags.1 in
    let mask = bind_ok (number_at flags.0.1) _ raw flags.2 in
    let mask_read = number_read flags.0.1 mask.0 flags_read.are mask.1 in
    let text = bind_ok (text_at mask.0.1) _ raw mask.2 in
    let read = text_read mask.0.1 text.0 mask_read.are text.1 in
    let who = bind_ok (who_in text.0.0) _ raw text.2 in
    let numbers : RawAce = record { kind = kind.0.0; flags = flags.0.0; mask = mask.0.0; special = who.0.0; id = who.0.1 } in
    let same : (numbers, text.0.1) ≡ raw = ok_same (numbers, text.0.1) raw who.2 in
    let K = to_be_bytes w32 kind.0.0 in
    let F = to_be_bytes w32 flags.0.0 in
    let M = to_be_bytes w32 mask.0.0 in
    let all : bytes ≡ K ++ (F ++ (M ++ (to_be_bytes w32 (length text.0.0) ++ ((text.0.0 ++ read.filling) ++ text.0.1)))) =
    kind_read.bytes_are ∙ ap (λ (more : List ℕ). K ++ more) (
    flags_read.bytes_are ∙ ap (λ (more : List ℕ). F ++ more) (mask_read.bytes_are ∙ ap (λ (more : List ℕ). M ++ more) read.bytes_are)
    ) in
    subst (λ (it : RawAce × List ℕ). Raws bytes it) same (record {
      text = text.0.0;
      filling = read.filling;
      bytes_are = all ∙ sym (five K F M (to_be_bytes w32 (length text.0.0)) (text.0.0 ++ read.filling) text.0.1);
      is_filled = read.is_filled;
      who_is = who.1;
      are = read.are;
    })

-- entries, and the bytes behind them
record Entries (n : ℕ) (bytes : List ℕ) (all : List Nfsace4 × List ℕ) : Type 0 where
  entries : List ℕ
  bytes_are : bytes ≡ entries ++ all.1
  were : WereWritten all.0 entries
  count_is : length all.0 ≡ n

aces_read : (n : ℕ) (bytes : List ℕ) (all : List Nfsace4 × List ℕ) → Bounded bytes → aces_at n bytes ≡ Ok all → Entries n bytes all
unfolding aces_at
aces_read zero bytes all are is = subst (λ (it : List Nfsace4 × List ℕ). Entries 0 bytes it) (ok_same {F = Nfs4Fault} ([], bytes) all is) (record {
  entries = [];
  bytes_are = refl;
  were = refl;
  count_is = refl;
})
aces_read (suc n) bytes all are is =
    let raw = bind_ok (raw_at bytes) _ all is in
    let ace = bind_ok (ace_of_raw raw.0.0) _ all raw.2 in
    let first = bind_ok (effective ace.0) _ all ace.2 in
    let others = bind_ok (aces_at n raw.0.1) _ all first.2 in
    let read = raw_read bytes raw.0 are raw.1 in
    let behind = aces_read n raw.0.1 others.0 read.are others.1 in
    let entry = entry_with raw.0.0 read.text read.filling in
    let was : WasWritten first.0 entry = record {
      raw = raw.0.0;
      text = read.text;
      filling = read.filling;
      bytes_are = refl;
      is_filled = read.is_filled;
      who_is = read.who_is;
      numbers_are = ap raw_of (sym (has_effect ace.0 first.0 first.1)) ∙ raw_written raw.0.0 ace.0 ace.1;
    } in
    subst (λ (it : List Nfsace4 × List ℕ). Entries (suc n) bytes it) (ok_same (first.0 ∷ others.0.0, others.0.1) all others.2) (record {
      entries = entry ++ behind.entries;
      bytes_are = read.bytes_are ∙ ap (λ (more : List ℕ). entry ++ more) behind.bytes_are ∙ sym (append_assoc entry behind.entries others.0.1);
      were = (entry, behind.entries, refl, was, behind.were);
      count_is = ap suc behind.count_is;
    })

none_left : (bytes : List ℕ) → (length bytes == 0) ≡ true → bytes ≡ []
none_left [] is = refl
none_left (byte ∷ bytes) is = let none : length (byte ∷ bytes) ≡ 0 = eqb-true (length (byte ∷ bytes)) 0 is in absurd (omega (arith, none))

pub xdr_written : XdrWasWritten
unfolding xdr_list_of
xdr_written bytes aces are is =
    let count = bind_ok (number_at bytes) _ aces is in
    let front = number_read bytes count.0 (bounded bytes are) count.1 in
    elim (cases_Bool (leb count.0.0 MAX_ACES)) [
      | inl few ↦
          let read : all_of count.0.0 count.0.1 ≡ Ok aces = rw few at count.2 in
          let all = bind_ok (aces_at count.0.0 count.0.1) _ aces read in
          let held = test_held (length all.0.1 == 0) all.0.0 aces faults.Size all.2 in
          let known = aces_read count.0.0 count.0.1 all.0 front.are all.1 in
          let size : count.0.0 ≡ length aces = sym known.count_is ∙ ap length held.1 in
          let entries_are : count.0.1 ≡ known.entries = known.bytes_are ∙ ap (λ (more : List ℕ). known.entries ++ more) (none_left all.0.1 held.0) ∙ append-nil known.entries in (
            known.entries,
            front.bytes_are ∙ ap₂ (λ (n : ℕ) (more : List ℕ). to_be_bytes w32 n ++ more) size entries_are,
            subst (λ (them : List Nfsace4). WereWritten them known.entries) held.1 known.were,
          )
      | inr many ↦ let wrong = rw many at count.2 in cc
    ]
