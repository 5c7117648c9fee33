-- Entries in XDR with their names are read as they were written.
use Rattle.std.proofs.Common.{◌≡◌, ◌∙◌, ℕ, ◌^◌, ◌<◌, ◌≤◌, ◌==◌, Bool, true, false, cond, nat_lt, eqb, List, ◌++◌, length, drop, codes, Option, Some, None, option_map, Result, Ok, Err, refl, sym, ap, subst, arith, length-append}
use Rattle.std.specs.Int.{w32, to_be_bytes}
use Rattle.std.specs.Str.{bytes_eq}
use Rattle.std.proofs.lemmas.Bool.{and_parts, eqb-true, ltb-true, ne_eqb, true≢false}
use Rattle.std.proofs.lemmas.List.{drop_at}
use Rattle.acl_names.specs.Ids.{decimal_value}
use Rattle.acl_names.specs.Steps.{or_fault}
use Rattle.acl_names.proofs.StepLemmas.{bind_ok}
use Rattle.acl_nfs4.specs.Ace.{Nfsace4}
use Rattle.acl_wire.specs.Decision.{value_of}
use Rattle.acl_wire.specs.RawAces.{ace_of_raw}
use Rattle.acl_wire.specs.WireLaws.{IsNumbers}
use Rattle.acl_wire.specs.Written.{tidied_raw}
use Rattle.acl_wire.specs.Xdr.{who_in}
use Rattle.acl_wire.specs.XdrNames.{NamesAreReadAgain, by_name, checked, entry_at, entry_bytes, entry_of, is_name, name_of, next_of, or_name, text_of, tidied_named, whom, with_who}
use Rattle.acl_wire.specs.XdrWriting.{text_bytes, who_text}
use Rattle.acl_wire.specs.declared.fault.Nfs4Fault.{Nfs4Fault}
use Rattle.acl_wire.specs.declared.fault.Nfs4Fault.TheVariants as faults
use Rattle.acl_wire.specs.declared.raw_ace.RawAce.{RawAce}
use Rattle.acl_wire.proofs.EntryLemmas.{length-entry}
use Rattle.acl_wire.proofs.StepsBack.{answer, ok_same}
use Rattle.acl_wire.proofs.XdrAgain.{kind_short, number_again, short_text, text_again, who_again}
use Rattle.acl_wire.proofs.XdrKeptAgain.{is_read, kept_written, tidied_flags_le, twice}

abbrev who_by : Bool → Bool → Bool → Option ℕ → Result (ℕ × ℕ) Nfs4Fault
who_by owner group everyone id = cond owner (Ok (1, 0)) (cond group (Ok (2, 0)) (cond everyone (Ok (3, 0)) (or_fault faults.UnknownName (option_map (λ n. (0, n)) id))))

-- what is no name has a lower number
lower : (its who : ℕ × ℕ) → its.0 < by_name → answer Nfs4Fault its ≡ Ok who → who.0 < by_name
lower its who less e = subst (λ (w : ℕ × ℕ). w.0 < by_name) (ok_same its who e) less

few_by : (owner group everyone : Bool) (id : Option ℕ) (who : ℕ × ℕ) → who_by owner group everyone id ≡ Ok who → who.0 < by_name
few_by true group everyone id who e = lower (1, 0) who (omega arith) e
few_by false true everyone id who e = lower (2, 0) who (omega arith) e
few_by false false true id who e = lower (3, 0) who (omega arith) e
few_by false false false (Some n) who e = lower (0, n) who (omega arith) e
few_by false false false None who e = cc

few : (text : List ℕ) (who : ℕ × ℕ) → who_in text ≡ Ok who → who.0 < by_name
few text who = few_by (bytes_eq text (codes "OWNER@")) (bytes_eq text (codes "GROUP@")) (bytes_eq text (codes "EVERYONE@")) (decimal_value text) who

-- what is read as a name
read_as_name : (text : List ℕ) (read : Result (ℕ × ℕ) Nfs4Fault) (who : ℕ × ℕ) → ((its : ℕ × ℕ) → read ≡ Ok its → its.0 < by_name) → or_name text read ≡ Ok who → (who.0 == by_name) ≡ true
    → (who ≡ (by_name, 0)) × (length text < 2 ^ 32)
read_as_name text (Ok its) who less is named = absurd (omega (arith, less its refl, ap (λ (w : ℕ × ℕ). w.0) (ok_same its who is), eqb-true who.0 by_name named))
read_as_name text (Err fault) who less is named = by (is_name text) refl is
  where
    by : (b : Bool) → is_name text ≡ b → cond b (answer Nfs4Fault (by_name, 0)) (Err fault) ≡ Ok who → (who ≡ (by_name, 0)) × (length text < 2 ^ 32)
    by true e is = (sym (ok_same {F = Nfs4Fault} (by_name, 0) who is), ltb-true (length text) (2 ^ 32) (and_parts (nat_lt (length text) (2 ^ 32)) _ e).0)
    by false e is = cc

a_name : (name text : List ℕ) → name_of name ≡ Ok text → (name ≡ text) × (whom name ≡ Ok (by_name, 0)) × (length name < 2 ^ 32)
a_name name text is =
    let one = bind_ok (whom name) _ text is in
    let held = by one.0.0 (one.0.0 == by_name) refl one.2 in
    let read = read_as_name name (who_in name) one.0 (few name) one.1 held.0 in
    (held.1, one.1 ∙ ap (λ (w : ℕ × ℕ). Ok w) read.0, read.1)
  where
    by : (n : ℕ) (b : Bool) → (n == by_name) ≡ b → cond b (answer Nfs4Fault name) (Err faults.UnknownName) ≡ Ok text → ((n == by_name) ≡ true) × (name ≡ text)
    by n true e same = (e, ok_same {F = Nfs4Fault} name text same)
    by n false e same = cc

-- of an entry that is written: its numbers, less what plays no part, and the string that says who
record Wrote (raw : RawAce) (name text : List ℕ) (kept : RawAce) : Type 0 where
  pub who : whom text ≡ Ok (kept.special, kept.id)
  pub short : length text < 2 ^ 32
  pub its : Nfsace4
  pub decided : checked kept ≡ Ok its
  pub again : tidied_named kept ≡ kept
  pub kind : kept.kind < 2 ^ 32
  pub flags : kept.flags ≤ raw.flags
  pub mask : kept.mask ≡ raw.mask
  pub named : raw.special ≡ by_name → text ≡ name

wrote_name : (raw : RawAce) (name text : List ℕ) (ace : Nfsace4) → (raw.special == by_name) ≡ true → value_of (record raw { special = 1 }) ≡ Ok ace → name_of name ≡ Ok text
    → Wrote raw name text (record raw { id = 0 })
unfolding ace_of_raw
wrote_name raw name text ace by_its is said =
    let it = a_name name text said in
    let kept : RawAce = record raw { id = 0 } in
    let kind : raw.kind < 2 ^ 32 = omega (arith, kind_short ace.kind, ap (λ (r : RawAce). r.kind) (kept_written (record raw { special = 1 }) ace is)) in
    record {
      who = ap whom (sym it.0) ∙ it.1 ∙ ap (λ (n : ℕ). Ok (n, 0)) (sym (eqb-true raw.special by_name by_its));
      short = subst (λ (t : List ℕ). length t < 2 ^ 32) it.0 it.2;
      its = ace;
      decided = ap (λ (b : Bool). value_of (cond b (record kept { special = 1 }) kept)) by_its ∙ is;
      again = ap (λ (b : Bool). cond b (record kept { id = 0 }) (tidied_raw kept)) by_its;
      kind = kind;
      flags = omega arith;
      mask = refl;
      named = λ _. sym it.0;
    }

tidied_special : (raw : RawAce) → (tidied_raw raw).special ≡ raw.special
tidied_special raw = by (raw.special == 0) refl
  where
    by : (b : Bool) → (raw.special == 0) ≡ b → (tidied_raw raw).special ≡ raw.special
    by true zero = rw zero refl
    by false other = rw other refl

tidied_mask : (raw : RawAce) → (tidied_raw raw).mask ≡ raw.mask
tidied_mask raw = by (raw.special == 0) refl
  where
    by : (b : Bool) → (raw.special == 0) ≡ b → (tidied_raw raw).mask ≡ raw.mask
    by true zero = rw zero refl
    by false other = rw other refl

wrote_id : (raw : RawAce) (name : List ℕ) (ace : Nfsace4) → (raw.special == by_name) ≡ false → value_of raw ≡ Ok ace → Wrote raw name (who_text ace.who) (tidied_raw raw)
wrote_id raw name ace other is =
    let read = is_read raw ace is in
    let kept : RawAce = tidied_raw raw in
    let written = kept_written raw ace is in
    let still : (kept.special == by_name) ≡ false = ap (λ (n : ℕ). n == by_name) (tidied_special raw) ∙ other in
    record {
      who = ap (or_name (who_text ace.who)) (who_again ace.who read.id) ∙ ap (λ (r : RawAce). Ok (r.special, r.id)) written;
      short = short_text ace.who read.id;
      its = read.its;
      decided = ap (λ (b : Bool). value_of (cond b (record kept { special = 1 }) kept)) still ∙ read.tidied;
      again = ap (λ (b : Bool). cond b (record kept { id = 0 }) (tidied_raw kept)) still ∙ twice raw;
      kind = omega (arith, kind_short ace.kind, ap (λ (r : RawAce). r.kind) written);
      flags = tidied_flags_le raw;
      mask = tidied_mask raw;
      named = λ so. absurd (true≢false (sym (sym other ∙ ap (λ (n : ℕ). n == by_name) so)));
    }

wrote : (raw : RawAce) (name text : List ℕ) (ace : Nfsace4) → checked raw ≡ Ok ace → text_of raw ace name ≡ Ok text → Wrote raw name text (tidied_named raw)
wrote raw name text ace is said = by (raw.special == by_name) refl is said
  where
    by : (b : Bool) → (raw.special == by_name) ≡ b → value_of (cond b (record raw { special = 1 }) raw) ≡ Ok ace → cond b (name_of name) (answer Nfs4Fault (who_text ace.who)) ≡ Ok text → Wrote raw name text (tidied_named raw)
    by true e is said =
        subst (Wrote raw name text) (sym (ap (λ (b : Bool). cond b (record raw { id = 0 }) (tidied_raw raw)) e)) (wrote_name raw name text ace e is said)
    by false e is said =
        let it = subst (λ (t : List ℕ). Wrote raw name t (tidied_raw raw)) (ok_same {F = Nfs4Fault} (who_text ace.who) text said) (wrote_id raw name ace e is) in
        subst (Wrote raw name text) (sym (ap (λ (b : Bool). cond b (record raw { id = 0 }) (tidied_raw raw)) e)) it

-- the numbers that are read are those of an entry
taken : (kept : RawAce) (text : List ℕ) (its : Nfsace4) → checked kept ≡ Ok its → tidied_named kept ≡ kept → with_who kept text ≡ Ok (kept, text)
taken kept text its is again = rw is (ap (λ (k : RawAce). Ok (k, text)) again)

entry_again : (raw : RawAce) (name text behind : List ℕ) (kept : RawAce) → IsNumbers raw → Wrote raw name text kept → entry_at (entry_bytes kept text ++ behind) ≡ Ok (kept, text)
unfolding entry_at
entry_again raw name text behind kept are it =
    let string = text_bytes text in
    let read : with_who (record { kind = kept.kind; flags = kept.flags; mask = kept.mask; special = kept.special; id = kept.id }) text ≡ Ok (kept, text) =
    taken kept text it.its it.decided it.again in
    rw (
      number_again kept.kind (to_be_bytes w32 kept.flags ++ (to_be_bytes w32 kept.mask ++ (string ++ behind))) it.kind,
      number_again kept.flags (to_be_bytes w32 kept.mask ++ (string ++ behind)) (omega (arith, it.flags, are.flags)),
      number_again kept.mask (string ++ behind) (omega (arith, it.mask, are.mask)),
      text_again text behind it.short,
      it.who,
    ) read

pub names_again : NamesAreReadAgain
unfolding entry_of next_of
names_again raw name bytes front behind place are is at begun more =
    let one = bind_ok (checked raw) _ bytes is in
    let two = bind_ok (text_of raw one.0 name) _ bytes one.2 in
    let kept : RawAce = tidied_named raw in
    let text = two.0 in
    let same : entry_bytes kept text ≡ bytes = ok_same (entry_bytes kept text) bytes two.2 in
    let it = wrote raw name text one.0 one.1 two.1 in
    let read : entry_at (bytes ++ behind) ≡ Ok (kept, text) = ap (λ (b : List ℕ). entry_at (b ++ behind)) (sym same) ∙ entry_again raw name text behind kept are it in
    let there : eqb place.at 0 ≡ false = ne_eqb place.at 0 (λ zero. omega (arith, zero, at, begun)) in
    let left : eqb place.left 0 ≡ false = ne_eqb place.left 0 (λ zero. omega (arith, zero, more)) in
    let rest : drop (length front) (front ++ (bytes ++ behind)) ≡ bytes ++ behind = drop_at front (bytes ++ behind) (length front) refl in
    (text, sym same, it.named, rw (there, left, at, rest, read) refl, omega (arith, length-append front bytes, ap length same, length-entry kept text))
