-- The bytes of an entry, put one part after the other.
use Rattle.std.proofs.Common.{◌≡◌, ◌∙◌, ℕ, ◌+◌, ◌-◌, ◌<◌, ◌==◌, Bool, true, false, cond, eqb, Option, Result, Err, List, [], ◌++◌, length, replicate, take, drop, refl, ap, ap₂, arith, append_assoc, length-append}
use Rattle.std.specs.Int.{w32, to_be_bytes}
use Rattle.std.proofs.lemmas.Bool.{ne_eqb}
use Rattle.std.proofs.lemmas.List.{drop_all, length-replicate}
use Rattle.acl_wire.specs.Xdr.{padded}
use Rattle.acl_wire.specs.XdrNames.{entry_at, entry_bytes, next_at}
use Rattle.acl_wire.specs.declared.fault.Nfs4Fault.{Nfs4Fault}
use Rattle.acl_wire.specs.declared.fault.Nfs4Fault.TheVariants as faults
use Rattle.acl_wire.specs.declared.xdr_names.XdrPlace.{XdrPlace}
use Rattle.acl_wire.specs.declared.raw_ace.RawAce.{RawAce}
use Rattle.acl_wire.proofs.WritingLemmas.{put_behind}

abbrev zeros_of : List ℕ → List ℕ
zeros_of text = replicate (padded (length text) - length text) 0

pub length-entry : (raw : RawAce) (text : List ℕ) → length (entry_bytes raw text) ≡ 16 + padded (length text)
length-entry raw text =
    let n = length text in
    let size : length (text ++ zeros_of text) ≡ padded n = length-append text (zeros_of text) ∙ omega (arith, length-replicate {A = ℕ} (padded n - n) 0) in
    omega (arith, size)

-- what stands in front of the string
abbrev pub head_of : RawAce → List ℕ → List ℕ
head_of raw text = to_be_bytes w32 raw.kind ++ (to_be_bytes w32 raw.flags ++ (to_be_bytes w32 raw.mask ++ to_be_bytes w32 (length text)))

pub filled_in : (raw : RawAce) (text zeros old first second third : List ℕ) → zeros ≡ zeros_of text → first ≡ head_of raw text ++ drop 16 old
    → second ≡ take 16 first ++ (text ++ drop (16 + length text) first) → third ≡ take (16 + length text) second ++ (zeros ++ drop (16 + length text + length zeros) second)
    → third ≡ entry_bytes raw text ++ drop (length (entry_bytes raw text)) old
filled_in raw text zeros old first second third zeros_are one two three =
    let n = length text in
    let head = head_of raw text in
    let then : second ≡ (head ++ text) ++ drop (16 + n) old = two ∙ ap (λ (o : List ℕ). take 16 o ++ (text ++ drop (16 + n) o)) one ∙ put_behind head text old 16 refl in
    let last : third ≡ ((head ++ text) ++ zeros) ++ drop (16 + n + length zeros) old =
    three ∙ ap (λ (o : List ℕ). take (16 + n) o ++ (zeros ++ drop (16 + n + length zeros) o)) then ∙ put_behind (head ++ text) zeros old (16 + n) (length-append head text) in
    let whole : (head ++ text) ++ zeros ≡ entry_bytes raw text = append_assoc head text zeros ∙ ap (λ (z : List ℕ). head ++ (text ++ z)) zeros_are in
    let count : 16 + n + length zeros ≡ length (entry_bytes raw text) =
    omega (arith, length-entry raw text, ap length zeros_are, length-replicate {A = ℕ} (padded n - n) 0) in
    last ∙ ap₂ (λ (bytes : List ℕ) (k : ℕ). bytes ++ drop k old) whole count

-- nothing stands beyond the end
pub beyond : (bytes : List ℕ) (at left : ℕ) → length bytes < at → next_at bytes at left ≡ Err faults.Size
unfolding entry_at
beyond bytes at left more =
    let far : eqb at (length bytes) ≡ false = ne_eqb at (length bytes) (λ same. omega (arith, same, more)) in
    let none : drop at bytes ≡ [] = drop_all at bytes (omega (arith, more)) in
    rw (far, none) (by (left == 0))
  where
    fails : Result (Option RawAce × XdrPlace) Nfs4Fault
    fails = Err faults.Size

    by : (b : Bool) → cond b fails fails ≡ fails
    by true = refl
    by false = refl
