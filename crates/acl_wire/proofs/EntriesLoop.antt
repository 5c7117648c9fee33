-- Reading entries one after the other, as a loop does.
use Rattle.std.proofs.Common.{◌≡◌, ℕ, suc, ◌-◌, ◌+◌, ◌≤◌, ◌<◌, List, [], ◌∷◌, ◌++◌, Result, Ok, Err, refl, sym, ap, ◌∙◌, append_assoc, arith}
use Rattle.std.proofs.lemmas.List.{append-nil}
use Rattle.acl_names.specs.Steps.{◌>>=◌}
use Rattle.acl_posix.specs.Entry.{EntryValue}
use Rattle.acl_wire.specs.XattrReading.{fields_at, entry_of, entries_at}
use Rattle.acl_wire.specs.declared.xattr_reading.Fields.{Fields}
use Rattle.acl_wire.specs.declared.fault.PosixFault.{PosixFault}

-- what was read before, and what is still read
abbrev pub with_front : List EntryValue → Result (List EntryValue) PosixFault → Result (List EntryValue) PosixFault
with_front front read = read >>= λ rest. Ok (front ++ rest)

regroup : (front : List EntryValue) (entry : EntryValue) (read : Result (List EntryValue) PosixFault) → with_front front (read >>= λ rest. Ok (entry ∷ rest)) ≡ with_front (front ++ entry ∷ []) read
regroup front entry (Ok rest) = ap (λ (all : List EntryValue). Ok all) (simp append_assoc)
regroup front entry (Err fault) = refl

pub goes_on : (front : List EntryValue) (count i : ℕ) (bytes : List ℕ) (fields : Fields) (entry : EntryValue) (behind : List ℕ) (total : Result (List EntryValue) PosixFault) → i < count
    → fields_at bytes ≡ Ok (fields, behind) → entry_of fields ≡ Ok entry
    → with_front front (entries_at (count - i) bytes) ≡ total → with_front (front ++ entry ∷ []) (entries_at (count - (i + 1)) behind) ≡ total
unfolding entries_at
goes_on front count i bytes fields entry behind total lt is entry_is so_far =
    let k : count - i ≡ suc (count - (i + 1)) = omega arith in
    let one : with_front front (entries_at (count - i) bytes) ≡ with_front (front ++ entry ∷ []) (entries_at (count - (i + 1)) behind) = rw (k, is, entry_is) (regroup front entry (entries_at (count - (i + 1)) behind)) in
    sym one ∙ so_far

-- fields that aren't there
pub ends : (front : List EntryValue) (count i : ℕ) (bytes : List ℕ) (fault : PosixFault) (total : Result (List EntryValue) PosixFault) → i < count → fields_at bytes ≡ Err fault
    → with_front front (entries_at (count - i) bytes) ≡ total → total ≡ Err fault
unfolding entries_at
ends front count i bytes fault total lt is so_far =
    let k : count - i ≡ suc (count - (i + 1)) = omega arith in
    let one : with_front front (entries_at (count - i) bytes) ≡ Err fault = rw (k, is) refl in
    sym so_far ∙ one

-- fields that are no entry
pub ends_at : (front : List EntryValue) (count i : ℕ) (bytes : List ℕ) (fields : Fields) (behind : List ℕ) (fault : PosixFault) (total : Result (List EntryValue) PosixFault) → i < count
    → fields_at bytes ≡ Ok (fields, behind) → entry_of fields ≡ Err fault
    → with_front front (entries_at (count - i) bytes) ≡ total → total ≡ Err fault
unfolding entries_at
ends_at front count i bytes fields behind fault total lt is entry_is so_far =
    let k : count - i ≡ suc (count - (i + 1)) = omega arith in
    let one : with_front front (entries_at (count - i) bytes) ≡ Err fault = rw (k, is, entry_is) refl in
    sym so_far ∙ one

pub is_done : (front : List EntryValue) (count i : ℕ) (bytes : List ℕ) (total : Result (List EntryValue) PosixFault) → count ≤ i → with_front front (entries_at (count - i) bytes) ≡ total → total ≡ Ok front
unfolding entries_at
is_done front count i bytes total le so_far =
    let k : count - i ≡ 0 = omega arith in
    let one : with_front front (entries_at (count - i) bytes) ≡ Ok front = rw k (ap (λ (all : List EntryValue). Ok all) (append-nil front)) in
    sym so_far ∙ one
