-- Entries seen one after the other, as a loop does.
use Rattle.std.proofs.Common.{◌≡◌, ◌∙◌, ℕ, suc, ◌+◌, ◌-◌, ◌<◌, ◌≤◌, List, [], ◌∷◌, Option, Some, None, Result, Ok, Err, refl, sym, arith}
use Rattle.std.specs.Option.{option_and_then}
use Rattle.acl_names.specs.Requester.{Identity}
use Rattle.acl_names.specs.Steps.{◌>>=◌}
use Rattle.acl_posix.specs.Entry.{EntryValue}
use Rattle.acl_wire.specs.OnePass.{IsSeen, after, after_read, goes_on, nothing_seen}
use Rattle.acl_wire.specs.XattrReading.{entries_at, entry_of, fields_at}
use Rattle.acl_wire.specs.declared.fault.PosixFault.{PosixFault}
use Rattle.acl_wire.specs.declared.one_pass.Seen.{Seen}
use Rattle.acl_wire.specs.declared.xattr_reading.Fields.{Fields}
use Rattle.acl_wire.proofs.OnePassLemmas.{seen-all, seen-nothing}

module _ (requester : Identity) (group request : ℕ) where
  -- an entry that is read, and what is left
  first-then : (seen : Seen) (first : Result EntryValue PosixFault) (rest : Result (List EntryValue) PosixFault)
      → goes_on requester group request seen (first >>= λ entry. rest >>= λ more. Ok (entry ∷ more))
      ≡ option_and_then (λ next. goes_on requester group request next rest) (after_read requester group request seen first)
  first-then seen (Err fault) rest = refl
  first-then seen (Ok entry) (Ok more) = refl
  first-then seen (Ok entry) (Err fault) = none (after requester group request seen entry)
    where
      none : (next : Option Seen) → None ≡ option_and_then (λ n. goes_on requester group request n (Err fault)) next
      none (Some next) = refl
      none None = refl

  one-read : (seen : Seen) (n : ℕ) (bytes behind : List ℕ) (fields : Fields) → fields_at bytes ≡ Ok (fields, behind)
      → goes_on requester group request seen (entries_at (suc n) bytes)
      ≡ option_and_then (λ next. goes_on requester group request next (entries_at n behind)) (after_read requester group request seen (entry_of fields))
  unfolding entries_at
  one-read seen n bytes behind fields is = rw is (first-then seen (entry_of fields) (entries_at n behind))

  pub goes_on-next : (seen next : Seen) (count i : ℕ) (bytes behind : List ℕ) (fields : Fields) (total : Option Seen) → i < count → fields_at bytes ≡ Ok (fields, behind)
      → Some next ≡ after_read requester group request seen (entry_of fields)
      → goes_on requester group request seen (entries_at (count - i) bytes) ≡ total
      → goes_on requester group request next (entries_at (count - (i + 1)) behind) ≡ total
  goes_on-next seen next count i bytes behind fields total low is read so_far =
      let k : count - i ≡ suc (count - (i + 1)) = omega arith in
      let one = one-read seen (count - (i + 1)) bytes behind fields is in
      let here : goes_on requester group request seen (entries_at (count - i) bytes) ≡ goes_on requester group request next (entries_at (count - (i + 1)) behind) =
      rw k (one ∙ (rw (sym read) refl)) in
      sym here ∙ so_far

  pub goes_on-none : (seen : Seen) (count i : ℕ) (bytes behind : List ℕ) (fields : Fields) (total : Option Seen) → i < count → fields_at bytes ≡ Ok (fields, behind)
      → None ≡ after_read requester group request seen (entry_of fields)
      → goes_on requester group request seen (entries_at (count - i) bytes) ≡ total → None ≡ total
  goes_on-none seen count i bytes behind fields total low is read so_far =
      let k : count - i ≡ suc (count - (i + 1)) = omega arith in
      let one = one-read seen (count - (i + 1)) bytes behind fields is in
      let here : goes_on requester group request seen (entries_at (count - i) bytes) ≡ None = rw k (one ∙ (rw (sym read) refl)) in
      sym here ∙ so_far

  pub goes_on-ends : (seen : Seen) (count i : ℕ) (bytes : List ℕ) (fault : PosixFault) (total : Option Seen) → i < count → fields_at bytes ≡ Err fault
      → goes_on requester group request seen (entries_at (count - i) bytes) ≡ total → None ≡ total
  unfolding entries_at
  goes_on-ends seen count i bytes fault total low is so_far =
      let k : count - i ≡ suc (count - (i + 1)) = omega arith in
      let here : goes_on requester group request seen (entries_at (count - i) bytes) ≡ None = rw (k, is) refl in
      sym here ∙ so_far

  pub goes_on-done : (seen : Seen) (count i : ℕ) (bytes : List ℕ) (total : Option Seen) → count ≤ i
      → goes_on requester group request seen (entries_at (count - i) bytes) ≡ total → Some seen ≡ total
  unfolding entries_at
  goes_on-done seen count i bytes total done so_far =
      let k : count - i ≡ 0 = omega arith in
      let here : goes_on requester group request seen (entries_at (count - i) bytes) ≡ Some seen = rw k refl in
      sym here ∙ so_far

  -- what was seen of all that is read
  pub seen-read : (read : Result (List EntryValue) PosixFault) (seen : Seen) (Q : Type 0) → goes_on requester group request nothing_seen read ≡ Some seen
      → ((entries : List EntryValue) → read ≡ Ok entries → IsSeen requester group request entries seen → Q) → Q
  seen-read (Ok entries) seen Q end each = each entries refl (seen-all requester group request [] entries nothing_seen seen (seen-nothing requester group request) end)
  seen-read (Err fault) seen Q end each = absurd (cc)
