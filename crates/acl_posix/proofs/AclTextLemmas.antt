-- Which access control list a text spells, and which it doesn't read as.
use Rattle.std.proofs.Common.{◌≡◌, ℕ, List, Ok, Err, ap, is_none, refl}
use Rattle.std.proofs.lemmas.List.Sorted.{IsPermutation-refl}
use Rattle.acl_names.specs.Names.{Names}
use Rattle.acl_names.specs.ListText.{Spells}
use Rattle.acl_names.specs.Pieces.{pieces}
use Rattle.acl_names.specs.Steps.{map_fault}
use Rattle.acl_names.proofs.ReadListLemmas.{read-fault, read-many, read-spelt, spelt-read}
use Rattle.acl_names.proofs.StepLemmas.{bind_ok, if_then, is_none-true, map_fault-ok}
use Rattle.acl_posix.specs.AclText.{ReadsAs, SpellsBy, acl_of_entries, acl_by, entries_fault, entries_of, entry_in, piece_fault, text_fault}
use Rattle.acl_posix.specs.Canonical.{IsAcl}
use Rattle.acl_posix.specs.Entry.{EntryValue}
use Rattle.acl_posix.specs.EntryText.{entry_by}
use Rattle.acl_posix.specs.InOrder.{in_order}
use Rattle.acl_posix.specs.ReadFault.{IsFaultBy}
use Rattle.acl_posix.specs.Validity.{IsRefusedFor, fault_of}
use Rattle.acl_posix.specs.declared.acl.Invalid.{Invalid}
use Rattle.acl_posix.specs.declared.acl.Invalid.TheVariants as invalid
use Rattle.acl_posix.specs.declared.acl_text.AclFault.TheVariants.{TooMany, InvalidAcl}
use Rattle.acl_posix.specs.declared.entries.TextFault.{TextFault}
use Rattle.acl_posix.specs.declared.entries.TextFault.TheVariants as text
use Rattle.acl_posix.specs.declared.limits.TheConstants.{MAX_ENTRIES}
use Rattle.acl_posix.proofs.InOrderLemmas.{in_order-acl}
use Rattle.acl_posix.proofs.ValidityLemmas.{valid_iff}

module _ (names : Names) (words : List ℕ) where
  entry_in-ok : (piece : List ℕ) (entry : EntryValue) → entry_by names piece ≡ Ok entry → entry_in (entry_by names) piece ≡ Ok entry
  entry_in-ok piece entry is = ap (map_fault piece_fault) is

  pub entries_of-spelt : (entries : List EntryValue) → Spells (entry_by names) MAX_ENTRIES words entries → entries_of (entry_by names) (pieces words) ≡ Ok entries
  entries_of-spelt = read-spelt (entry_by names) (entry_in (entry_by names)) TooMany MAX_ENTRIES words entry_in-ok

  -- a text whose entries are refused is refused for them
  pub acl_of-unread : (fault : TextFault) → IsFaultBy names words fault → ReadsAs (acl_by names (pieces words)) (Err (text_fault fault))
  acl_of-unread text.Syntax is = rw (read-fault (entry_by names) (entry_in (entry_by names)) TooMany MAX_ENTRIES words entry_in-ok _ _ is (λ piece is. ap (map_fault piece_fault) is)) refl
  acl_of-unread text.UnknownName is = rw (read-fault (entry_by names) (entry_in (entry_by names)) TooMany MAX_ENTRIES words entry_in-ok _ _ is (λ piece is. ap (map_fault piece_fault) is)) refl
  acl_of-unread text.TooMany is = rw (read-many (entry_by names) (entry_in (entry_by names)) TooMany MAX_ENTRIES words entry_in-ok is) refl
  acl_of-unread text.Memory is = tt

  -- and one whose entries are read, for what is wrong with these
  pub acl_of-invalid : (entries : List EntryValue) → Spells (entry_by names) MAX_ENTRIES words entries
      → (fault : Invalid) → IsRefusedFor entries fault → ReadsAs (acl_by names (pieces words)) (Err (entries_fault fault))
  acl_of-invalid entries spelt invalid.Missing is = rw (entries_of-spelt entries spelt, is) refl
  acl_of-invalid entries spelt invalid.Repeated is = rw (entries_of-spelt entries spelt, is) refl
  acl_of-invalid entries spelt invalid.NoMask is = rw (entries_of-spelt entries spelt, is) refl
  acl_of-invalid entries spelt invalid.Memory is = tt

  -- a list that is spelt is read
  pub acl_of-spelt : (acl : List EntryValue) → SpellsBy names words acl → acl_by names (pieces words) ≡ Ok acl
  acl_of-spelt acl spells = rw (entries_of-spelt spells.entries spells.spelt, (valid_iff spells.entries).0 spells.valid) (ap Ok spells.in_order_is)

  -- entries that are a list in canonical order spell that list
  pub spells_itself : (acl : List EntryValue) → IsAcl acl → Spells (entry_by names) MAX_ENTRIES words acl → SpellsBy names words acl
  spells_itself acl is spelt = record { entries = acl; spelt = spelt; valid = is.valid; in_order_is = in_order-acl acl acl is (IsPermutation-refl acl) }

  pub acl_of-again : (acl : List EntryValue) → IsAcl acl → Spells (entry_by names) MAX_ENTRIES words acl → acl_by names (pieces words) ≡ Ok acl
  acl_of-again acl is spelt = acl_of-spelt acl (spells_itself acl is spelt)

  -- a list that is read is spelt
  pub acl_of-ok : (acl : List EntryValue) → acl_by names (pieces words) ≡ Ok acl → SpellsBy names words acl
  acl_of-ok acl is =
      let read = bind_ok (entries_of (entry_by names) (pieces words)) acl_of_entries acl is in
      let test = if_then (is_none (fault_of read.0)) InvalidAcl (in_order read.0) acl read.2 in
      record {
        entries = read.0;
        spelt = spelt-read (entry_by names) (entry_in (entry_by names)) TooMany MAX_ENTRIES words (λ piece entry. map_fault-ok piece_fault (entry_by names piece) entry) read.0 read.1;
        valid = (valid_iff read.0).1 (is_none-true (fault_of read.0) test.0);
        in_order_is = test.1;
      }
