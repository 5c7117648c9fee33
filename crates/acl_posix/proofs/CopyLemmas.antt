-- Entries and a sorted copy of them.
use Rattle.std.proofs.Common.{◌≡◌, ◌∙◌, ◌==◌, false, List, length, inl, inr, sym, ap}
use Rattle.std.specs.List.Sorted.{IsPermutation, IsSortedByKey}
use Rattle.std.proofs.lemmas.Bool.{false≢true}
use Rattle.std.proofs.lemmas.List.Sorted.{All-permutation, length_permutation}
use Rattle.acl_posix.specs.Canonical.{tag_cmp, tag_of}
use Rattle.acl_posix.specs.Entries.{AreEntries, IsSortedCopy}
use Rattle.acl_posix.specs.Entry.{EntryValue}
use Rattle.acl_posix.specs.Perms.{IsPermissions}

-- the same entries in another order
pub AreEntries-permutation : (xs ys : List EntryValue) → IsPermutation xs ys → AreEntries xs → AreEntries ys
AreEntries-permutation xs ys moved are = record {
  within = rw (length_permutation xs ys moved) are.within;
  permissions = All-permutation (λ (entry : EntryValue). IsPermissions entry.perms) xs ys moved are.permissions;
}

-- a copy that isn't empty is one
pub copy_is : (xs ys : List EntryValue) → IsSortedCopy xs ys → (length ys == 0) ≡ false → IsPermutation xs ys × IsSortedByKey tag_of tag_cmp ys
copy_is xs ys (inl none) some = absurd (false≢true (sym some ∙ ap (λ (zs : List EntryValue). length zs == 0) none))
copy_is xs ys (inr is) some = is
