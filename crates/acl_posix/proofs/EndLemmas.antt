-- In an access control list the owner's entry is the first, and the others' entry is the last.
use Rattle.std.proofs.Common.{◌≡◌, ◌≢◌, ◌∙◌, ℕ, ◌+◌, ◌<◌, Bool, false, List, Some, find, length, get_or, option_map, ap, sym, arith, inl, inr}
use Rattle.std.specs.declared.cmp.Ordering.TheVariants.{Less}
use Rattle.std.specs.Option.{option_map_or}
use Rattle.std.proofs.lemmas.Bool.{cases_eq, lt-ltb}
use Rattle.std.proofs.lemmas.Cmp.{tied_itself}
use Rattle.std.proofs.lemmas.List.Folds.{Any-from_list_any}
use Rattle.std.proofs.lemmas.List.{get_or_default}
use Rattle.std.proofs.lemmas.Option.{slice_get-get_or}
use Rattle.acl_names.specs.Bits.{has_all}
use Rattle.acl_names.proofs.AscendingLemmas.{find-searched}
use Rattle.acl_names.proofs.Counting.{list_any-count_by}
use Rattle.acl_posix.specs.declared.entry.Tag.{Tag}
use Rattle.acl_posix.specs.declared.entry.Tag.TheVariants.{UserObj, Other}
use Rattle.acl_posix.specs.Canonical.{IsCanonical, tag_cmp, tag_of}
use Rattle.acl_posix.specs.CheckSteps.{tag_has}
use Rattle.acl_posix.specs.Entry.{EntryValue, same_tag}
use Rattle.acl_posix.specs.Validity.{IsValid, count_of}
use Rattle.acl_posix.proofs.AccessLemmas.{tag_has-perms_of}
use Rattle.acl_posix.proofs.CanonicalLemmas.{same_tag-tag_cmp, tag_cmp_total}
use Rattle.acl_posix.proofs.TagLemmas.{same_tag-true}

module _ (acl : List EntryValue) (valid : IsValid acl) (canonical : IsCanonical acl) (request : ℕ) where
  -- a tag that stands once, and nowhere but at one place, has what the entry there has
  tag_has-at : (tag : Tag) (at : ℕ) (entry : EntryValue) → count_of tag acl ≡ 1 → at < length acl → entry ≡ get_or acl at entry
      → ((k : ℕ) → k < length acl → k ≢ at → tag_of (get_or acl k entry) ≢ tag) → has_all entry.perms request ≡ tag_has tag acl request
  tag_has-at tag at entry one inside here apart =
      let has : EntryValue → Bool = λ e. same_tag e.tag tag in
      let found = Any-from_list_any has acl (list_any-count_by has acl ∙ lt-ltb 0 (count_of tag acl) (omega arith)) in
      let tagged : tag_of (get_or acl found.0 entry) ≡ tag =
      ap tag_of (get_or_default acl found.0 entry found.1 found.2 ∙ found.3) ∙ same_tag-true (tag_of found.1) tag found.4 in
      let place : found.0 ≡ at = elim (cases_eq found.0 at) [ inl same ↦ same | inr other ↦ absurd (apart found.0 found.2 other tagged) ] in
      let is_tag : tag_of entry ≡ tag = ap tag_of here ∙ rw place at tagged in
      let first : find has acl ≡ Some entry =
      find-searched tag_cmp tag_cmp_total tag_of same_tag same_tag-tag_cmp acl tag canonical at inside
      (λ d. ap (λ e. tag_cmp (tag_of e) tag) (get_or_default acl at d entry inside ∙ sym here) ∙ ap (λ t. tag_cmp t tag) is_tag ∙ tied_itself tag_cmp_total tag)
      ∙ slice_get-get_or acl at entry inside ∙ ap Some (sym here) in
      sym (tag_has-perms_of tag acl request (omega arith) ∙ ap (λ o. option_map_or (λ p. has_all p request) (option_map (λ e. e.perms) o) false) first)

  pub owner_has : (entry : EntryValue) → 0 < length acl → entry ≡ get_or acl 0 entry → has_all entry.perms request ≡ tag_has UserObj acl request
  owner_has entry some here =
      tag_has-at UserObj 0 entry valid.user_obj some here (λ k inside other owner.
      none (tag_of (get_or acl 0 entry)) (rw owner at (canonical 0 k entry (omega (arith, other)) inside)))
    where
      none : (tag : Tag) → tag_cmp tag UserObj ≢ Less
      none UserObj = λ e. cc
      none _ = λ e. cc

  pub others_have : (entry : EntryValue) (at : ℕ) → at + 1 ≡ length acl → entry ≡ get_or acl at entry → has_all entry.perms request ≡ tag_has Other acl request
  others_have entry at last here =
      tag_has-at Other at entry valid.other (omega arith) here (λ k inside other others.
      none (tag_of (get_or acl at entry)) (rw others at (canonical k at entry (omega (arith, other)) (omega arith))))
    where
      none : (tag : Tag) → tag_cmp Other tag ≢ Less
      none Other = λ e. cc
      none _ = λ e. cc
