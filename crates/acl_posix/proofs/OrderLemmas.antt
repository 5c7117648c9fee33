-- The access check answers alike whatever the order of the entries.
use Rattle.std.proofs.Common.{◌≡◌, ◌∙◌, ℕ, ◌+◌, ◌≤◌, Bool, true, false, not, ◌&&◌, ◌||◌, ◌==◌, cond, List, [], ◌∷◌, Option, Some, None, refl, sym, ap, arith, inl, inr}
use Rattle.std.specs.List.{list_any, count_by, find}
use Rattle.std.specs.List.Sorted.{IsPermutation}
use Rattle.std.specs.Option.{option_map, option_map_or}
use Rattle.std.proofs.lemmas.Bool.{cases_Bool, le-ltb}
use Rattle.std.proofs.lemmas.List.Sorted.{list_any-IsPermutation}
use Rattle.std.proofs.Math.Bool.{or-false}
use Rattle.acl_names.specs.Requester.{Identity}
use Rattle.acl_posix.specs.declared.entry.Tag.{Tag}
use Rattle.acl_posix.specs.declared.entry.Tag.TheVariants.{UserObj, User, Mask, Other}
use Rattle.acl_posix.specs.Entry.{EntryValue, same_tag}
use Rattle.acl_names.specs.Bits.{has_all}
use Rattle.acl_posix.specs.Validity.{IsValid}
use Rattle.acl_posix.specs.Access.{is_for_group_of, grants}
use Rattle.acl_names.proofs.AnyLemmas.{list_any-none_and}
use Rattle.acl_names.proofs.Counting.{count_by-cons, list_any-count_by}
use Rattle.acl_posix.proofs.ValidityLemmas.{IsValid-permutation}
use Rattle.acl_posix.specs.CheckSteps.{has_tag, tag_has, has_group, group_has, mask_allows}
use Rattle.acl_posix.proofs.AccessLemmas.{has_tag-valid, grants-owner, grants-user, grants-group, grants-other}

-- an only element that passes, and a default if there is none
only_one : {X : Type 0} (p : X → Bool) (f : X → Bool) (xs : List X) → count_by p xs ≤ 1
    → option_map_or f (find p xs) true ≡ (not (list_any p xs) || list_any (λ x. p x && f x) xs)
only_one p f [] one = refl
only_one p f (x ∷ xs) one =
    elim (cases_Bool (p x)) [
      | inl passes ↦
          let counts : count_by p (x ∷ xs) ≡ 1 + count_by p xs = count_by-cons p x xs ∙ ap (λ b. cond b 1 0 + count_by p xs) passes in
          let none : list_any p xs ≡ false = list_any-count_by p xs ∙ le-ltb 0 (count_by p xs) (omega arith) in
          rw (passes, list_any-none_and p f xs none) (sym (or-false (f x)))
      | inr fails ↦
          let counts : count_by p (x ∷ xs) ≡ 0 + count_by p xs = count_by-cons p x xs ∙ ap (λ b. cond b 1 0 + count_by p xs) fails in
          rw fails (only_one p f xs (omega arith))
    ]

module _ (xs ys : List EntryValue) (moved : IsPermutation xs ys) (valid : IsValid xs) (request : ℕ) where
  same_has_tag : (tag : Tag) → has_tag tag xs ≡ has_tag tag ys
  same_has_tag tag = list_any-IsPermutation (λ entry. same_tag entry.tag tag) xs ys moved

  same_tag_has : (tag : Tag) → tag_has tag xs request ≡ tag_has tag ys request
  same_tag_has tag = list_any-IsPermutation (λ entry. same_tag entry.tag tag && has_all entry.perms request) xs ys moved

  same_mask_allows : mask_allows xs request ≡ mask_allows ys request
  same_mask_allows =
      let has = λ (entry : EntryValue). same_tag entry.tag Mask in
      let allows = λ (entry : EntryValue). has_all entry.perms request in
      let other = IsValid-permutation xs ys moved valid in
      mapped (find has xs) ∙ only_one has allows xs valid.mask
      ∙ ap (λ b. not b || tag_has Mask xs request) (same_has_tag Mask) ∙ ap (λ b. not (has_tag Mask ys) || b) (same_tag_has Mask)
      ∙ sym (mapped (find has ys) ∙ only_one has allows ys other.mask)
    where
      mapped : (found : Option EntryValue)
          → option_map_or (λ mask. has_all mask request) (option_map (λ entry. entry.perms) found) true ≡ option_map_or (λ entry. has_all entry.perms request) found true
      mapped None = refl
      mapped (Some entry) = refl

  pub grants-permutation : (owner group : ℕ) (requester : Identity) → grants xs owner group requester request ≡ grants ys owner group requester request
  grants-permutation owner group requester =
      let user = User requester.uid in
      let first = list_any-IsPermutation (λ (entry : EntryValue). is_for_group_of requester group entry.tag) xs ys moved in
      let second = list_any-IsPermutation (λ (entry : EntryValue). is_for_group_of requester group entry.tag && has_all entry.perms request) xs ys moved in
      elim (cases_Bool (requester.uid == owner)) [
        | inl owns ↦
            grants-owner xs owner group requester request owns (has_tag-valid xs valid) ∙ same_tag_has UserObj
            ∙ sym (grants-owner ys owner group requester request owns (sym (same_has_tag UserObj) ∙ has_tag-valid xs valid))
        | inr not_owner ↦ elim (cases_Bool (has_tag user xs)) [
          | inl named ↦
              grants-user xs owner group requester request not_owner named
              ∙ ap (λ b. b && mask_allows xs request) (same_tag_has user) ∙ ap (λ b. tag_has user ys request && b) same_mask_allows
              ∙ sym (grants-user ys owner group requester request not_owner (sym (same_has_tag user) ∙ named))
          | inr unnamed ↦ elim (cases_Bool (has_group requester group xs)) [
            | inl grouped ↦
                grants-group xs owner group requester request not_owner unnamed grouped
                ∙ ap (λ b. b && mask_allows xs request) second ∙ ap (λ b. group_has requester group ys request && b) same_mask_allows
                ∙ sym (grants-group ys owner group requester request not_owner (sym (same_has_tag user) ∙ unnamed) (sym first ∙ grouped))
            | inr ungrouped ↦
                grants-other xs owner group requester request not_owner unnamed ungrouped ∙ same_tag_has Other
                ∙ sym (grants-other ys owner group requester request not_owner (sym (same_has_tag user) ∙ unnamed) (sym first ∙ ungrouped))
          ]
        ]
      ]
