-- Which entries decide, and that no others count.
use Rattle.std.proofs.Common.{◌≡◌, ◌∙◌, ◌+◌, ◌^◌, ℕ, suc, arith, IsSomeAnd, slice_get, Bool, true, false}
use Rattle.std.proofs.Common.{◌&&◌, ◌||◌, ◌==◌, cond, List, [], ◌∷◌, ◌++◌, Option, Some, option_map, find}
use Rattle.std.proofs.Common.{refl, sym, ap, ap₂, subst}
use Rattle.std.specs.List.{list_any, filter, position_from}
use Rattle.std.specs.Prelude.{unwrap_or}
use Rattle.std.specs.Option.{option_map_or}
use Rattle.std.proofs.lemmas.Bool.{false≢true}
use Rattle.acl_names.specs.Bits.{has_all}
use Rattle.acl_names.specs.Requester.{Identity}
use Rattle.acl_names.proofs.AnyLemmas.{list_any-filter, and_same}
use Rattle.acl_posix.specs.Access.{effective_perms, first_nonempty, grants, is_for_group_of}
use Rattle.acl_posix.specs.CheckSteps.{has_group, has_tag, mask_allows}
use Rattle.acl_posix.specs.Entry.{EntryValue, perms_of, same_tag}
use Rattle.acl_posix.specs.Validity.{IsValid}
use Rattle.acl_posix.specs.declared.entry.Tag.{Tag}
use Rattle.acl_posix.specs.declared.entry.Tag.TheVariants as tags
use Rattle.acl_posix.proofs.AccessLemmas.{first_dropped, first_kept, only, grants-group, grants-other, grants-owner, grants-user, has_tag-valid}
use Rattle.acl_nfs4.specs.Ace.{Nfsace4, decides, is_allow}
use Rattle.acl_nfs4.proofs.MaskBits.{contains-one}
use Rattle.acl_nfs4.specs.Evaluation.{allows, speaks}
use Rattle.acl_nfs4.specs.declared.who.Who.{Who}
use Rattle.acl_queries.specs.Explanation.{AreSameOrSilent, AreSameWhere, ClassesDecide, FirstSpeakersDecide}
use Rattle.acl_queries.specs.Explanation.{LaterEntriesDontCount, OtherEntriesDontCount}
use Rattle.acl_queries.specs.Explanation.{SilentEntriesDontCount, SaidBy, counts, is_of_class, speaks_of}
use Rattle.acl_queries.specs.declared.explanation.Class.{Class}
use Rattle.acl_queries.specs.declared.explanation.Class.TheVariants.{Owner, User, Group, Other}

-- the class, by the three tests: the owner asks, the user has an entry, a group of the requester has one
abbrev class_by : Bool → Bool → Bool → Class
class_by o u g = cond o Owner (cond u User (cond g Group Other))

module _ (acl : List EntryValue) (owner group : ℕ) (requester : Identity) (request : ℕ) where
  abbrev of_owner : EntryValue → Bool
  of_owner entry = same_tag entry.tag tags.UserObj

  abbrev of_user : EntryValue → Bool
  of_user entry = same_tag entry.tag (tags.User requester.uid)

  abbrev of_group : EntryValue → Bool
  of_group entry = is_for_group_of requester group entry.tag

  abbrev of_others : EntryValue → Bool
  of_others entry = same_tag entry.tag tags.Other

  abbrev has_effective : EntryValue → Bool
  has_effective entry = has_all (effective_perms acl entry) request

  abbrev one_has : List EntryValue → Bool
  one_has entries = list_any has_effective entries

  abbrev from_users : List (List EntryValue)
  from_users = filter of_user acl ∷ filter of_group acl ∷ filter of_others acl ∷ []

  -- past the owner
  past_owner : (requester.uid == owner) ≡ false → grants acl owner group requester request ≡ one_has (first_nonempty from_users)
  past_owner e = ap (λ b. one_has (first_nonempty (cond b (filter of_owner acl) [] ∷ from_users))) e

  decided_by : (o u g : Bool) → (requester.uid == owner) ≡ o → list_any of_user acl ≡ u → list_any of_group acl ≡ g → list_any of_owner acl ≡ true
      → grants acl owner group requester request
      ≡ list_any (λ entry. is_of_class (class_by o u g) group requester entry.tag && has_effective entry) acl
  decided_by true u g is_owner by_user by_group some =
      ap (λ b. one_has (first_nonempty (cond b (filter of_owner acl) [] ∷ from_users))) is_owner
      ∙ ap one_has (first_kept of_owner acl from_users some)
      ∙ sym (list_any-filter of_owner has_effective acl)
  decided_by false true g is_owner by_user by_group some =
      past_owner is_owner
      ∙ ap one_has (first_kept of_user acl (filter of_group acl ∷ filter of_others acl ∷ []) by_user)
      ∙ sym (list_any-filter of_user has_effective acl)
  decided_by false false true is_owner by_user by_group some =
      past_owner is_owner
      ∙ ap one_has (first_dropped of_user acl (filter of_group acl ∷ filter of_others acl ∷ []) by_user)
      ∙ ap one_has (first_kept of_group acl (filter of_others acl ∷ []) by_group)
      ∙ sym (list_any-filter of_group has_effective acl)
  decided_by false false false is_owner by_user by_group some =
      past_owner is_owner
      ∙ ap one_has (first_dropped of_user acl (filter of_group acl ∷ filter of_others acl ∷ []) by_user)
      ∙ ap one_has (first_dropped of_group acl (filter of_others acl ∷ []) by_group ∙ only (filter of_others acl))
      ∙ sym (list_any-filter of_others has_effective acl)

pub classes_decide : ClassesDecide
classes_decide acl owner group requester request valid =
    decided_by acl owner group requester request (requester.uid == owner) (list_any (λ entry. same_tag entry.tag (tags.User requester.uid)) acl)
    (list_any (λ entry. is_for_group_of requester group entry.tag) acl) refl refl refl (has_tag-valid acl valid)

-- ---- other permissions in entries that don't count

module _ (count : Tag → Bool) where
  -- what is asked of tags alone is answered alike
  same_any : (p : Tag → Bool) (acl other : List EntryValue) → AreSameWhere count acl other
      → list_any (λ (e : EntryValue). p e.tag) other ≡ list_any (λ (e : EntryValue). p e.tag) acl
  same_any p [] [] same = refl
  same_any p [] (o ∷ ys) same = absurd same
  same_any p (e ∷ xs) [] same = absurd same
  same_any p (e ∷ xs) (o ∷ ys) ((label, perms), rest) = ap₂ (λ (a b : Bool). a || b) (ap p label) (same_any p xs ys rest)

  -- what is asked of entries that count is answered alike
  same_has : (p : Tag → Bool) → ((t : Tag) → p t ≡ true → count t ≡ true) → (request : ℕ) (acl other : List EntryValue) → AreSameWhere count acl other
      → list_any (λ (e : EntryValue). p e.tag && has_all e.perms request) other ≡ list_any (λ (e : EntryValue). p e.tag && has_all e.perms request) acl
  same_has p counted request [] [] same = refl
  same_has p counted request [] (o ∷ ys) same = absurd same
  same_has p counted request (e ∷ xs) [] same = absurd same
  same_has p counted request (e ∷ xs) (o ∷ ys) ((label, perms), rest) =
      ap₂ (λ (a b : Bool). a || b)
      (ap (λ (t : Tag). p t && has_all o.perms request) label
      ∙ and_same (p e.tag) (has_all o.perms request) (has_all e.perms request) (λ here. ap (λ (n : ℕ). has_all n request) (perms (counted e.tag here))))
      (same_has p counted request xs ys rest)

  -- what is found, by whether the first entry is it
  abbrev found : Tag → Bool → EntryValue → List EntryValue → Option ℕ
  found t b x xs = option_map (λ (y : EntryValue). y.perms) (cond b (Some x) (find (λ (y : EntryValue). same_tag y.tag t) xs))

  -- an entry that counts has the permissions that it had
  same_perms : (t : Tag) → ((u : Tag) → same_tag u t ≡ true → count u ≡ true) → (acl other : List EntryValue) → AreSameWhere count acl other
      → perms_of t other ≡ perms_of t acl
  same_perms t counted [] [] same = refl
  same_perms t counted [] (o ∷ ys) same = absurd same
  same_perms t counted (e ∷ xs) [] same = absurd same
  same_perms t counted (e ∷ xs) (o ∷ ys) ((label, perms), rest) =
      by (same_tag e.tag t) refl (same_perms t counted xs ys rest)
    where
      by : (b : Bool) → same_tag e.tag t ≡ b → perms_of t ys ≡ perms_of t xs → perms_of t (o ∷ ys) ≡ perms_of t (e ∷ xs)
      by true is later =
          let one : perms_of t (o ∷ ys) ≡ found t true o ys = ap (λ (b : Bool). found t b o ys) (ap (λ (u : Tag). same_tag u t) label ∙ is) in
          let other : perms_of t (e ∷ xs) ≡ found t true e xs = ap (λ (b : Bool). found t b e xs) is in
          one ∙ ap Some (perms (counted e.tag is)) ∙ sym other
      by false is later =
          let one : perms_of t (o ∷ ys) ≡ found t false o ys = ap (λ (b : Bool). found t b o ys) (ap (λ (u : Tag). same_tag u t) label ∙ is) in
          let other : perms_of t (e ∷ xs) ≡ found t false e xs = ap (λ (b : Bool). found t b e xs) is in
          one ∙ later ∙ sym other

-- an entry of the class counts
counts-class : (class : Class) (group : ℕ) (requester : Identity) (t : Tag) → is_of_class class group requester t ≡ true → counts class group requester t ≡ true
counts-class Owner group requester tags.Mask h = absurd (false≢true h)
counts-class User group requester tags.Mask h = absurd (false≢true h)
counts-class Group group requester tags.Mask h = absurd (false≢true h)
counts-class Other group requester tags.Mask h = absurd (false≢true h)
counts-class class group requester tags.UserObj h = h
counts-class class group requester (tags.User uid) h = h
counts-class class group requester tags.GroupObj h = h
counts-class class group requester (tags.Group gid) h = h
counts-class class group requester tags.Other h = h

-- the mask counts for a class that it limits
mask_counts-user : (group : ℕ) (requester : Identity) (t : Tag) → same_tag t tags.Mask ≡ true → counts User group requester t ≡ true
mask_counts-user group requester tags.Mask h = refl
mask_counts-user group requester tags.UserObj h = absurd (false≢true h)
mask_counts-user group requester (tags.User uid) h = absurd (false≢true h)
mask_counts-user group requester tags.GroupObj h = absurd (false≢true h)
mask_counts-user group requester (tags.Group gid) h = absurd (false≢true h)
mask_counts-user group requester tags.Other h = absurd (false≢true h)

mask_counts-group : (group : ℕ) (requester : Identity) (t : Tag) → same_tag t tags.Mask ≡ true → counts Group group requester t ≡ true
mask_counts-group group requester tags.Mask h = refl
mask_counts-group group requester tags.UserObj h = absurd (false≢true h)
mask_counts-group group requester (tags.User uid) h = absurd (false≢true h)
mask_counts-group group requester tags.GroupObj h = absurd (false≢true h)
mask_counts-group group requester (tags.Group gid) h = absurd (false≢true h)
mask_counts-group group requester tags.Other h = absurd (false≢true h)

module _ (acl other : List EntryValue) (owner group : ℕ) (requester : Identity) (request : ℕ) (valid : IsValid acl) where
  same_mask : (count : Tag → Bool) → ((t : Tag) → same_tag t tags.Mask ≡ true → count t ≡ true) → AreSameWhere count acl other
      → mask_allows other request ≡ mask_allows acl request
  same_mask count counted same = ap limit (same_perms count tags.Mask counted acl other same)
    where
      limit : Option ℕ → Bool
      limit mask = option_map_or (λ m. has_all m request) mask true

  answers_alike : (o u g : Bool) → (requester.uid == owner) ≡ o → has_tag (tags.User requester.uid) acl ≡ u → has_group requester group acl ≡ g
      → AreSameWhere (counts (class_by o u g) group requester) acl other
      → grants other owner group requester request ≡ grants acl owner group requester request
  answers_alike true u g is_owner by_user by_group same =
      let some : has_tag tags.UserObj acl ≡ true = has_tag-valid acl valid in
      let count = counts Owner group requester in
      grants-owner other owner group requester request is_owner (same_any count (λ t. same_tag t tags.UserObj) acl other same ∙ some)
      ∙ same_has count (λ t. same_tag t tags.UserObj) (counts-class Owner group requester) request acl other same
      ∙ sym (grants-owner acl owner group requester request is_owner some)
  answers_alike false true g is_owner by_user by_group same =
      let count = counts User group requester in
      grants-user other owner group requester request is_owner (same_any count (λ t. same_tag t (tags.User requester.uid)) acl other same ∙ by_user)
      ∙ ap₂ (λ (a b : Bool). a && b)
      (same_has count (λ t. same_tag t (tags.User requester.uid)) (counts-class User group requester) request acl other same)
      (same_mask count (mask_counts-user group requester) same)
      ∙ sym (grants-user acl owner group requester request is_owner by_user)
  answers_alike false false true is_owner by_user by_group same =
      let count = counts Group group requester in
      grants-group other owner group requester request is_owner (same_any count (λ t. same_tag t (tags.User requester.uid)) acl other same ∙ by_user)
      (same_any count (is_for_group_of requester group) acl other same ∙ by_group)
      ∙ ap₂ (λ (a b : Bool). a && b)
      (same_has count (is_for_group_of requester group) (counts-class Group group requester) request acl other same)
      (same_mask count (mask_counts-group group requester) same)
      ∙ sym (grants-group acl owner group requester request is_owner by_user by_group)
  answers_alike false false false is_owner by_user by_group same =
      let count = counts Other group requester in
      grants-other other owner group requester request is_owner (same_any count (λ t. same_tag t (tags.User requester.uid)) acl other same ∙ by_user)
      (same_any count (is_for_group_of requester group) acl other same ∙ by_group)
      ∙ same_has count (λ t. same_tag t tags.Other) (counts-class Other group requester) request acl other same
      ∙ sym (grants-other acl owner group requester request is_owner by_user by_group)

pub other_entries_dont_count : OtherEntriesDontCount
other_entries_dont_count acl other owner group requester request valid same =
    answers_alike acl other owner group requester request valid (requester.uid == owner) (has_tag (tags.User requester.uid) acl)
    (has_group requester group acl) refl refl refl same

-- ---- NFSv4 lists

module _ (applies : Who → Bool) (bit : ℕ) where
  -- what the first entry says, if it speaks, and what is left, if it doesn't
  allows-here : (ace : Nfsace4) (aces : List Nfsace4) → speaks applies bit ace ≡ true → allows applies bit (ace ∷ aces) ≡ is_allow ace.kind
  allows-here ace aces e =
      ap (λ (b : Bool). unwrap_or (option_map (λ (a : Nfsace4). is_allow a.kind) (cond b (Some ace) (find (speaks applies bit) aces))) false) e

  allows-past : (ace : Nfsace4) (aces : List Nfsace4) → speaks applies bit ace ≡ false → allows applies bit (ace ∷ aces) ≡ allows applies bit aces
  allows-past ace aces e =
      ap (λ (b : Bool). unwrap_or (option_map (λ (a : Nfsace4). is_allow a.kind) (cond b (Some ace) (find (speaks applies bit) aces))) false) e

  silent : (aces others : List Nfsace4) → AreSameOrSilent applies bit aces others → allows applies bit others ≡ allows applies bit aces
  silent [] [] same = refl
  silent [] (o ∷ ys) same = absurd same
  silent (a ∷ xs) [] same = absurd same
  silent (a ∷ xs) (o ∷ ys) (here, rest) = by (speaks applies bit a) refl (silent xs ys rest)
    where
      by : (b : Bool) → speaks applies bit a ≡ b → allows applies bit ys ≡ allows applies bit xs → allows applies bit (o ∷ ys) ≡ allows applies bit (a ∷ xs)
      by true e more =
          let same : o ≡ a = here.0 e in
          allows-here o ys (ap (speaks applies bit) same ∙ e) ∙ ap (λ (x : Nfsace4). is_allow x.kind) same ∙ sym (allows-here a xs e)
      by false e more = allows-past o ys (here.1 e) ∙ more ∙ sym (allows-past a xs e)

  later : (front rest others : List Nfsace4) → list_any (speaks applies bit) front ≡ true
      → allows applies bit (front ++ others) ≡ allows applies bit (front ++ rest)
  later [] rest others some = absurd (false≢true some)
  later (a ∷ xs) rest others some = by (speaks applies bit a) refl (later xs rest others)
    where
      by : (b : Bool) → speaks applies bit a ≡ b → (list_any (speaks applies bit) xs ≡ true → allows applies bit (xs ++ others) ≡ allows applies bit (xs ++ rest))
          → allows applies bit ((a ∷ xs) ++ others) ≡ allows applies bit ((a ∷ xs) ++ rest)
      by true e more = allows-here a (xs ++ others) e ∙ sym (allows-here a (xs ++ rest) e)
      by false e more =
          allows-past a (xs ++ others) e
          ∙ more (sym (ap (λ (b : Bool). b || list_any (speaks applies bit) xs) e) ∙ some)
          ∙ sym (allows-past a (xs ++ rest) e)

pub silent_entries_dont_count : SilentEntriesDontCount
silent_entries_dont_count applies bit aces others same = silent applies bit aces others same

pub later_entries_dont_count : LaterEntriesDontCount
later_entries_dont_count applies bit front rest others some = later applies bit front rest others some

-- ---- the place of the entry that speaks first

-- an entry speaks of a bit if it has all of the bit's mask
speaks-of : (applies : Who → Bool) (bit : ℕ) (ace : Nfsace4) → speaks_of applies (2 ^ bit) ace ≡ speaks applies bit ace
unfolding speaks
speaks-of applies bit ace = ap (λ (b : Bool). decides ace && (applies ace.who && b)) (contains-one ace.mask bit)

module _ (applies : Who → Bool) (bit : ℕ) (whole : List Nfsace4) where
  -- of what stands in a list from a place on
  said : (n : ℕ) (aces : List Nfsace4) → ((k : ℕ) → slice_get whole (n + k) ≡ slice_get aces k)
      → SaidBy whole (position_from (speaks_of applies (2 ^ bit)) n aces) (allows applies bit aces)
  said n [] from = refl
  said n (a ∷ xs) from =
      by (speaks_of applies (2 ^ bit) a) refl
      (said (n + 1) xs (λ k. let same : n + 1 + k ≡ n + suc k = omega arith in ap (λ (j : ℕ). slice_get whole j) same ∙ from (suc k)))
    where
      by : (b : Bool) → speaks_of applies (2 ^ bit) a ≡ b
          → SaidBy whole (position_from (speaks_of applies (2 ^ bit)) (n + 1) xs) (allows applies bit xs)
          → SaidBy whole (cond b (Some n) (position_from (speaks_of applies (2 ^ bit)) (n + 1) xs)) (allows applies bit (a ∷ xs))
      by true e more =
          let same : n ≡ n + 0 = omega arith in
          let at : slice_get whole n ≡ Some a = ap (λ (k : ℕ). slice_get whole k) same ∙ from 0 in
          subst (λ (found : Option Nfsace4). IsSomeAnd found (λ ace. allows applies bit (a ∷ xs) ≡ is_allow ace.kind)) (sym at)
          (allows-here applies bit a xs (sym (speaks-of applies bit a) ∙ e))
      by false e more =
          subst (λ (allowed : Bool). SaidBy whole (position_from (speaks_of applies (2 ^ bit)) (n + 1) xs) allowed)
          (sym (allows-past applies bit a xs (sym (speaks-of applies bit a) ∙ e))) more

pub first_speakers_decide : FirstSpeakersDecide
first_speakers_decide applies bit aces =
    said applies bit aces 0 aces (λ k. let same : 0 + k ≡ k = omega arith in ap (λ (j : ℕ). slice_get aces j) same)
