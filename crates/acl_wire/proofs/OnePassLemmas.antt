-- What was seen of entries in one pass reports what a check asks of them.
use Rattle.std.proofs.Common.{◌≡◌, ◌∙◌, ℕ, ◌+◌, ◌<◌, ◌≤◌, Bool, true, false, ◌&&◌, ◌||◌, cond, List, [], ◌∷◌, ◌++◌, Option, Some, None, find, option_map, length, get_or, append_assoc, length-append, refl, sym, ap, subst, arith, inl, inr}
use Rattle.std.specs.declared.cmp.Ordering.TheVariants.{Less}
use Rattle.std.specs.List.{All, list_any}
use Rattle.std.specs.Option.{option_or}
use Rattle.std.proofs.Math.ListN.{get_or-append}
use Rattle.std.proofs.Math.Seq.{get_or-append_seam}
use Rattle.std.proofs.lemmas.Bool.{and_parts, cases_Bool, cases_lt, leb-true, ltb-true, true≢false}
use Rattle.std.proofs.lemmas.Grind.{common_steps}
use Rattle.std.proofs.lemmas.List.{append-nil}
use Rattle.std.proofs.lemmas.List.Elements.{All-append}
use Rattle.std.proofs.lemmas.List.Folds.{find-append, list_any_none, list_any-append}
use Rattle.std.proofs.lemmas.Option.{none-some}
use Rattle.acl_names.proofs.AnyLemmas.{list_any-none_and}
use Rattle.acl_names.proofs.AscendingLemmas.{find-none}
use Rattle.acl_names.specs.Bits.{has_all}
use Rattle.acl_names.specs.Requester.{Identity}
use Rattle.acl_posix.specs.Access.{is_for_group_of}
use Rattle.acl_posix.specs.Canonical.{IsCanonical, tag_cmp}
use Rattle.acl_posix.specs.Entry.{EntryValue, is_named, same_tag}
use Rattle.acl_posix.specs.Keys.{IsShort, order_of}
use Rattle.acl_posix.specs.Perms.{bits_of}
use Rattle.acl_posix.specs.declared.entry.Tag.{Tag}
use Rattle.acl_posix.specs.declared.entry.Tag.TheVariants.{UserObj, User, GroupObj, Mask, Other}
use Rattle.acl_posix.specs.declared.perms.Perms.{Perms}
use Rattle.acl_posix.proofs.TagLemmas.{same_tag-true}
use Rattle.acl_wire.specs.OnePass.{IsSeen, all_after, joined, may_follow, nothing_seen, with_entry}
use Rattle.acl_wire.specs.declared.one_pass.Seen.{Seen}

-- what the entries answer to whom they are for, and what they do with one more
module _ (applies has : EntryValue → Bool) where
  abbrev answer : List EntryValue → Option Bool
  answer entries = cond (list_any applies entries) (Some (list_any (λ entry. applies entry && has entry) entries)) None

  joined-more : (entries : List EntryValue) (entry : EntryValue) → cond (applies entry) (joined (answer entries) (has entry)) (answer entries) ≡ answer (entries ++ entry ∷ [])
  joined-more entries entry =
      rw (list_any-append applies entries (entry ∷ []), list_any-append (λ (e : EntryValue). applies e && has e) entries (entry ∷ []))
      (go (list_any applies entries) (list_any (λ (e : EntryValue). applies e && has e) entries) (applies entry) (has entry) (list_any-none_and applies has entries))
    where
      go : (some whole here has_it : Bool) → (some ≡ false → whole ≡ false)
          → cond here (joined (cond some (Some whole) None) has_it) (cond some (Some whole) None) ≡ cond (some || (here || false)) (Some (whole || ((here && has_it) || false))) None
      go true true true has_it none = refl
      go true true false has_it none = refl
      go true false true true none = refl
      go true false true false none = refl
      go true false false has_it none = refl
      go false true here has_it none = absurd (true≢false (none refl))
      go false false true true none = refl
      go false false true false none = refl
      go false false false has_it none = refl

  -- if none of them is for whom the further one is for
  only-more : (entries : List EntryValue) (entry : EntryValue) → (applies entry ≡ true → list_any applies entries ≡ false)
      → cond (applies entry) (Some (has entry)) (answer entries) ≡ answer (entries ++ entry ∷ [])
  only-more entries entry once = go (applies entry) refl (joined-more entries entry)
    where
      go : (here : Bool) → applies entry ≡ here → cond here (joined (answer entries) (has entry)) (answer entries) ≡ answer (entries ++ entry ∷ [])
          → cond here (Some (has entry)) (answer entries) ≡ answer (entries ++ entry ∷ [])
      go true here all = ap (λ b. joined (cond b (Some (list_any (λ (e : EntryValue). applies e && has e) entries)) None) (has entry)) (sym (once here)) ∙ all
      go false here all = all

any-more : (test : EntryValue → Bool) (entries : List EntryValue) (entry : EntryValue) → cond (test entry) true (list_any test entries) ≡ list_any test (entries ++ entry ∷ [])
any-more test entries entry = go (test entry) (list_any test entries) ∙ sym (list_any-append test entries (entry ∷ []))
  where
    go : (here some : Bool) → cond here true some ≡ (some || (here || false))
    go true true = refl
    go true false = refl
    go false true = refl
    go false false = refl

mask-more : (before : Option Perms) (found : Option EntryValue) (is_mask : Bool) (entry : EntryValue) → option_map bits_of before ≡ option_map (λ e. e.perms) found
    → (is_mask ≡ true → found ≡ None)
    → option_map bits_of (cond is_mask (Some (record { 0 = entry.perms })) before) ≡ option_map (λ e. e.perms) (option_or found (cond is_mask (Some entry) None))
mask-more before None true entry is once = refl
mask-more before (Some first) true entry is once = absurd (none-some first (sym (once refl)))
mask-more before None false entry is once = is
mask-more before (Some first) false entry is once = is

-- of two tags, that with the smaller number is shown before the other
before : (a b : Tag) → IsShort a → IsShort b → order_of a < order_of b → tag_cmp a b ≡ Less
before a b short_a short_b below = grind (arith, common_steps)

module _ (requester : Identity) (group request : ℕ) where
  pub seen-nothing : IsSeen requester group request [] nothing_seen
  seen-nothing = record {
    canonical = λ i j d low high. absurd (omega arith);
    short = λ k d inside. absurd (omega arith);
    below = λ k d inside. absurd (omega arith);
    owner = refl;
    user = refl;
    group_obj = refl;
    groups = refl;
    named = refl;
    mask = refl;
    other = refl;
  }

  -- one that comes behind entries in canonical order
  canonical-more : (entries : List EntryValue) (entry : EntryValue) → IsCanonical entries → All (λ e. IsShort e.tag) entries → IsShort entry.tag
      → All (λ e. order_of e.tag < order_of entry.tag) entries → IsCanonical (entries ++ entry ∷ [])
  canonical-more entries entry canonical short entry_short below = λ i j d low high.
      let long : length (entries ++ entry ∷ []) ≡ length entries + 1 = length-append entries (entry ∷ []) in
      let first : get_or (entries ++ entry ∷ []) i d ≡ get_or entries i d = get_or-append entries (entry ∷ []) d i (omega arith) in
      elim (cases_lt j (length entries)) [
        | inl inside ↦ rw (first, get_or-append entries (entry ∷ []) d j inside) (canonical i j d low inside)
        | inr last ↦
            let at_end : j ≡ length entries = omega arith in
            rw (first, at_end, get_or-append_seam entries entry [] d)
            (before (get_or entries i d).tag entry.tag (short i d (omega arith)) entry_short (below i d (omega arith)))
      ]

  -- one that comes behind has a tag that none of them has
  none-before : (entries : List EntryValue) (entry : EntryValue) (seen : Seen) → IsSeen requester group request entries seen → seen.next ≤ order_of entry.tag
      → (tag : Tag) → same_tag entry.tag tag ≡ true → All (λ e. same_tag e.tag tag ≡ false) entries
  none-before entries entry seen is behind tag here = λ k d inside. elim (cases_Bool (same_tag (get_or entries k d).tag tag)) [
    | inl also ↦
        let low = is.below k d inside in
        let level : order_of (get_or entries k d).tag ≡ order_of entry.tag = ap order_of (same_tag-true _ tag also ∙ sym (same_tag-true entry.tag tag here)) in
        absurd (omega arith)
    | inr other ↦ other
  ]

  -- what was seen with one entry more
  seen-more : (entries : List EntryValue) (entry : EntryValue) (seen : Seen) → IsSeen requester group request entries seen → may_follow seen entry.tag ≡ true
      → IsSeen requester group request (entries ++ entry ∷ []) (with_entry requester group request seen entry)
  seen-more entries entry seen is follows =
      let parts = and_parts _ _ follows in
      let behind : seen.next ≤ order_of entry.tag = leb-true _ _ parts.0 in
      let entry_short : IsShort entry.tag = ltb-true _ _ parts.1 in
      let has : EntryValue → Bool = λ e. has_all e.perms request in
      let none : (tag : Tag) → same_tag entry.tag tag ≡ true → All (λ e. same_tag e.tag tag ≡ false) entries = none-before entries entry seen is behind in
      let more : (tag : Tag) (before : Option Bool) → before ≡ answer (λ e. same_tag e.tag tag) has entries
      → cond (same_tag entry.tag tag) (Some (has entry)) before ≡ answer (λ e. same_tag e.tag tag) has (entries ++ entry ∷ []) =
      λ tag before same. ap (λ (a : Option Bool). cond (same_tag entry.tag tag) (Some (has entry)) a) same
      ∙ only-more (λ e. same_tag e.tag tag) has entries entry (λ here. list_any_none (λ (e : EntryValue). same_tag e.tag tag) entries (none tag here)) in
      record {
        canonical = canonical-more entries entry is.canonical is.short entry_short (λ k d inside. let low = is.below k d inside in omega arith);
        short = All-append (λ e. IsShort e.tag) entries (entry ∷ []) is.short (λ k d inside. one (λ e. IsShort e.tag) k d inside entry_short);
        below = All-append (λ e. order_of e.tag < order_of entry.tag + 1) entries (entry ∷ [])
            (λ k d inside. let low = is.below k d inside in omega arith) (λ k d inside. one (λ e. order_of e.tag < order_of entry.tag + 1) k d inside (omega arith));
        owner = more UserObj seen.owner is.owner;
        user = more (User requester.uid) seen.user is.user;
        group_obj = ap (λ b. cond (same_tag entry.tag GroupObj) true b) is.group_obj ∙ any-more (λ e. same_tag e.tag GroupObj) entries entry;
        groups = ap (λ (a : Option Bool). cond (is_for_group_of requester group entry.tag) (joined a (has entry)) a) is.groups
            ∙ joined-more (λ e. is_for_group_of requester group e.tag) has entries entry;
        named = ap (λ b. cond (is_named entry.tag) true b) is.named ∙ any-more (λ e. is_named e.tag) entries entry;
        mask = mask-more seen.mask (find (λ (e : EntryValue). same_tag e.tag Mask) entries) (same_tag entry.tag Mask) entry is.mask
            (λ here. find-none (λ (e : EntryValue). same_tag e.tag Mask) entries (none Mask here))
            ∙ ap (option_map (λ (e : EntryValue). e.perms)) (sym (find-append (λ (e : EntryValue). same_tag e.tag Mask) entries (entry ∷ [])));
        other = more Other seen.other is.other;
      }
    where
      one : (P : EntryValue → Type 0) (k : ℕ) (d : EntryValue) → k < length (entry ∷ []) → P entry → P (get_or (entry ∷ []) k d)
      one P k d inside holds = let first : k ≡ 0 = omega arith in rw first holds

  -- and with all that are left
  pub seen-all : (entries more : List EntryValue) (seen last : Seen) → IsSeen requester group request entries seen → all_after requester group request seen more ≡ Some last
      → IsSeen requester group request (entries ++ more) last
  seen-all entries [] seen last is end =
      let same : seen ≡ last = cc in
      subst (λ (s : Seen). IsSeen requester group request (entries ++ []) s) same (rw (append-nil entries) is)
  seen-all entries (entry ∷ more) seen last is end = elim (cases_Bool (may_follow seen entry.tag)) [
    | inl follows ↦
        let rest : all_after requester group request (with_entry requester group request seen entry) more ≡ Some last = rw follows at end in
        subst (λ (all : List EntryValue). IsSeen requester group request all last) (append_assoc entries (entry ∷ []) more)
        (seen-all (entries ++ entry ∷ []) more _ last (seen-more entries entry seen is follows) rest)
    | inr misplaced ↦ let nothing = rw misplaced at end in absurd (cc)
  ]
