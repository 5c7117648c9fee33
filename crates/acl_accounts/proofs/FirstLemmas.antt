-- The first member of each name, of a list that is sorted by names.
use Rattle.std.proofs.Common.{◌≡◌, ◌∙◌, ℕ, zero, suc, ◌+◌, ◌-◌, ◌<◌, ◌≤◌, Bool, true, false, cond, Ordering, Some, None, List, [], ◌∷◌, ◌++◌}
use Rattle.std.proofs.Common.{length, filter, take, get_or, refl, sym, subst, ap, arith, nat_cmp, bytes_eq, inl, inr, length-append, add-one}
use Rattle.std.specs.declared.cmp.Ordering.TheVariants.{Less, Equal, Greater}
use Rattle.std.specs.Cmp.Lexicographic.{slice_cmp, bytes_decides}
use Rattle.std.specs.List.{All, find, slice_get}
use Rattle.std.specs.List.Sorted.{IsSortedByKey}
use Rattle.std.specs.Option.{option_map_or, option_or}
use Rattle.std.specs.Ordering.{is_eq, is_lt, ordering_reverse}
use Rattle.std.proofs.lemmas.Bool.{cases_Bool, cases_lt, both_ways, true≢false}
use Rattle.std.proofs.lemmas.Cmp.{nat_list_cmp_total}
use Rattle.std.proofs.lemmas.List.{get_or_append_left, get_or-append-add, get_or_default}
use Rattle.std.proofs.lemmas.List.Elements.{All-append}
use Rattle.std.proofs.lemmas.List.Folds.{find-append}
use Rattle.std.proofs.lemmas.List.Sorted.{sorted_far, ranks_by}
use Rattle.std.proofs.Math.Seq.{take-suc}
use Rattle.std.proofs.lemmas.Option.{slice_get-get_or}
use Rattle.acl_names.specs.Directory.{first_of}
use Rattle.acl_names.proofs.AscendingLemmas.{first_or_none}
use Rattle.acl_names.proofs.Keys.{same_name}
use Rattle.acl_accounts.specs.Firsts.{AreFirsts}
use Rattle.acl_accounts.proofs.SortLemmas.{find-filter}

find_stays : {X : Type 0} (p : X → Bool) (old new : List X) → filter p new ≡ filter p old → find p new ≡ find p old
find_stays p old new kept = find-filter p new ∙ ap first_of kept ∙ sym (find-filter p old)

module _ {X : Type 0} (name_of : X → List ℕ) where
  -- the first members are those of any list in which the members of each name have the same order
  pub firsts_stay : (members sorted firsts : List X) → ((name : List ℕ) → filter (λ x. bytes_eq (name_of x) name) sorted ≡ filter (λ x. bytes_eq (name_of x) name) members)
      → AreFirsts name_of sorted firsts → AreFirsts name_of members firsts
  firsts_stay members sorted firsts kept are = record {
    ascends = are.ascends;
    found = λ name. are.found name ∙ find_stays (λ x. bytes_eq (name_of x) name) members sorted (kept name);
  }

  abbrev pub cmp : X → X → Ordering
  cmp x y = slice_cmp nat_cmp (name_of x) (name_of y)

  -- those of the members below i, none of which is above a member from i on
  pub record AreFirstsUpTo (members : List X) (i : ℕ) (firsts : List X) : Type 0 where
    pub firsts_are : AreFirsts name_of (take i members) firsts
    pub low : (j : ℕ) (d : X) → i ≤ j → j < length members → All (λ x. is_lt (cmp (get_or members j d) x) ≡ false) firsts

  below : (x y : X) → bytes_eq (name_of x) (name_of y) ≡ false → is_lt (cmp y x) ≡ false → cmp x y ≡ Less
  below x y apart high = go (cmp x y) refl
    where
      go : (o : Ordering) → cmp x y ≡ o → cmp x y ≡ Less
      go Less is = is
      go Equal is = absurd (both_ways _ apart (same_name (name_of x) (name_of y) ∙ ap is_eq is))
      go Greater is = absurd (both_ways _ high (ap is_lt (nat_list_cmp_total.antisymm (name_of y) (name_of x) ∙ ap ordering_reverse is)))

  -- whether the last of a list has this name
  abbrev pub ends_with : List ℕ → List X → Bool
  ends_with name xs = option_map_or (λ x. bytes_eq (name_of x) name) (slice_get xs (length xs - 1)) false

  last_has : (name : List ℕ) (xs : List X) (d : X) (t : Bool) → ends_with name xs ≡ t → 0 < length xs → bytes_eq (name_of (get_or xs (length xs - 1) d)) name ≡ t
  last_has name xs d t is some =
      sym (ap (λ o. option_map_or (λ x. bytes_eq (name_of x) name) o false) (slice_get-get_or xs (length xs - 1) d (omega arith))) ∙ is

  with_next : (members : List X) (i : ℕ) (member : X) → i < length members → get_or members i member ≡ member → take (i + 1) members ≡ take i members ++ member ∷ []
  with_next members i member inside is =
      ap (λ n. take n members) (add-one i) ∙ take-suc members i member inside ∙ ap (λ x. take i members ++ x ∷ []) is

  -- a member whose name stands last already
  pub one_again : (members : List X) (i : ℕ) (member : X) (firsts : List X) → i < length members → get_or members i member ≡ member
      → AreFirstsUpTo members i firsts → ends_with (name_of member) firsts ≡ true → AreFirstsUpTo members (i + 1) firsts
  one_again members i member firsts inside is so_far ends = record {
    firsts_are = record {
      ascends = so_far.firsts_are.ascends;
      found = λ name.
          let has : X → Bool = λ x. bytes_eq (name_of x) name in
          sym (ap (find has) (with_next members i member inside is) ∙ find-append has (take i members) (member ∷ [])
          ∙ ap (λ o. option_or o (find has (member ∷ []))) (sym (so_far.firsts_are.found name)) ∙ stays name);
    };
    low = λ j d from within. so_far.low j d (omega arith) within;
  }
    where
      last_of : (xs : List X) → ends_with (name_of member) xs ≡ true → 0 < length xs
      last_of [] e = absurd (true≢false (sym e))
      last_of (x ∷ xs) e = omega arith

      stays : (name : List ℕ) → option_or (find (λ x. bytes_eq (name_of x) name) firsts) (find (λ x. bytes_eq (name_of x) name) (member ∷ [])) ≡ find (λ x. bytes_eq (name_of x) name) firsts
      stays name =
          elim (first_or_none (λ x. bytes_eq (name_of x) name) firsts) [
            | inl (x, (found, passes)) ↦
                ap (λ o. option_or o (find (λ y. bytes_eq (name_of y) name) (member ∷ []))) found ∙ sym found
            | inr none ↦
                elim (cases_Bool (bytes_eq (name_of member) name)) [
                  | inl also ↦
                      let same : name_of member ≡ name = (bytes_decides (name_of member) name).0 also in
                      let some = last_of firsts ends in
                      let last = last_has (name_of member) firsts member true ends some in
                      absurd (both_ways _ (none.1 (length firsts - 1) member (omega (arith, some))) (subst (λ n. bytes_eq (name_of (get_or firsts (length firsts - 1) member)) n ≡ true) same last))
                  | inr other ↦
                      ap (λ o. option_or o (find (λ y. bytes_eq (name_of y) name) (member ∷ []))) none.0
                      ∙ ap (λ b. cond b (Some member) None) other ∙ sym none.0
                ]
          ]

  -- a member of a name that is new
  pub one_more : (members : List X) (i : ℕ) (member : X) (firsts : List X) → IsSortedByKey name_of (slice_cmp nat_cmp) members → i < length members
      → get_or members i member ≡ member → AreFirstsUpTo members i firsts → ends_with (name_of member) firsts ≡ false → AreFirstsUpTo members (i + 1) (firsts ++ member ∷ [])
  one_more members i member firsts sorted inside is so_far ends = record {
    firsts_are = record {
      ascends = λ a b d before within.
          let long : length (firsts ++ member ∷ []) ≡ length firsts + 1 = length-append firsts (member ∷ []) in
          elim (cases_lt b (length firsts)) [
            | inl old ↦
                rw (get_or_append_left firsts (member ∷ []) d a (omega arith), get_or_append_left firsts (member ∷ []) d b old)
                (so_far.firsts_are.ascends a b d before old)
            | inr new ↦
                let at_end : get_or (firsts ++ member ∷ []) b d ≡ member =
                ap (λ n. get_or (firsts ++ member ∷ []) n d) (place b (omega (arith, long)) new) ∙ get_or-append-add firsts (member ∷ []) 0 d in
                rw (get_or_append_left firsts (member ∷ []) d a (omega (arith, long)), at_end) (lower a d (omega (arith, long)))
          ];
      found = λ name.
          let has : X → Bool = λ x. bytes_eq (name_of x) name in
          find-append has firsts (member ∷ []) ∙ ap (λ o. option_or o (find has (member ∷ []))) (so_far.firsts_are.found name)
          ∙ sym (ap (find has) (with_next members i member inside is) ∙ find-append has (take i members) (member ∷ []));
    };
    low = λ j d from within.
        All-append (λ x. is_lt (cmp (get_or members j d) x) ≡ false) firsts (member ∷ []) (so_far.low j d (omega arith) within) (only j d from within);
  }
    where
      place : (b : ℕ) → b < length firsts + 1 → length firsts ≤ b → b ≡ length firsts + 0
      place b within new = omega arith

      at_last : (a n : ℕ) → n - 1 ≤ a → a < n → n - 1 ≡ a
      at_last a n end within = omega arith

      last_low : (d : X) → 0 < length firsts → cmp (get_or firsts (length firsts - 1) d) member ≡ Less
      last_low d some =
          below (get_or firsts (length firsts - 1) d) member (last_has (name_of member) firsts d false ends some)
          (ap (λ x. is_lt (cmp x (get_or firsts (length firsts - 1) d))) (sym is) ∙ so_far.low i member (omega arith) inside (length firsts - 1) d (omega arith))

      lower : (a : ℕ) (d : X) → a < length firsts → cmp (get_or firsts a d) member ≡ Less
      lower a d within = elim (cases_lt a (length firsts - 1)) [
        | inl before ↦ nat_list_cmp_total.trans (name_of (get_or firsts a d)) (name_of (get_or firsts (length firsts - 1) d)) (name_of member) (so_far.firsts_are.ascends a (length firsts - 1) d before (omega arith)) (last_low d (omega arith))
        | inr end ↦ subst (λ n. cmp (get_or firsts n d) member ≡ Less) (at_last a (length firsts) end within) (last_low d (omega arith))
      ]

      only : (j : ℕ) (d : X) → i + 1 ≤ j → j < length members → All (λ x. is_lt (cmp (get_or members j d) x) ≡ false) (member ∷ [])
      only j d from within zero e here =
          ap (λ x. is_lt (cmp (get_or members j d) x)) (sym (same_default d)) ∙ sorted_far (λ (x y : X). is_lt (cmp x y)) (ranks_by nat_list_cmp_total name_of) members sorted i j d (omega arith) within
        where
          same_default : (d : X) → get_or members i d ≡ member
          same_default d = get_or_default members i d member inside ∙ is
      only j d from within (suc k) e here = absurd (omega arith)
