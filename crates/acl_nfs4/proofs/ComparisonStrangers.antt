-- Of more numbers than there are entries and users who are known, no entry asks for one that isn't known.
use Rattle.std.proofs.Common.{◌≡◌, ◌≢◌, ◌≤◌, ◌+◌, ◌-◌, ◌<◌, ◌==◌, ℕ, zero, suc, Bool, true, false, cond, not, ap, inl, inr}
use Rattle.std.proofs.Common.{◌&&◌, ◌||◌, refl, sym, ap₂, ◌∙◌, List, [], ◌∷◌, ◌++◌, Option, Some, None}
use Rattle.std.proofs.Common.{length, length-append, map, arith}
use Rattle.std.specs.List.{list_any, filter}
use Rattle.std.specs.Prelude.{nat_le}
use Rattle.std.proofs.lemmas.Bool.{true≢false, eqb-true, leb-true}
use Rattle.std.proofs.lemmas.Bool.Decides.{leb_tells}
use Rattle.std.proofs.lemmas.List.{length-map}
use Rattle.std.proofs.lemmas.List.Folds.{list_any-append}
use Rattle.acl_names.specs.declared.limits.TheConstants.{NOBODY}
use Rattle.acl_names.proofs.LettersInTurn.{same_either_way}
use Rattle.acl_names.proofs.AnyLemmas.{list_any-agree, list_any-filter, list_any-map, list_any-weaken}
use Rattle.acl_names.specs.Requester.{Identity}
use Rattle.acl_nfs4.specs.Comparison.{asks_for, is_known, is_needed, needed_uid, needs_user, tried}
use Rattle.acl_nfs4.specs.declared.who.Who.{Who}
use Rattle.acl_nfs4.specs.declared.who.Who.TheVariants.{Owner, Group, Everyone, User, NamedGroup}

abbrev is_at : ℕ → Option ℕ → Bool
is_at k (Some n) = n == k
is_at k None = false

module _ {X : Type 0} where
  fewer : (t : X → Bool) (xs : List X) → length (filter t xs) ≤ length xs
  fewer t [] = omega arith
  fewer t (x ∷ xs) = go (fewer t xs) (t x)
    where
      go : length (filter t xs) ≤ length xs → (b : Bool) → length (cond b (x ∷ filter t xs) (filter t xs)) ≤ length (x ∷ xs)
      go rest true = omega arith
      go rest false = omega arith

  -- without those that pass there is one fewer, if one passes
  one_fewer : (t : X → Bool) (xs : List X) → list_any t xs ≡ true → length (filter (λ x. not (t x)) xs) + 1 ≤ length xs
  one_fewer t [] any = absurd (true≢false (sym any))
  one_fewer t (x ∷ xs) any = go (one_fewer t xs) (fewer (λ y. not (t y)) xs) (t x) any
    where
      go : (list_any t xs ≡ true → length (filter (λ y. not (t y)) xs) + 1 ≤ length xs)
          → length (filter (λ y. not (t y)) xs) ≤ length xs
          → (b : Bool) → (b || list_any t xs) ≡ true
          → length (cond (not b) (x ∷ filter (λ y. not (t y)) xs) (filter (λ y. not (t y)) xs)) + 1 ≤ length (x ∷ xs)
      go rest below true any = omega arith
      go rest below false any = let h = rest any in omega (arith, h)

  others_stay : (f : X → Option ℕ) (k n : ℕ) → k ≢ n → (xs : List X) → list_any (λ x. is_at k (f x)) xs ≡ true
      → list_any (λ x. is_at k (f x)) (filter (λ x. not (is_at n (f x))) xs) ≡ true
  others_stay f k n apart xs any =
      sym (list_any-filter (λ x. not (is_at n (f x))) (λ x. is_at k (f x)) xs)
      ∙ list_any-weaken (λ x. is_at k (f x)) (λ x. not (is_at n (f x)) && is_at k (f x)) (λ x. go (f x)) xs any
    where
      differs : (m : ℕ) → (m == k) ≡ true → (b : Bool) → (m == n) ≡ b → (not b && (m == k)) ≡ true
      differs m is false e = is
      differs m is true e = absurd (apart (sym (eqb-true m k is) ∙ eqb-true m n e))

      go : (o : Option ℕ) → is_at k o ≡ true → (not (is_at n o) && is_at k o) ≡ true
      go None is = absurd (true≢false (sym is))
      go (Some m) is = differs m is (m == n) refl

  -- if each of n numbers that differ is that of an element, there are at least n elements
  enough : (f : X → Option ℕ) (numbers : ℕ → ℕ) (n : ℕ) (xs : List X)
      → ((j k : ℕ) → j < k → k < n → numbers j ≢ numbers k)
      → ((k : ℕ) → k < n → list_any (λ x. is_at (numbers k) (f x)) xs ≡ true) → n ≤ length xs
  enough f numbers zero xs apart each = omega arith
  enough f numbers (suc n) xs apart each =
      let here : list_any (λ (x : X). is_at (numbers n) (f x)) xs ≡ true = each n (omega arith) in
      let dropped = one_fewer (λ (x : X). is_at (numbers n) (f x)) xs here in
      let rest : n ≤ length (filter (λ (x : X). not (is_at (numbers n) (f x))) xs) =
      enough f numbers n (filter (λ x. not (is_at (numbers n) (f x))) xs)
      (λ j k before below. apart j k before (omega (arith, below)))
      (λ k below. others_stay f (numbers k) (numbers n) (apart k n below (omega arith)) xs (each k (omega (arith, below)))) in
      omega (arith, dropped, rest)

-- users who are tried in different turns are different users
pub tried_apart : (n : ℕ) → (j k : ℕ) → j < k → k < n → tried j ≢ tried k
tried_apart n j k before below same = go (nat_le j NOBODY) refl (nat_le k NOBODY) refl
  where
    turn : (place : ℕ) (b : Bool) → nat_le place NOBODY ≡ b → tried place ≡ cond b (NOBODY - place) place
    turn place b is = ap (λ low. cond low (NOBODY - place) place) is

    above : (place : ℕ) → nat_le place NOBODY ≡ false → NOBODY < place
    above place high = elim (leb_tells place NOBODY) [
      | inl low ↦ absurd (true≢false (sym low.0 ∙ high))
      | inr other ↦ other.1
    ]

    go : (a : Bool) → nat_le j NOBODY ≡ a → (b : Bool) → nat_le k NOBODY ≡ b → ⊥
    go true low true also =
        let first : j ≤ 65534 = leb-true j 65534 low in
        let e : 65534 - j ≡ 65534 - k = sym (turn j true low) ∙ same ∙ turn k true also in
        let second : k ≤ 65534 = leb-true k 65534 also in
        omega (arith, first, second, before, e)
    go true low false high =
        let second : 65534 < k = above k high in
        let e : 65534 - j ≡ k = sym (turn j true low) ∙ same ∙ turn k false high in
        omega (arith, second, e)
    go false high true low =
        let first : 65534 < j = above j high in
        let second : k ≤ 65534 = leb-true k 65534 low in
        omega (arith, first, second, before)
    go false high false also =
        let e : j ≡ k = sym (turn j false high) ∙ same ∙ turn k false also in
        omega (arith, before, e)

-- who asks for a user asks for that user's uid
asked_uid : (owner uid : ℕ) (who : Who) → needs_user owner uid who ≡ is_at uid (needed_uid owner who)
asked_uid owner uid Owner = refl
asked_uid owner uid (User named) = refl
asked_uid owner uid Group = refl
asked_uid owner uid Everyone = refl
asked_uid owner uid (NamedGroup gid) = refl

-- uid 0, and those who are known
abbrev users_known : List Identity → List (Option ℕ)
users_known known = Some 0 ∷ map (λ one. Some one.uid) known

among_known : (uid : ℕ) (known : List Identity) → list_any (is_at uid) (users_known known) ≡ is_known known uid
among_known uid known =
    ap₂ (λ a b. a || b) (same_either_way 0 uid) (list_any-map (is_at uid) (λ (one : Identity). Some one.uid) known)

module _ {E : Type 0} (who : E → Who) where
  asked : (owner uid : ℕ) (entries : List E) → list_any (λ entry. is_at uid (needed_uid owner (who entry))) entries ≡ asks_for who owner uid entries
  asked owner uid entries =
      list_any-agree (λ (entry : E). is_at uid (needed_uid owner (who entry))) (λ (entry : E). needs_user owner uid (who entry))
      (λ entry. sym (asked_uid owner uid (who entry))) entries

  -- the users that entries ask for
  abbrev users_asked : ℕ → List E → List (Option ℕ)
  users_asked owner entries = map (λ entry. needed_uid owner (who entry)) entries

  among_users : (owner uid : ℕ) (entries : List E) → list_any (is_at uid) (users_asked owner entries) ≡ asks_for who owner uid entries
  among_users owner uid entries = list_any-map (is_at uid) (λ (entry : E). needed_uid owner (who entry)) entries ∙ asked owner uid entries

  -- two lists can't ask for more users than they have entries, nor can more be known
  pub asked_few : (owner other_owner n : ℕ) (first second : List E) (known : List Identity)
      → ((k : ℕ) → k < n → (is_needed who first owner second other_owner (tried k) || is_known known (tried k)) ≡ true)
      → n ≤ length first + length second + length known + 1
  asked_few owner other_owner n first second known each =
      let asked : List (Option ℕ) = users_asked owner first ++ users_asked other_owner second in
      let users : List (Option ℕ) = asked ++ users_known known in
      let all : n ≤ length users =
      enough (λ (user : Option ℕ). user) tried n users (tried_apart n)
      (λ k below. list_any-append (is_at (tried k)) asked (users_known known)
      ∙ ap₂ (λ a b. a || b)
      (list_any-append (is_at (tried k)) (users_asked owner first) (users_asked other_owner second)
      ∙ ap₂ (λ a b. a || b) (among_users owner (tried k) first) (among_users other_owner (tried k) second))
      (among_known (tried k) known)
      ∙ each k below) in
      omega (
        arith,
        all,
        length-append asked (users_known known),
        length-append (users_asked owner first) (users_asked other_owner second),
        length-map first (λ (entry : E). needed_uid owner (who entry)),
        length-map second (λ (entry : E). needed_uid other_owner (who entry)),
        length-map known (λ (one : Identity). Some one.uid),
      )
