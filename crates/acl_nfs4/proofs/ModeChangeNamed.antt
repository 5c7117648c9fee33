-- The whos that a list names, as its entries come one by one: what a loop over the entries keeps.
use Rattle.std.proofs.Common.{ℕ, ◌+◌, ◌<◌, ap₂, take, drop, get_or, length, add-one, append_assoc, ◌≡◌, Bool}
use Rattle.std.proofs.Common.{true, false, cond, not, ◌&&◌, ◌||◌, refl, sym, ap, ◌∙◌, List, [], ◌∷◌, ◌++◌}
use Rattle.std.proofs.Common.{append-nil, take-suc, take-append-drop, filter, map, flat_map, true≢false}
use Rattle.std.specs.List.{list_any}
use Rattle.std.proofs.lemmas.Grind.{flat_map-append}
use Rattle.std.proofs.lemmas.List.Elements.{filter-append}
use Rattle.std.proofs.lemmas.List.{map-append}
use Rattle.acl_nfs4.specs.Ace.{decides, Nfsace4}
use Rattle.acl_nfs4.specs.Who.{is_special, same_who}
use Rattle.acl_nfs4.specs.ModeChange.{without_repeats, named_whos, names, names_someone}
use Rattle.acl_nfs4.specs.declared.who.Who.{Who}
use Rattle.acl_nfs4.proofs.ModeChangeDenials.{member, same_who-refl, same_who-true, member-distinct, member-named_in}

same_who-sym : (who other : Who) → same_who who other ≡ same_who other who
same_who-sym who other = go (same_who who other) refl (same_who other who) refl
  where
    go : (a : Bool) → same_who who other ≡ a → (b : Bool) → same_who other who ≡ b → a ≡ b
    go true ea true eb = refl
    go false ea false eb = refl
    go true ea false eb =
        absurd (true≢false (sym (ap (λ w. same_who other w) (same_who-true who other ea) ∙ same_who-refl other) ∙ eb))
    go false ea true eb =
        absurd (true≢false (sym (ap (λ w. same_who who w) (same_who-true other who eb) ∙ same_who-refl who) ∙ ea))

-- one more who is added if it is not there
pub distinct-push : (whos : List Who) (who : Who) → without_repeats (whos ++ who ∷ []) ≡ cond (member who whos) (without_repeats whos) (without_repeats whos ++ who ∷ [])
distinct-push [] who = refl
distinct-push (first ∷ whos) who =
    ap (λ xs. first ∷ filter (λ other. not (same_who other first)) xs) (distinct-push whos who)
    ∙ go (member who whos) (same_who first who) (same_who-sym first who)
  where
    go : (m s : Bool) → s ≡ same_who who first
        → first ∷ filter (λ other. not (same_who other first)) (cond m (without_repeats whos) (without_repeats whos ++ who ∷ []))
        ≡ cond (s || m) (without_repeats (first ∷ whos)) (without_repeats (first ∷ whos) ++ who ∷ [])
    go true true e = refl
    go true false e = refl
    go false true e =
        ap (λ xs. first ∷ xs)
        (filter-append (λ other. not (same_who other first)) (without_repeats whos) (who ∷ [])
        ∙ ap (λ b. filter (λ other. not (same_who other first)) (without_repeats whos) ++ cond (not b) (who ∷ []) []) (sym e)
        ∙ append-nil (filter (λ other. not (same_who other first)) (without_repeats whos)))
    go false false e =
        ap (λ xs. first ∷ xs)
        (filter-append (λ other. not (same_who other first)) (without_repeats whos) (who ∷ [])
        ∙ ap (λ b. filter (λ other. not (same_who other first)) (without_repeats whos) ++ cond (not b) (who ∷ []) []) (sym e))

-- one more entry names a who that no entry before it names, or names nobody new
pub named_in-push : (aces : List Nfsace4) (ace : Nfsace4)
    → named_whos (aces ++ ace ∷ [])
    ≡ cond (decides ace && not (is_special ace.who))
    (cond (list_any (names ace.who) aces) (named_whos aces) (named_whos aces ++ ace.who ∷ []))
    (named_whos aces)
named_in-push aces ace =
    ap (λ xs. without_repeats (map (λ (other : Nfsace4). other.who) xs)) (filter-append (λ other. decides other && not (is_special other.who)) aces (ace ∷ []))
    ∙ go (decides ace && not (is_special ace.who))
  where
    naming : List Nfsace4
    naming = filter (λ other. decides other && not (is_special other.who)) aces

    go : (b : Bool)
        → without_repeats (map (λ (other : Nfsace4). other.who) (naming ++ cond b (ace ∷ []) []))
        ≡ cond b (cond (list_any (names ace.who) aces) (named_whos aces) (named_whos aces ++ ace.who ∷ [])) (named_whos aces)
    go true =
        ap without_repeats (map-append (λ (other : Nfsace4). other.who) naming (ace ∷ []))
        ∙ distinct-push (map (λ (other : Nfsace4). other.who) naming) ace.who
        ∙ ap (λ m. cond m (named_whos aces) (named_whos aces ++ ace.who ∷ []))
        (sym (member-distinct ace.who (map (λ (other : Nfsace4). other.who) naming)) ∙ member-named_in ace.who aces)
    go false = ap (λ xs. without_repeats (map (λ (other : Nfsace4). other.who) xs)) (append-nil naming)

-- one entry further down a list
pub named_in-next : (aces : List Nfsace4) (i : ℕ) (ace : Nfsace4) → i < length aces → ace ≡ get_or aces i ace
    → named_whos (take (i + 1) aces)
    ≡ cond (names_someone ace)
    (cond (list_any (names ace.who) (take i aces)) (named_whos (take i aces)) (named_whos (take i aces) ++ ace.who ∷ []))
    (named_whos (take i aces))
named_in-next aces i ace inside here =
    ap named_whos (rw add-one (take-suc aces i ace inside ∙ ap (λ x. take i aces ++ x ∷ []) (sym here)))
    ∙ named_in-push (take i aces) ace

-- more entries name no fewer
named_in-more : (xs ys : List Nfsace4) → (rest : List Who) × (named_whos (xs ++ ys) ≡ named_whos xs ++ rest)
named_in-more xs [] = ([], ap named_whos (append-nil xs) ∙ sym (append-nil (named_whos xs)))
named_in-more xs (y ∷ ys) =
    let further = named_in-more (xs ++ y ∷ []) ys in
    let new = added (names_someone y) (list_any (names y.who) xs) in (
      new.0 ++ further.0,
      ap named_whos (sym (append_assoc xs (y ∷ []) ys)) ∙ further.1
          ∙ ap (λ zs. zs ++ further.0) (named_in-push xs y ∙ new.1)
          ∙ append_assoc (named_whos xs) new.0 further.0,
    )
  where
    added : (someone before : Bool)
        → (rest : List Who) × (cond someone (cond before (named_whos xs) (named_whos xs ++ y.who ∷ [])) (named_whos xs) ≡ named_whos xs ++ rest)
    added true true = ([], sym (append-nil (named_whos xs)))
    added true false = (y.who ∷ [], refl)
    added false before = ([], sym (append-nil (named_whos xs)))

module _ (f : Who → List Nfsace4) (aces : List Nfsace4) (i : ℕ) (ace : Nfsace4) (inside : i < length aces) (here : ace ≡ get_or aces i ace) where
  -- what is made for whom the entries name, if an entry names someone new
  pub made-new : names_someone ace ≡ true → list_any (names ace.who) (take i aces) ≡ false
      → flat_map f (named_whos (take (i + 1) aces)) ≡ flat_map f (named_whos (take i aces)) ++ f ace.who
  made-new someone new =
      ap (flat_map f)
      (named_in-next aces i ace inside here
      ∙ ap₂ (λ s b. cond s (cond b (named_whos (take i aces)) (named_whos (take i aces) ++ ace.who ∷ [])) (named_whos (take i aces))) someone new)
      ∙ flat_map-append f (named_whos (take i aces)) (ace.who ∷ [])
      ∙ ap (λ xs. flat_map f (named_whos (take i aces)) ++ xs) (append-nil (f ace.who))

  -- if it names someone who was named before
  pub made-again : list_any (names ace.who) (take i aces) ≡ true
      → flat_map f (named_whos (take (i + 1) aces)) ≡ flat_map f (named_whos (take i aces))
  made-again before =
      ap (flat_map f)
      (named_in-next aces i ace inside here
      ∙ ap (λ b. cond (names_someone ace) (cond b (named_whos (take i aces)) (named_whos (take i aces) ++ ace.who ∷ [])) (named_whos (take i aces))) before
      ∙ same (names_someone ace))
    where
      same : (s : Bool) → cond s (named_whos (take i aces)) (named_whos (take i aces)) ≡ named_whos (take i aces)
      same true = refl
      same false = refl

  -- and if it names nobody
  pub made-none : names_someone ace ≡ false → flat_map f (named_whos (take (i + 1) aces)) ≡ flat_map f (named_whos (take i aces))
  made-none none =
      ap (flat_map f)
      (named_in-next aces i ace inside here
      ∙ ap (λ s. cond s (cond (list_any (names ace.who) (take i aces)) (named_whos (take i aces)) (named_whos (take i aces) ++ ace.who ∷ [])) (named_whos (take i aces))) none)

  -- what is made for someone new stands in the whole, with the rest after it
  pub made-ahead : names_someone ace ≡ true → list_any (names ace.who) (take i aces) ≡ false
      → (rest : List Nfsace4) × (flat_map f (named_whos (take i aces)) ++ (f ace.who ++ rest) ≡ flat_map f (named_whos aces))
  made-ahead someone new =
      let more = named_in-more (take (i + 1) aces) (drop (i + 1) aces) in (
        flat_map f more.0,
        sym (append_assoc (flat_map f (named_whos (take i aces))) (f ace.who) (flat_map f more.0))
            ∙ ap (λ xs. xs ++ flat_map f more.0) (sym (made-new someone new))
            ∙ sym (flat_map-append f (named_whos (take (i + 1) aces)) more.0)
            ∙ ap (flat_map f) (sym more.1 ∙ ap named_whos (take-append-drop (i + 1) aces)),
      )
