-- Texts that are read one by one, up to a limit: what is read, what is said, and what is spelt.
use Rattle.std.proofs.Common.{◌≡◌, ◌∙◌, ◌+◌, ◌-◌, ◌<◌, ◌≤◌, ◌++◌, ◌∷◌, [], ℕ, List, Ok, Err, true, false, ltb}
use Rattle.std.proofs.Common.{ap, ap₂, refl, subst, sym, length, length-append, map, take, drop, get_or, suc}
use Rattle.std.proofs.Common.{arith, Bool, Result, if◌then◌else◌}
use Rattle.std.proofs.lemmas.List.{take_all, take-append-drop, length-map}
use Rattle.std.proofs.Math.Seq.{drop-cons, take-append-add, take-append_seam}
use Rattle.std.proofs.lemmas.Bool.Decides.{nat_tests}
use Rattle.acl_names.specs.ListText.{IsFaultOf, PiecesSay, Spells}
use Rattle.acl_names.specs.Pieces.{pieces}
use Rattle.acl_names.specs.ReadList.{at_most_read, each_read}
use Rattle.acl_names.specs.Steps.{◌>>=◌, map_fault}
use Rattle.acl_names.specs.declared.text.list.ListFault.TheVariants as list
use Rattle.acl_names.proofs.StepLemmas.{bind_ok, if_else, map_fault-bind}

-- a list is the elements before one, that one, and those after it
pub apart_at : {X : Type 0} (xs front : List X) (n : ℕ) (x : X) → front ≡ take n xs → n < length xs → x ≡ get_or xs n x
    → xs ≡ front ++ x ∷ drop (suc n) xs
apart_at xs front n x is_front within is =
    sym (take-append-drop n xs)
    ∙ ap (λ rest. take n xs ++ rest) (drop-cons xs n x within ∙ ap (λ y. y ∷ drop (suc n) xs) (sym is))
    ∙ ap (λ before. before ++ x ∷ drop (suc n) xs) (sym is_front)

module _ {A F : Type 0} (read : List ℕ → Result A F) where
  pub each_read-said : (texts : List (List ℕ)) (values : List A) → PiecesSay read texts values → each_read read texts ≡ Ok values
  each_read-said [] [] said = refl
  each_read-said [] (value ∷ values) said = cc
  each_read-said (text ∷ texts) [] said = cc
  each_read-said (text ∷ texts) (value ∷ values) said =
      let first : read text ≡ Ok value = cc in
      let more : map read texts ≡ map Ok values = cc in
      rw (first, each_read-said texts values more) refl

  each_read-Say : (texts : List (List ℕ)) (values : List A) → each_read read texts ≡ Ok values → PiecesSay read texts values
  each_read-Say [] [] is = refl
  each_read-Say [] (value ∷ values) is = cc
  each_read-Say (text ∷ texts) values is =
      let one = bind_ok (read text) (λ first. each_read read texts >>= (λ rest. Ok (first ∷ rest))) values is in
      let more = bind_ok (each_read read texts) (λ rest. Ok (one.0 ∷ rest)) values one.2 in
      let said : map read texts ≡ map Ok more.0 = each_read-Say texts more.0 more.1 in
      let all : one.0 ∷ more.0 ≡ values = cc in
      subst (PiecesSay read (text ∷ texts)) all (ap₂ (λ first rest. first ∷ rest) one.1 said)

  pub each_read-fault : (front : List (List ℕ)) (values : List A) (text : List ℕ) (rest : List (List ℕ)) (fault : F)
      → PiecesSay read front values → read text ≡ Err fault → each_read read (front ++ text ∷ rest) ≡ Err fault
  each_read-fault [] values text rest fault said is = rw is refl
  each_read-fault (other ∷ front) [] text rest fault said is = cc
  each_read-fault (other ∷ front) (value ∷ values) text rest fault said is =
      let first : read other ≡ Ok value = cc in
      let more : map read front ≡ map Ok values = cc in
      rw (first, each_read-fault front values text rest fault more is) refl

  -- there are as many values as texts
  pub length-Say : (texts : List (List ℕ)) (values : List A) → PiecesSay read texts values → length texts ≡ length values
  length-Say texts values said = sym (length-map texts read) ∙ ap length said ∙ length-map values Ok

  module _ (too_many : F) (most : ℕ) where
    -- all are read
    pub at_most_read-all : (texts : List (List ℕ)) (values : List A) → PiecesSay read texts values → length values ≤ most
        → at_most_read too_many most read texts ≡ Ok values
    unfolding at_most_read
    at_most_read-all texts values said within =
        let count = length-Say texts values said in
        let some : each_read read (take most texts) ≡ Ok values = ap (each_read read) (take_all most texts (omega arith)) ∙ each_read-said texts values said in
        let few : ltb most (length texts) ≡ false = grind (arith, nat_tests) in
        rw (some, few) refl

    -- what is read, the texts say
    pub at_most_read-said : (texts : List (List ℕ)) (values : List A) → at_most_read too_many most read texts ≡ Ok values
        → PiecesSay read texts values × (length values ≤ most)
    unfolding at_most_read
    at_most_read-said texts values is =
        let front = bind_ok (each_read read (take most texts)) (λ read_values. if ltb most (length texts) then Err too_many else Ok read_values) values is in
        let test = if_else (ltb most (length texts)) too_many front.0 values front.2 in
        let short : length texts ≤ most = grind (arith, nat_tests, test.0) in
        let whole : take most texts ≡ texts = take_all most texts short in
        let said : PiecesSay read texts values = subst (PiecesSay read texts) test.1 (each_read-Say texts front.0 (ap (each_read read) (sym whole) ∙ front.1)) in
        let count = length-Say texts values said in
        (said, omega arith)

    module _ (front : List (List ℕ)) (values : List A) (text : List ℕ) (rest : List (List ℕ)) (said : PiecesSay read front values) where
      -- as many are read as may be, and there is one more
      pub at_most_read-many : length values ≡ most → at_most_read too_many most read (front ++ text ∷ rest) ≡ Err too_many
      unfolding at_most_read
      at_most_read-many full =
          let count = length-Say front values said in
          let whole : take most (front ++ text ∷ rest) ≡ front = ap (λ n. take n (front ++ text ∷ rest)) (sym (count ∙ full)) ∙ take-append_seam front (text ∷ rest) in
          let some : each_read read (take most (front ++ text ∷ rest)) ≡ Ok values = ap (each_read read) whole ∙ each_read-said front values said in
          let longer : length (front ++ text ∷ rest) ≡ length front + suc (length rest) = length-append front (text ∷ rest) in
          let many : ltb most (length (front ++ text ∷ rest)) ≡ true = grind (arith, nat_tests) in
          rw (some, many) refl

      -- one of those that may be read doesn't
      at_most_read-fault_by : (fault : F) (n : ℕ) → length front + suc n ≡ most → read text ≡ Err fault
          → at_most_read too_many most read (front ++ text ∷ rest) ≡ Err fault
      unfolding at_most_read
      at_most_read-fault_by fault n is_most is =
          let shorter : take most (front ++ text ∷ rest) ≡ front ++ text ∷ take n rest =
          ap (λ k. take k (front ++ text ∷ rest)) (sym is_most) ∙ take-append-add front (text ∷ rest) (suc n) in
          let bad : each_read read (take most (front ++ text ∷ rest)) ≡ Err fault =
          ap (each_read read) shorter ∙ each_read-fault front values text (take n rest) fault said is in
          rw bad refl

      pub at_most_read-fault : (fault : F) → length values < most → read text ≡ Err fault
          → at_most_read too_many most read (front ++ text ∷ rest) ≡ Err fault
      at_most_read-fault fault room is =
          let count = length-Say front values said in
          at_most_read-fault_by fault (most - suc (length front)) (omega arith) is

-- A reader with the values of another, and with faults of its own.
module _ {A F G : Type 0} (value_of : List ℕ → Result A F) (read : List ℕ → Result A G) where
  Say-read : ((piece : List ℕ) (value : A) → value_of piece ≡ Ok value → read piece ≡ Ok value)
      → (texts : List (List ℕ)) (values : List A) → PiecesSay value_of texts values → PiecesSay read texts values
  Say-read as_ok [] [] said = refl
  Say-read as_ok [] (value ∷ values) said = cc
  Say-read as_ok (text ∷ texts) [] said = cc
  Say-read as_ok (text ∷ texts) (value ∷ values) said =
      let first : value_of text ≡ Ok value = cc in
      let more : map value_of texts ≡ map Ok values = cc in
      rw (as_ok text value first, Say-read as_ok texts values more) refl

  module _ (too_many : G) (most : ℕ) (text : List ℕ) where
    -- what is spelt is read
    pub read-spelt : ((piece : List ℕ) (value : A) → value_of piece ≡ Ok value → read piece ≡ Ok value)
        → (list : List A) → Spells value_of most text list → at_most_read too_many most read (pieces text) ≡ Ok list
    read-spelt as_ok list spelt = at_most_read-all read too_many most (pieces text) list (Say-read as_ok _ _ spelt.said) spelt.within

    -- the fault of the leftmost piece is reported
    pub read-fault : ((piece : List ℕ) (value : A) → value_of piece ≡ Ok value → read piece ≡ Ok value)
        → (fault : F) (becomes : G) → IsFaultOf value_of most text (list.Piece fault)
        → ((piece : List ℕ) → value_of piece ≡ Err fault → read piece ≡ Err becomes) → at_most_read too_many most read (pieces text) ≡ Err becomes
    read-fault as_ok fault becomes (values, piece, up_to, room, is) as_err =
        ap (at_most_read too_many most read) up_to.cut
        ∙ at_most_read-fault read too_many most up_to.front values piece up_to.rest (Say-read as_ok _ _ up_to.said) becomes room (as_err piece is)

    -- and so is one too many
    pub read-many : ((piece : List ℕ) (value : A) → value_of piece ≡ Ok value → read piece ≡ Ok value)
        → IsFaultOf value_of most text list.TooMany → at_most_read too_many most read (pieces text) ≡ Err too_many
    read-many as_ok (values, piece, up_to, full) =
        ap (at_most_read too_many most read) up_to.cut
        ∙ at_most_read-many read too_many most up_to.front values piece up_to.rest (Say-read as_ok _ _ up_to.said) full

-- what is read is spelt
pub spelt-read : {A F G : Type 0} (value_of : List ℕ → Result A F) (read : List ℕ → Result A G) (too_many : G) (most : ℕ) (text : List ℕ)
    → ((piece : List ℕ) (value : A) → read piece ≡ Ok value → value_of piece ≡ Ok value)
    → (list : List A) → at_most_read too_many most read (pieces text) ≡ Ok list → Spells value_of most text list
spelt-read value_of read too_many most text from_ok list is =
    let said = at_most_read-said read too_many most (pieces text) list is in
    record { said = Say-read read value_of from_ok (pieces text) list said.0; within = said.1 }

-- A reader whose faults are reported as others.
module _ {A F G : Type 0} (becomes : F → G) (read : List ℕ → Result A F) where
  abbrev reported : List ℕ → Result A G
  reported text = map_fault becomes (read text)

  each_read-map_fault : (texts : List (List ℕ)) → map_fault becomes (each_read read texts) ≡ each_read reported texts
  each_read-map_fault [] = refl
  each_read-map_fault (text ∷ more) = by_first (read text) (each_read-map_fault more)
    where
      by_first : (first : Result A F) → map_fault becomes (each_read read more) ≡ each_read reported more
          → map_fault becomes (first >>= (λ x. each_read read more >>= (λ rest. Ok (x ∷ rest)))) ≡ map_fault becomes first >>= (λ x. each_read reported more >>= (λ rest. Ok (x ∷ rest)))
      by_first (Ok x) rest = map_fault-bind becomes (each_read read more) (λ rest. Ok (x ∷ rest)) ∙ ap (λ all. all >>= (λ rest. Ok (x ∷ rest))) rest
      by_first (Err fault) rest = refl

  pub at_most_read-map_fault : (too_many : F) (most : ℕ) (texts : List (List ℕ))
      → map_fault becomes (at_most_read too_many most read texts) ≡ at_most_read (becomes too_many) most reported texts
  unfolding at_most_read
  at_most_read-map_fault too_many most texts =
      by_all (each_read read (take most texts)) (ltb most (length texts))
      ∙ ap (λ all. all >>= (λ values. if ltb most (length texts) then Err (becomes too_many) else Ok values)) (each_read-map_fault (take most texts))
    where
      by_all : (all : Result (List A) F) (b : Bool)
          → map_fault becomes (all >>= (λ values. if b then Err too_many else Ok values)) ≡ map_fault becomes all >>= (λ values. if b then Err (becomes too_many) else Ok values)
      by_all (Ok values) true = refl
      by_all (Ok values) false = refl
      by_all (Err fault) b = refl
