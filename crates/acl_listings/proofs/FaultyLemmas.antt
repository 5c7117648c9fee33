-- Of how many lines the entries read.
use Rattle.std.proofs.Common.{◌≡◌, ◌∙◌, ℕ, zero, suc, ◌+◌, ◌-◌, ◌≤◌, ◌==◌, Bool, true, false, cond, ◌&&◌, List, [], ◌∷◌, ◌++◌, ap, ap₂, refl, sym, subst, arith, leb, ltb, is_ok, is_some}
use Rattle.std.proofs.Common.{Some, None, Ok, Err, Option, Result, append-nil, add-one, drop, flat_map, length, length-append, take}
use Rattle.std.specs.List.{All, cons_option, filter_map, list_all}
use Rattle.std.proofs.lemmas.Bool.{and_parts}
use Rattle.std.proofs.lemmas.Bool.Decides.{nat_tests}
use Rattle.std.proofs.lemmas.List.{take-append-drop, take_all}
use Rattle.std.proofs.lemmas.List.Elements.{All-drop, All-head, filter_map-append}
use Rattle.std.proofs.lemmas.List.Folds.{list_all-append}
use Rattle.std.proofs.lemmas.List.Splits.{slice_split_none}
use Rattle.std.proofs.lemmas.Grind.{flat_map-append}
use Rattle.std.proofs.lemmas.Option.{cond_some}
use Rattle.std.proofs.Math.Bool.{and-false, and-true}
use Rattle.acl_names.specs.Bytes.{newline}
use Rattle.acl_names.specs.Names.{Names}
use Rattle.acl_names.specs.Pieces.{parts, pieces}
use Rattle.acl_names.specs.ReadList.{at_most_read, each_read}
use Rattle.acl_names.specs.Steps.{◌>>=◌, map_fault}
use Rattle.acl_listings.specs.FaultyLine.{is_entry, lines_read, most, room_behind, room_behind_line}
use Rattle.acl_listings.specs.ListLines.{line_of, pieces_in}
use Rattle.acl_listings.specs.declared.list_lines.ListKind.{ListKind}
use Rattle.acl_listings.proofs.AccessLemmas.{LacksNewline, lacks-line_of, line_pieces, parts-lack}

-- texts are all read if each is
each_ok : {A F : Type 0} (read : List ℕ → Result A F) (ok : List ℕ → Bool) → ((text : List ℕ) → is_ok (read text) ≡ ok text)
    → (texts : List (List ℕ)) → is_ok (each_read read texts) ≡ list_all ok texts
each_ok read ok same [] = refl
each_ok {A} {F} read ok same (text ∷ texts) = by_first (read text) (same text) (each_read read texts) (each_ok read ok same texts)
  where
    by_rest : (first : A) (rest : Result (List A) F) → is_ok (rest >>= (λ values. Ok (first ∷ values))) ≡ is_ok rest
    by_rest first (Ok values) = refl
    by_rest first (Err fault) = refl

    by_first : (r : Result A F) → is_ok r ≡ ok text → (rest : Result (List A) F) → is_ok rest ≡ list_all ok texts
        → is_ok (r >>= (λ first. rest >>= (λ values. Ok (first ∷ values)))) ≡ (ok text && list_all ok texts)
    by_first (Ok first) is rest more = by_rest first rest ∙ more ∙ ap (λ b. b && list_all ok texts) is
    by_first (Err fault) is rest more = ap (λ b. b && list_all ok texts) is

-- and there are no more of them than may be
pub at_most_ok : {A F : Type 0} (too_many : F) (most : ℕ) (read : List ℕ → Result A F) (ok : List ℕ → Bool) → ((text : List ℕ) → is_ok (read text) ≡ ok text)
    → (texts : List (List ℕ)) → is_ok (at_most_read too_many most read texts) ≡ (list_all ok texts && leb (length texts) most)
unfolding at_most_read
at_most_ok {A} {F} too_many most read ok same texts = by_count (ltb most (length texts)) refl
  where
    refused : List A → Result (List A) F
    refused values = Err too_many

    none : (r : Result (List A) F) → is_ok (r >>= refused) ≡ false
    none (Ok values) = refl
    none (Err fault) = refl

    all : (r : Result (List A) F) → is_ok (r >>= (λ values. Ok values)) ≡ is_ok r
    all (Ok values) = refl
    all (Err fault) = refl

    by_count : (b : Bool) → ltb most (length texts) ≡ b
        → is_ok (each_read read (take most texts) >>= (λ values. cond b (Err too_many) (Ok values))) ≡ (list_all ok texts && leb (length texts) most)
    by_count true is =
        let many : leb (length texts) most ≡ false = grind (arith, nat_tests) in
        none (each_read read (take most texts)) ∙ sym (and-false (list_all ok texts)) ∙ ap (λ b. list_all ok texts && b) (sym many)
    by_count false is =
        let few : leb (length texts) most ≡ true = grind (arith, nat_tests) in
        let short : length texts ≤ most = grind (arith, nat_tests) in
        all (each_read read (take most texts)) ∙ ap (λ front. is_ok (each_read read front)) (take_all most texts short)
        ∙ each_ok read ok same texts ∙ sym (and-true (list_all ok texts)) ∙ ap (λ b. list_all ok texts && b) (sym few)

-- a list is cut at an element
pub taken_next : {X : Type 0} (xs : List X) (n : ℕ) (x : X) (rest : List X) → drop n xs ≡ x ∷ rest
    → (take (suc n) xs ≡ take n xs ++ x ∷ []) × (rest ≡ drop (suc n) xs)
taken_next [] zero x rest is = cc
taken_next [] (suc n) x rest is = cc
taken_next (y ∷ ys) zero x rest is =
    let same : y ≡ x = cc in
    let more : rest ≡ ys = cc in
    (ap (λ z. z ∷ []) same, more)
taken_next (y ∷ ys) (suc n) x rest is =
    let further = taken_next ys n x rest is in
    (ap (λ zs. y ∷ zs) further.0, further.1)

-- a line is one line
pieces-line : (line : List ℕ) → LacksNewline line → pieces line ≡ line_pieces line
pieces-line line lacks = ap (flat_map line_pieces) (slice_split_none (λ x. x == newline) line lacks) ∙ append-nil (line_pieces line)

pub reported_ok : {A F G : Type 0} (becomes : F → G) (r : Result A F) → is_ok (map_fault becomes r) ≡ is_ok r
reported_ok becomes (Ok value) = refl
reported_ok becomes (Err fault) = refl

-- what is wrong with the first of two texts is wrong with both
and_more : (a b a' b' : Bool) → (a && b) ≡ false → (b ≡ false → b' ≡ false) → ((a && a') && b') ≡ false
and_more true b a' b' bad less = go a' (less bad)
  where
    go : (a' : Bool) → b' ≡ false → ((true && a') && b') ≡ false
    go true e = e
    go false e = refl
and_more false b a' b' bad less = refl

module _ (names : Names) (kind : ListKind) where
  abbrev reads : List ℕ → Bool
  reads piece = is_entry names kind piece

  abbrev line_part : Option (List ℕ) → List (List ℕ)
  line_part None = []
  line_part (Some text) = line_pieces text

  pieces_in-append : (xs ys : List (List ℕ)) → pieces_in kind (xs ++ ys) ≡ pieces_in kind xs ++ pieces_in kind ys
  pieces_in-append xs ys =
      ap (flat_map line_pieces) (filter_map-append (line_of kind) xs ys)
      ∙ flat_map-append line_pieces (filter_map (line_of kind) xs) (filter_map (line_of kind) ys)

  pieces_in-one : (line : List ℕ) (found : Option (List ℕ)) → line_of kind line ≡ found → pieces_in kind (line ∷ []) ≡ line_part found
  pieces_in-one line None is = ap (λ text. flat_map line_pieces (cons_option text [])) is
  pieces_in-one line (Some text) is = ap (λ text. flat_map line_pieces (cons_option text [])) is ∙ append-nil (line_pieces text)

  room-none : (room : ℕ) → room_behind names kind room [] ≡ Some room
  room-none room =
      let fits : leb 0 room ≡ true = grind (arith, nat_tests) in
      let whole : room - 0 ≡ room = omega arith in
      ap₂ (λ b n. cond b (Some n) None) fits whole

  -- behind some pieces come others
  room-append : (room left : ℕ) (xs ys : List (List ℕ)) → room_behind names kind room xs ≡ Some left → room_behind names kind room (xs ++ ys) ≡ room_behind names kind left ys
  room-append room left xs ys is =
      let found = cond_some (list_all reads xs && leb (length xs) room) (room - length xs) left is in
      let each = and_parts (list_all reads xs) (leb (length xs) room) found.0 in
      let short : length xs ≤ room = grind (arith, nat_tests, each.1) in
      let count : length (xs ++ ys) ≡ length xs + length ys = length-append xs ys in
      let same : list_all reads (xs ++ ys) ≡ list_all reads ys = list_all-append reads xs ys ∙ ap (λ b. b && list_all reads ys) each.0 in
      let fits : leb (length (xs ++ ys)) room ≡ leb (length ys) left = grind (arith, nat_tests, count, short, found.1) in
      let less : room - length (xs ++ ys) ≡ left - length ys = omega (arith, count, short, found.1) in
      ap₂ (λ b n. cond b (Some n) None) (ap₂ (λ a b. a && b) same fits) less

  -- lines read if there is room behind their pieces
  pub read-room : (lines : List (List ℕ)) → lines_read names kind lines ≡ is_some (room_behind names kind (most kind) (pieces_in kind lines))
  read-room lines = sym (some_if (lines_read names kind lines) (most kind - length (pieces_in kind lines)))
    where
      some_if : (b : Bool) (n : ℕ) → is_some (cond b (Some n) None) ≡ b
      some_if true n = refl
      some_if false n = refl

  -- and if the front of them doesn't, they don't
  pub front_fails : (n : ℕ) (lines : List (List ℕ)) → lines_read names kind (take n lines) ≡ false → lines_read names kind lines ≡ false
  front_fails n lines bad =
      let xs = pieces_in kind (take n lines) in
      let ys = pieces_in kind (drop n lines) in
      let whole : pieces_in kind lines ≡ xs ++ ys = ap (pieces_in kind) (sym (take-append-drop n lines)) ∙ pieces_in-append (take n lines) (drop n lines) in
      let count : length (xs ++ ys) ≡ length xs + length ys = length-append xs ys in
      ap (λ texts. list_all reads texts && leb (length texts) (most kind)) whole
      ∙ ap (λ b. b && leb (length (xs ++ ys)) (most kind)) (list_all-append reads xs ys)
      ∙ and_more (list_all reads xs) (leb (length xs) (most kind)) (list_all reads ys) (leb (length (xs ++ ys)) (most kind)) bad
      (λ long. grind (arith, nat_tests, count, long))

  module _ (list : List ℕ) (before room : ℕ) (line : List ℕ) (rest : List (List ℕ)) (here : drop before (parts newline list) ≡ line ∷ rest)
      (read : room_behind names kind (most kind) (pieces_in kind (take before (parts newline list))) ≡ Some room) where
    room-part : (found : Option (List ℕ)) → line_of kind line ≡ found → room_behind names kind room (line_part found) ≡ room_behind_line names kind room found
    room-part None is = room-none room
    room-part (Some text) is =
        let lacks : LacksNewline line = All-head LacksNewline line rest (subst (All LacksNewline) here (All-drop LacksNewline before (parts newline list) (parts-lack list))) in
        ap (room_behind names kind room) (sym (pieces-line text (lacks-line_of kind line text lacks is)))

    -- behind the line there is as much room as it leaves
    pub room-next : room_behind names kind (most kind) (pieces_in kind (take (before + 1) (parts newline list))) ≡ room_behind_line names kind room (line_of kind line)
    room-next =
        let lines = parts newline list in
        let one_more : take (before + 1) lines ≡ take before lines ++ line ∷ [] = rw add-one (taken_next lines before line rest here).0 in
        ap (λ ls. room_behind names kind (most kind) (pieces_in kind ls)) one_more
        ∙ ap (room_behind names kind (most kind)) (pieces_in-append (take before lines) (line ∷ [])
        ∙ ap (λ ps. pieces_in kind (take before lines) ++ ps) (pieces_in-one line (line_of kind line) refl))
        ∙ room-append (most kind) room (pieces_in kind (take before lines)) (line_part (line_of kind line)) read
        ∙ room-part (line_of kind line) refl
