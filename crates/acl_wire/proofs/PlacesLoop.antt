-- Entries with all their bits one after the other, as a loop does.
use Rattle.std.proofs.Common.{◌≡◌, ◌∙◌, ℕ, ◌+◌, ◌≤◌, ◌<◌, List, [], ◌∷◌, ◌++◌, Option, Some, None, length, get_or, drop, refl, sym, ap, add-one, append_assoc, append-nil, arith, length-append, option_map}
use Rattle.std.proofs.lemmas.List.{drop_all}
use Rattle.std.proofs.Math.Seq.{drop-cons}
use Rattle.std.specs.List.{cons_option}
use Rattle.acl_nfs4.specs.Ace.{Nfsace4}
use Rattle.acl_nfs4.specs.Inheritance.{inherited_entry, inherited_list}
use Rattle.acl_nfs4.specs.ModeChange.{kept_of_entry, kept_of_list}
use Rattle.acl_nfs4.specs.declared.inheritance.Kind.{Kind}
use Rattle.acl_nfs4.proofs.ListLemmas.{drop-here}
use Rattle.acl_nfs4.proofs.ModeChangeKept.{kept-cons}
use Rattle.acl_wire.specs.Keeping.{left_of_entry, left_of_list}
use Rattle.acl_wire.specs.Kept.{kept_ace, kept_aces}
use Rattle.acl_wire.specs.RawAcesWriting.{raw_of, raws_of}
use Rattle.acl_wire.specs.declared.raw_ace.RawAce.{RawAce}
use Rattle.acl_wire.proofs.AcesLoop.{nothing}
use Rattle.acl_wire.proofs.PartsLemmas.{raws-append}

module _ (raws : List RawAce) (aces : List Nfsace4) (same : length raws ≡ length aces) (place : ℕ) where
  here : place < length raws → (ace : Nfsace4) → ace ≡ get_or aces place ace
      → kept_aces (drop place raws) (drop place aces) ≡ kept_ace (get_or raws place nothing) ace ∷ kept_aces (drop (place + 1) raws) (drop (place + 1) aces)
  unfolding kept_aces
  here more ace is =
      let one : drop place raws ≡ get_or raws place nothing ∷ drop (place + 1) raws = rw add-one (drop-cons raws place nothing more) in
      rw (one, drop-here aces place ace (omega (arith, more, same)) is) refl

  over : length raws ≤ place → kept_aces (drop place raws) (drop place aces) ≡ []
  unfolding kept_aces
  over done = rw (drop_all place raws done) refl

  -- ---- what stays beside a mode

  module _ (group : ℕ) (front whole : List RawAce) (so_far : front ++ raws_of (kept_of_list group (kept_aces (drop place raws) (drop place aces))) ≡ whole) where
    pub kept_all : length raws ≤ place → front ≡ whole
    kept_all done = sym (append-nil front) ∙ sym (ap (λ (left : List Nfsace4). front ++ raws_of (kept_of_list group left)) (over done)) ∙ so_far

    module _ (more : place < length raws) (ace : Nfsace4) (is : ace ≡ get_or aces place ace) where
      pub kept_next : (front ++ raws_of (kept_of_entry group (kept_ace (get_or raws place nothing) ace))) ++ raws_of (kept_of_list group (kept_aces (drop (place + 1) raws) (drop (place + 1) aces))) ≡ whole
      kept_next =
          let one : Nfsace4 = kept_ace (get_or raws place nothing) ace in
          let others : List Nfsace4 = kept_aces (drop (place + 1) raws) (drop (place + 1) aces) in
          append_assoc front (raws_of (kept_of_entry group one)) (raws_of (kept_of_list group others))
          ∙ ap (λ (left : List RawAce). front ++ left) (sym (raws-append (kept_of_entry group one) (kept_of_list group others)))
          ∙ ap (λ (left : List Nfsace4). front ++ raws_of left) (sym (kept-cons group one others))
          ∙ ap (λ (left : List Nfsace4). front ++ raws_of (kept_of_list group left)) (sym (here more ace is))
          ∙ so_far

      pub kept_too_long : (most : ℕ) → most < length (front ++ raws_of (kept_of_entry group (kept_ace (get_or raws place nothing) ace))) → most < length whole
      kept_too_long most long =
          omega (arith, long, ap length kept_next, length-append (front ++ raws_of (kept_of_entry group (kept_ace (get_or raws place nothing) ace))) (raws_of (kept_of_list group (kept_aces (drop (place + 1) raws) (drop (place + 1) aces)))))

  -- ---- what stays beside a mode that leaves the named

  module _ (front whole : List RawAce) (so_far : front ++ raws_of (left_of_list (kept_aces (drop place raws) (drop place aces))) ≡ whole) where
    pub left_all : length raws ≤ place → front ≡ whole
    left_all done = sym (append-nil front) ∙ sym (ap (λ (left : List Nfsace4). front ++ raws_of (left_of_list left)) (over done)) ∙ so_far

    module _ (more : place < length raws) (ace : Nfsace4) (is : ace ≡ get_or aces place ace) where
      pub left_next : (front ++ raws_of (left_of_entry (kept_ace (get_or raws place nothing) ace))) ++ raws_of (left_of_list (kept_aces (drop (place + 1) raws) (drop (place + 1) aces))) ≡ whole
      left_next =
          let one : Nfsace4 = kept_ace (get_or raws place nothing) ace in
          let others : List Nfsace4 = kept_aces (drop (place + 1) raws) (drop (place + 1) aces) in
          append_assoc front (raws_of (left_of_entry one)) (raws_of (left_of_list others))
          ∙ ap (λ (left : List RawAce). front ++ left) (sym (raws-append (left_of_entry one) (left_of_list others)))
          ∙ ap (λ (left : List Nfsace4). front ++ raws_of (left_of_list left)) (sym (here more ace is))
          ∙ so_far

      pub left_too_long : (most : ℕ) → most < length (front ++ raws_of (left_of_entry (kept_ace (get_or raws place nothing) ace))) → most < length whole
      left_too_long most long =
          omega (arith, long, ap length left_next, length-append (front ++ raws_of (left_of_entry (kept_ace (get_or raws place nothing) ace))) (raws_of (left_of_list (kept_aces (drop (place + 1) raws) (drop (place + 1) aces)))))

  -- ---- what is inherited

  module _ (kind : Kind) (front whole : List RawAce) (so_far : front ++ raws_of (inherited_list kind (kept_aces (drop place raws) (drop place aces))) ≡ whole) where
    pub inherited_all : length raws ≤ place → front ≡ whole
    inherited_all done = sym (append-nil front) ∙ sym (ap (λ (left : List Nfsace4). front ++ raws_of (inherited_list kind left)) (over done)) ∙ so_far

    module _ (more : place < length raws) (ace : Nfsace4) (is : ace ≡ get_or aces place ace) where
      abbrev others : List Nfsace4
      others = inherited_list kind (kept_aces (drop (place + 1) raws) (drop (place + 1) aces))

      parted : front ++ raws_of (cons_option (inherited_entry kind (kept_ace (get_or raws place nothing) ace)) others) ≡ whole
      parted = ap (λ (left : List Nfsace4). front ++ raws_of (inherited_list kind left)) (sym (here more ace is)) ∙ so_far

      pub inherited_next : (raw : RawAce) → Some raw ≡ option_map raw_of (inherited_entry kind (kept_ace (get_or raws place nothing) ace)) → (front ++ raw ∷ []) ++ raws_of others ≡ whole
      inherited_next raw some = append_assoc front (raw ∷ []) (raws_of others) ∙ by (inherited_entry kind (kept_ace (get_or raws place nothing) ace)) some parted
        where
          by : (entry : Option Nfsace4) → Some raw ≡ option_map raw_of entry → front ++ raws_of (cons_option entry others) ≡ whole → front ++ (raw ∷ raws_of others) ≡ whole
          by (Some entry) e whole_is = ap (λ (o : Option RawAce). front ++ cons_option o (raws_of others)) e ∙ whole_is
          by None e whole_is = cc

      pub inherited_none : None ≡ option_map raw_of (inherited_entry kind (kept_ace (get_or raws place nothing) ace)) → front ++ raws_of others ≡ whole
      inherited_none none = by (inherited_entry kind (kept_ace (get_or raws place nothing) ace)) none parted
        where
          by : (entry : Option Nfsace4) → None ≡ option_map raw_of entry → front ++ raws_of (cons_option entry others) ≡ whole → front ++ raws_of others ≡ whole
          by (Some entry) e whole_is = cc
          by None e whole_is = whole_is
