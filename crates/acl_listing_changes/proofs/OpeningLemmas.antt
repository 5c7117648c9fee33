-- What is said of the listing before, one block more at a time.
use Rattle.std.proofs.Common.{◌≡◌, ◌∙◌, ◌+◌, ◌++◌, ◌<◌, ◌≤◌, ◌⊎◌, ℕ, suc, zero, Bool, true, false, List, [], ◌∷◌, Option, None, Some, ap, append_assoc, append-nil, arith, get_or, inl, inr, is_none, is_some, length, length-append, refl, subst, sym, take}
use Rattle.std.specs.Prelude.{slice_get}
use Rattle.std.proofs.lemmas.Bool.{cases_lt, true≢false}
use Rattle.std.proofs.lemmas.List.{get_or-append-add, get_or_append_left, get_or_past}
use Rattle.acl_names.specs.Names.{Names}
use Rattle.acl_listings.specs.Listing.{Block}
use Rattle.acl_listings.specs.declared.fault.BlockFault.{BlockFault}
use Rattle.acl_reports.specs.Listed.{AreSaid, IsSaid, Item, counted}
use Rattle.acl_reports.specs.Strangers.{with_stranger}
use Rattle.acl_reports.specs.declared.strangers.Strangers.{Strangers}
use Rattle.acl_reports.specs.declared.tally.Tally.{Tally}
use Rattle.acl_listing_changes.specs.ChangeSteps.{AreKnown, IsKnown, IsOpenedTo, known_at, known_by}
use Rattle.acl_listing_changes.specs.Changes.{Wording, fault_before, item_of, items_of, part_of, strangers_of, tally_of, unless_repeated}
use Rattle.acl_listing_changes.specs.declared.between.known.Known.{Known}
use Rattle.acl_listing_changes.specs.declared.between.known.Known.TheVariants as known
use Rattle.acl_listing_changes.specs.Kept.{is_earlier, place_of}
use Rattle.acl_listing_changes.proofs.ChangeLemmas.{items_more, strangers_more, tally_more}
use Rattle.acl_listing_changes.proofs.PlacedLemmas.{put}
use Rattle.acl_listing_changes.proofs.PlacesLemmas.{earlier_repeats}
use Rattle.acl_listing_changes.proofs.SidesLemmas.{some_repeated}

said_more : (name : List ℕ) (names : Names) (items : List Item) (said : List ℕ) → AreSaid name names items said → (item : Item) (more : List ℕ) → IsSaid name names item.block item.part more
    → AreSaid name names (items ++ item ∷ []) (said ++ more)
said_more name names [] said none item more is = (more, [], is, refl, ap (λ said. said ++ more) none ∙ sym (append-nil more))
said_more name names (first ∷ items) said (one, rest, here, all, same) item more is =
    (one, rest ++ more, here, said_more name names items rest all item more is, ap (λ said. said ++ more) same ∙ append_assoc one rest more)

take_one : (blocks : List Block) (place : ℕ) (here : Block) → slice_get blocks place ≡ Some here → take (suc place) blocks ≡ take place blocks ++ here ∷ []
take_one [] place here is = cc
take_one (block ∷ blocks) zero here is =
    let same : block ≡ here = cc in
    ap (λ (one : Block). one ∷ []) same
take_one (block ∷ blocks) (suc place) here is = ap (λ blocks. block ∷ blocks) (take_one blocks place here is)

module _ (wording : Wording) (name : List ℕ) (blocks : List Block) where
  pub opened_to_more : (place : ℕ) (here : Block) (said : List ℕ) (tally : Tally) (strangers : Strangers) → slice_get blocks place ≡ Some here → IsOpenedTo wording name blocks place said tally strangers
      → (fault : Option BlockFault) → fault ≡ unless_repeated (is_earlier place (place_of blocks here.text)) (wording.fault here.text)
      → (more said' : List ℕ) → IsSaid name wording.names here (part_of fault) more → said' ≡ said ++ more → (tally' : Tally) → tally' ≡ counted tally here.text fault
      → (strangers' : Strangers) → strangers' ≡ with_stranger strangers here.line (wording.stranger here.text)
      → IsOpenedTo wording name blocks (place + 1) said' tally' strangers'
  opened_to_more place here said tally strangers there was fault fault_is more said' is said_is tally' tally_is strangers' strangers_are =
      let earlier = take place blocks in
      let same : fault ≡ fault_before wording (put earlier here) = fault_is ∙ ap (λ b. unless_repeated b (wording.fault here.text)) (earlier_repeats blocks place here.text) in
      let one : place + 1 ≡ suc place = omega arith in
      let grown : take (place + 1) blocks ≡ earlier ++ here ∷ [] = ap (λ n. take n blocks) one ∙ take_one blocks place here there in
      let item : Item = item_of (fault_before wording) (put earlier here) in
      let is_item : IsSaid name wording.names item.block item.part more = subst (λ fault. IsSaid name wording.names here (part_of fault) more) same is in
      let all : AreSaid name wording.names (items_of (fault_before wording) earlier ++ item ∷ []) (said ++ more) =
      said_more name wording.names (items_of (fault_before wording) earlier) said was.said_are item more is_item in
      record {
        said_are = subst (λ said. AreSaid name wording.names (items_of (fault_before wording) (take (place + 1) blocks)) said) (sym said_is)
            (subst (λ blocks. AreSaid name wording.names (items_of (fault_before wording) blocks) (said ++ more)) (sym grown)
            (subst (λ items. AreSaid name wording.names items (said ++ more)) (sym (items_more (fault_before wording) earlier here)) all));
        tally_is = tally_is ∙ ap (λ tally. counted tally here.text fault) was.tally_is
            ∙ ap (counted (tally_of (items_of (fault_before wording) earlier)) here.text) same
            ∙ sym (tally_more (fault_before wording) earlier here)
            ∙ ap (λ blocks. tally_of (items_of (fault_before wording) blocks)) (sym grown);
        strangers_are = strangers_are
            ∙ ap (λ (strangers : Strangers). with_stranger strangers here.line (wording.stranger here.text)) was.strangers_are
            ∙ sym (strangers_more wording (fault_before wording) earlier here)
            ∙ ap (λ blocks. strangers_of wording (items_of (fault_before wording) blocks)) (sym grown);
      }

-- what is known of one block more
module _ (wording : Wording) (blocks : List Block) where
  none_wrong : (repeated : Bool) (fault here : Option BlockFault) → fault ≡ unless_repeated repeated here → is_none fault ≡ true → here ≡ None
  none_wrong false None here is none = sym is
  none_wrong false (Some fault) here is none = cc
  none_wrong true fault here is none = absurd (true≢false (sym none ∙ ap is_none is ∙ some_repeated here))

  nothing_known : (text : List ℕ) → IsKnown wording text known.Nothing
  nothing_known text = λ found there. cc

  pub known_rightly : (text : List ℕ) (repeated : Bool) (fault : Option BlockFault) → fault ≡ unless_repeated repeated (wording.fault text) → (strange : Bool)
      → strange ≡ is_some (wording.stranger text) → IsKnown wording text (known_by fault strange)
  known_rightly text repeated (Some fault) is strange named = nothing_known text
  known_rightly text repeated None is true named = λ found there.
      let same : true ≡ found.strange = cc in
      (none_wrong repeated None (wording.fault text) is refl, sym same ∙ named)
  known_rightly text repeated None is false named = λ found there.
      let same : false ≡ found.strange = cc in
      (none_wrong repeated None (wording.fault text) is refl, sym same ∙ named)

  pub known_more : (place : ℕ) (here : Block) (all : List Known) → length all ≡ place → slice_get blocks place ≡ Some here → AreKnown wording blocks all
      → (one : Known) → IsKnown wording here.text one → AreKnown wording blocks (all ++ one ∷ [])
  known_more place here all count at was one is None block there = nothing_known block.text
  known_more place here all count at was one is (Some k) block there = by_place (cases_lt k place) (cases_lt place k)
    where
      by_place : (k < place) ⊎ (place ≤ k) → (place < k) ⊎ (k ≤ place) → IsKnown wording block.text (known_at (all ++ one ∷ []) (Some k))
      by_place (inl earlier) other =
          let same : get_or (all ++ one ∷ []) k known.Nothing ≡ get_or all k known.Nothing = get_or_append_left all (one ∷ []) known.Nothing k (omega (arith, count, earlier)) in
          subst (IsKnown wording block.text) (sym same) (was (Some k) block there)
      by_place (inr late) (inl later) =
          let past : get_or (all ++ one ∷ []) k known.Nothing ≡ known.Nothing = get_or_past (all ++ one ∷ []) k known.Nothing (omega (arith, length-append all (one ∷ []), count, later)) in
          subst (IsKnown wording block.text) (sym past) (nothing_known block.text)
      by_place (inr late) (inr early) =
          let same : k ≡ place = omega (arith, late, early) in
          let block_is : Some block ≡ Some here = sym there ∙ ap (slice_get blocks) same ∙ at in
          let text : block.text ≡ here.text = cc in
          let last : get_or (all ++ one ∷ []) k known.Nothing ≡ one =
          ap (λ n. get_or (all ++ one ∷ []) n known.Nothing) (omega (arith, same, count)) ∙ get_or-append-add all (one ∷ []) 0 known.Nothing in
          subst (λ text. IsKnown wording text (get_or (all ++ one ∷ []) k known.Nothing)) (sym text) (subst (IsKnown wording here.text) (sym last) is)
