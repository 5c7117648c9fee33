-- What is reported for two listings, by what was seen of them.
use Rattle.std.proofs.Common.{◌≡◌, ◌∙◌, ◌+◌, ◌-◌, ◌≤◌, ◌<◌, ◌++◌, ◌&&◌, ◌||◌, not, ℕ, suc, Bool, true, false, List, [], ◌∷◌, Option, Some, None, ap, append_assoc, append-nil, arith, get_or, is_none, is_some, length, length-append, map as each, option_map, refl, subst, sym, take}
use Rattle.std.specs.Prelude.{IfSome}
use Rattle.std.specs.Bool.{MatchBool}
use Rattle.std.specs.List.{fold, list_any}
use Rattle.std.proofs.lemmas.List.{map-append}
use Rattle.std.proofs.lemmas.List.Sums.{fold-append}
use Rattle.std.proofs.lemmas.List.Folds.{list_any-append}
use Rattle.std.proofs.Math.Bool.{or-false}
use Rattle.std.proofs.Math.Seq.{take-append_seam}
use Rattle.acl_cli.specs.Reporting.{LeadsOn, is_empty}
use Rattle.acl_cli.specs.declared.command.Ending.{Ending}
use Rattle.acl_cli.specs.declared.command.Ending.TheVariants.{Answered}
use Rattle.acl_listings.specs.Block.{path_of}
use Rattle.acl_listings.specs.Cursor.{HandsOut, IsOver, blocks_to_come}
use Rattle.acl_listings.specs.Listing.{Block}
use Rattle.acl_listings.specs.declared.fault.BlockFault.{BlockFault}
use Rattle.acl_reports.specs.Endings.{ending_of_both, with_difference}
use Rattle.acl_reports.specs.Listed.{counted, ending_of, fault_in, last_lines, no_blocks, with_item, with_stranger_of}
use Rattle.acl_reports.specs.Paths.{block_for, first_path, lists, or_first}
use Rattle.acl_reports.specs.Placed.{Placed, in_places, in_places_after}
use Rattle.acl_reports.specs.Strangers.{no_strangers, with_stranger}
use Rattle.acl_reports.specs.declared.strangers.Strangers.{Strangers}
use Rattle.acl_reports.specs.declared.tally.Tally.{Tally}
use Rattle.acl_listing_changes.specs.ChangeSteps.{Appended, AreMet, BeginsLeft, Closing, EndsLeft, HandsOn, Here, IsLast, IsOpening, IsStep, Left, Missing, Opening, SeenValue, ReportsLeft, ReportsMissing, ReportsReported, Reported, fault_here, final_tally, left_to_report, missing_from, nothing_seen, seen_on, reported_from}
use Rattle.acl_listing_changes.specs.Changes.{After, Before, Gone, IsChangeAnswer, IsChangeBegun, Named, Next, OfAfter, Step, ReportsEach, ReportsIf, ReportsNextBy, ReportsStep, Wording, apart_by, apart_text, fault_after, fault_before, item_of, items_after, items_before, items_of, part_of, steps_of, strangers_of, tally_of, unless_repeated}
use Rattle.acl_listing_changes.specs.Kept.{place_of}
use Rattle.acl_listing_changes.specs.declared.between.progress.Stage.TheVariants as stage
use Rattle.acl_listing_changes.proofs.FirstPathLemmas.{first_more}
use Rattle.acl_listing_changes.proofs.PlacedLemmas.{placed_split, put}
use Rattle.acl_listing_changes.proofs.PlacesLemmas.{mark_lists, marks_repeat, met_more, none_met, place_known, stands_there}
use Rattle.acl_listing_changes.proofs.StepsLemmas.{AreLike, all_front, all_on, each_like, front_like, front_none, front_on}
use Rattle.acl_listing_changes.proofs.SidesLemmas.{some_repeated}

-- ---- one step of what is reported

module _ (wording : Wording) (name : List ℕ) (before : List Block) where
  pub reported_on : (old new : Left) (out out' beside beside' : List ℕ) (is : IsStep wording name before old new out out' beside beside')
      → LeadsOn (ReportsLeft wording name before old) (ReportsLeft wording name before new) is.appended.reported is.appended.said
  reported_on old new out out' beside beside' is =
      all_on (ReportsReported wording name before) (left_to_report wording before old) is.step (left_to_report wording before new) is.hands is.appended.reported is.appended.said is.appended.reports

  pub begun_on : (old new : Left) (out out' beside beside' : List ℕ) (is : IsStep wording name before old new out out' beside beside')
      → LeadsOn (BeginsLeft wording name before old) (BeginsLeft wording name before new) is.appended.reported is.appended.said
  begun_on old new out out' beside beside' is =
      front_on (ReportsReported wording name before) (left_to_report wording before old) is.step (left_to_report wording before new) is.hands is.appended.reported is.appended.said is.appended.reports

  pub begun_now : (left : Left) → BeginsLeft wording name before left [] []
  begun_now left = front_none (ReportsReported wording name before) (left_to_report wording before left)

  -- ---- the next thing is at hand

  pub hands_opening : (old new : Left) → old.stage ≡ stage.Opening → new ≡ record old { stage = stage.After }
      → HandsOn (left_to_report wording before old) (Opening old.opening) (left_to_report wording before new)
  hands_opening old new is is_new =
      subst (λ (new : Left). HandsOn (left_to_report wording before old) (Opening old.opening) (left_to_report wording before new)) (sym is_new)
      (subst (λ (old : Left). HandsOn (left_to_report wording before old) (Opening old.opening) (left_to_report wording before (record old { stage = stage.After })))
      (sym (ap (λ stage. record old { stage = stage }) is)) (by old.coming))
    where
      by : (coming : Option (List Block)) → HandsOn (option_map (λ blocks. Opening old.opening ∷ reported_from wording before old.seen blocks) coming) (Opening old.opening)
          (option_map (reported_from wording before old.seen) coming)
      by None = tt
      by (Some blocks) = refl

  module _ (seen : SeenValue) where
    hands_here : (block : Block) (coming more : Option (List Block)) → HandsOut coming block more
        → HandsOn (option_map (reported_from wording before seen) coming) (Here seen block) (option_map (reported_from wording before (seen_on wording before seen block)) more)
    hands_here block None more hands = tt
    hands_here block (Some blocks) None hands = absurd hands
    hands_here block (Some blocks) (Some more) hands = ap (reported_from wording before seen) hands

    hands_end : (coming : Option (List Block)) → IsOver coming
        → HandsOn (option_map (reported_from wording before seen) coming) (Closing seen) (Some (missing_from seen.met 0 (length before - 0)))
    hands_end None over = tt
    hands_end (Some blocks) over =
        let all : length before - 0 ≡ length before = omega arith in
        ap (reported_from wording before seen) over ∙ ap (λ count. Closing seen ∷ missing_from seen.met 0 count) (sym all)

    -- and the blocks are counted
    final_here : (block : Block) (coming more : Option (List Block)) → HandsOut coming block more
        → IfSome (option_map (λ blocks. (fold (seen_on wording before) seen blocks).tally) coming)
        (λ tally. option_map (λ blocks. (fold (seen_on wording before) (seen_on wording before seen block) blocks).tally) more ≡ Some tally)
    final_here block None more hands = tt
    final_here block (Some blocks) None hands = absurd hands
    final_here block (Some blocks) (Some more) hands = ap (λ blocks. Some (fold (seen_on wording before) seen blocks).tally) (sym hands)

    final_end : (coming : Option (List Block)) → IsOver coming
        → IfSome (option_map (λ blocks. (fold (seen_on wording before) seen blocks).tally) coming) (λ tally. Some seen.tally ≡ Some tally)
    final_end None over = tt
    final_end (Some blocks) over = ap (λ blocks. Some (fold (seen_on wording before) seen blocks).tally) (sym over)

  final_itself : (final : Option Tally) → IfSome final (λ tally. final ≡ Some tally)
  final_itself None = tt
  final_itself (Some tally) = refl

  pub final_opening : (old new : Left) → old.stage ≡ stage.Opening → new ≡ record old { stage = stage.After }
      → IfSome (final_tally wording before old) (λ tally. final_tally wording before new ≡ Some tally)
  final_opening old new is is_new =
      subst (λ (new : Left). IfSome (final_tally wording before old) (λ tally. final_tally wording before new ≡ Some tally)) (sym is_new)
      (subst (λ (old : Left). IfSome (final_tally wording before old) (λ tally. final_tally wording before (record old { stage = stage.After }) ≡ Some tally))
      (sym (ap (λ stage. record old { stage = stage }) is)) (final_itself (final_tally wording before (record old { stage = stage.After }))))

  module _ (old new : Left) (is : old.stage ≡ stage.After) where
    abbrev was : Left
    was = record old { stage = stage.After }

    was_is : old ≡ was
    was_is = ap (λ stage. record old { stage = stage }) is

    -- of the block at hand, where the block and those to come are these
    pub hands_block : (block : Block) (more : Option (List Block)) → HandsOut old.coming block more
        → new ≡ record old { block = block; coming = more; seen = seen_on wording before old.seen block }
        → HandsOn (left_to_report wording before old) (Here old.seen block) (left_to_report wording before new)
        × IfSome (final_tally wording before old) (λ tally. final_tally wording before new ≡ Some tally)
    hands_block block more hands is_new =
        subst (λ (new : Left). HandsOn (left_to_report wording before old) (Here old.seen block) (left_to_report wording before new)
        × IfSome (final_tally wording before old) (λ tally. final_tally wording before new ≡ Some tally)) (sym is_new)
        (subst (λ (left : Left). HandsOn (left_to_report wording before left) (Here left.seen block)
        (left_to_report wording before (record left { block = block; coming = more; seen = seen_on wording before left.seen block }))
        × IfSome (final_tally wording before left)
        (λ tally. final_tally wording before (record left { block = block; coming = more; seen = seen_on wording before left.seen block }) ≡ Some tally)) (sym was_is)
        (hands_here old.seen block old.coming more hands, final_here old.seen block old.coming more hands))

    -- and at the end of them
    pub hands_closing : (block : Block) (more : Option (List Block)) → IsOver old.coming → new ≡ record old { block = block; coming = more; stage = stage.Gone 0 }
        → HandsOn (left_to_report wording before old) (Closing old.seen) (left_to_report wording before new)
        × IfSome (final_tally wording before old) (λ tally. final_tally wording before new ≡ Some tally)
    hands_closing block more over is_new =
        subst (λ (new : Left). HandsOn (left_to_report wording before old) (Closing old.seen) (left_to_report wording before new)
        × IfSome (final_tally wording before old) (λ tally. final_tally wording before new ≡ Some tally)) (sym is_new)
        (subst (λ (left : Left). HandsOn (left_to_report wording before left) (Closing left.seen)
        (left_to_report wording before (record left { block = block; coming = more; stage = stage.Gone 0 }))
        × IfSome (final_tally wording before left) (λ tally. final_tally wording before (record left { block = block; coming = more; stage = stage.Gone 0 }) ≡ Some tally)) (sym was_is)
        (hands_end old.seen old.coming over, final_end old.seen old.coming over))

  module _ (old : Left) (place : ℕ) (is : old.stage ≡ stage.Gone place) where
    abbrev at : Left
    at = record old { stage = stage.Gone place }

    at_is : old ≡ at
    at_is = ap (λ stage. record old { stage = stage }) is

    pub hands_missing : (new : Left) → place < length before → new ≡ record old { stage = stage.Gone (place + 1) }
        → HandsOn (left_to_report wording before old) (Missing old.seen.met place) (left_to_report wording before new)
        × IfSome (final_tally wording before old) (λ tally. final_tally wording before new ≡ Some tally)
    hands_missing new within is_new =
        let one : length before - place ≡ suc (length before - (place + 1)) = omega (arith, within) in
        subst (λ (new : Left). HandsOn (left_to_report wording before old) (Missing old.seen.met place) (left_to_report wording before new)
        × IfSome (final_tally wording before old) (λ tally. final_tally wording before new ≡ Some tally)) (sym is_new)
        (subst (λ (left : Left). HandsOn (left_to_report wording before left) (Missing left.seen.met place) (left_to_report wording before (record left { stage = stage.Gone (place + 1) }))
        × IfSome (final_tally wording before left) (λ tally. final_tally wording before (record left { stage = stage.Gone (place + 1) }) ≡ Some tally)) (sym at_is)
        (ap (missing_from old.seen.met place) one, refl))

    -- where no block before is left, nothing more is reported
    pub none_left : length before ≤ place → ReportsLeft wording name before old [] []
    none_left past =
        let none : length before - place ≡ 0 = omega (arith, past) in
        subst (λ (left : Left). ReportsLeft wording name before left [] []) (sym at_is)
        (subst (λ count. ReportsEach (ReportsReported wording name before) (missing_from old.seen.met place count) [] []) (sym none) (refl, refl))

-- ---- what was seen of the listing after

fault_again : (fault : Option BlockFault) → fault_in (part_of fault) ≡ fault
fault_again None = refl
fault_again (Some fault) = refl

-- an item more is counted
counted_as : (tally : Tally) (block : Block) (fault : Option BlockFault) → with_item tally (record { block = block; part = part_of fault }) ≡ counted tally block.text fault
counted_as tally block fault = ap (counted tally block.text) (fault_again fault)

-- of one item more
pub items_more : (fault : Placed Block → Option BlockFault) (earlier : List Block) (block : Block)
    → items_of fault (earlier ++ block ∷ []) ≡ items_of fault earlier ++ item_of fault (put earlier block) ∷ []
items_more fault earlier block = ap (each (item_of fault)) (placed_split earlier (block ∷ [])) ∙ map-append (item_of fault) (in_places earlier) (put earlier block ∷ [])

pub tally_more : (fault : Placed Block → Option BlockFault) (earlier : List Block) (block : Block)
    → tally_of (items_of fault (earlier ++ block ∷ [])) ≡ counted (tally_of (items_of fault earlier)) block.text (fault (put earlier block))
tally_more fault earlier block =
    ap tally_of (items_more fault earlier block) ∙ fold-append with_item no_blocks (items_of fault earlier) (item_of fault (put earlier block) ∷ [])
    ∙ counted_as (tally_of (items_of fault earlier)) block (fault (put earlier block))

-- and which name ids without an account
pub strangers_more : (wording : Wording) (fault : Placed Block → Option BlockFault) (earlier : List Block) (block : Block)
    → strangers_of wording (items_of fault (earlier ++ block ∷ [])) ≡ with_stranger (strangers_of wording (items_of fault earlier)) block.line (wording.stranger block.text)
strangers_more wording fault earlier block =
    ap (strangers_of wording) (items_more fault earlier block)
    ∙ fold-append (with_stranger_of wording.stranger) no_strangers (items_of fault earlier) (item_of fault (put earlier block) ∷ [])

module _ (wording : Wording) (before : Named) where
  -- it was seen of these blocks
  pub record IsSeen (earlier : List Block) (seen : SeenValue) : Type 0 where
    pub met : AreMet before.blocks earlier seen.met
    pub tally : seen.tally ≡ tally_of (items_of (fault_after wording before.blocks) earlier)
    pub strangers : seen.strangers ≡ strangers_of wording (items_of (fault_after wording before.blocks) earlier)
    pub first : seen.first ≡ first_path earlier
    pub known : seen.known ≡ list_any (λ block. lists before.blocks block.text) earlier

  fault_is : (earlier : List Block) (seen : SeenValue) → IsSeen earlier seen → (block : Block)
      → fault_here wording before.blocks seen.met block.text ≡ fault_after wording before.blocks (put earlier block)
  fault_is earlier seen is block = ap (λ b. unless_repeated b (wording.fault block.text)) (marks_repeat before.blocks earlier seen.met is.met block.text)

  pub seen_none : IsSeen [] (nothing_seen (length before.blocks))
  seen_none = record { met = none_met before.blocks; tally = refl; strangers = refl; first = refl; known = refl }

  seen_more : (earlier : List Block) (seen : SeenValue) → IsSeen earlier seen → (block : Block) → IsSeen (earlier ++ block ∷ []) (seen_on wording before.blocks seen block)
  seen_more earlier seen is block = record {
    met = met_more before.blocks earlier seen.met is.met block;
    tally = ap (λ tally. counted tally block.text (fault_here wording before.blocks seen.met block.text)) is.tally
        ∙ ap (counted (tally_of (items_of (fault_after wording before.blocks) earlier)) block.text) (fault_is earlier seen is block)
        ∙ sym (tally_more (fault_after wording before.blocks) earlier block);
    strangers = ap (λ strangers. with_stranger strangers block.line (wording.stranger block.text)) is.strangers
        ∙ sym (strangers_more wording (fault_after wording before.blocks) earlier block);
    first = ap (λ first. or_first first (path_of block.text)) is.first ∙ sym (first_more earlier block);
    known = ap (λ known. known || is_some (place_of before.blocks block.text)) is.known
        ∙ ap (λ known. list_any (λ block. lists before.blocks block.text) earlier || known) (place_known before.blocks block.text ∙ sym (or-false (lists before.blocks block.text)))
        ∙ sym (list_any-append (λ block. lists before.blocks block.text) earlier (block ∷ []));
  }

  pub seen_of : (earlier blocks : List Block) (seen : SeenValue) → IsSeen earlier seen → IsSeen (earlier ++ blocks) (fold (seen_on wording before.blocks) seen blocks)
  seen_of earlier [] seen is = subst (λ blocks. IsSeen blocks seen) (sym (append-nil earlier)) is
  seen_of earlier (block ∷ blocks) seen is =
      subst (λ all. IsSeen all (fold (seen_on wording before.blocks) seen (block ∷ blocks))) (append_assoc earlier (block ∷ []) blocks)
      (seen_of (earlier ++ block ∷ []) blocks (seen_on wording before.blocks seen block) (seen_more earlier seen is block))

  -- ---- so what is reported for them is what the definition says

  module _ (after : Named) where
    abbrev Reports : Reported → List ℕ → List ℕ → Type 0
    Reports = ReportsReported wording after.name before.blocks

    abbrev Means : Step → List ℕ → List ℕ → Type 0
    Means = ReportsStep wording before after

    module _ (met : List Bool) (are : AreMet before.blocks after.blocks met) where
      -- of one block before
      gone_there : (earlier : List Block) (here : Block) (rest : List Block) → before.blocks ≡ earlier ++ here ∷ rest → (reported said : List ℕ)
          → Reports (Missing met (length earlier)) reported said → Means (Gone (put earlier here)) reported said
      gone_there earlier here rest whole reported said reports =
          let there = stands_there before.blocks earlier here rest whole in
          let stood : take (length earlier) before.blocks ≡ earlier = ap (take (length earlier)) whole ∙ take-append_seam earlier (here ∷ rest) in
          let found : ReportsIf (is_none (fault_before wording (put (take (length earlier) before.blocks) here)) && not (get_or met (length earlier) false)) (wording.IsGone here.text) reported said =
          subst (λ found. IfSome found (λ block. ReportsIf (is_none (fault_before wording (put (take (length earlier) before.blocks) block)) && not (get_or met (length earlier) false))
          (wording.IsGone block.text) reported said)) there reports in
          let placed = subst (λ earlier'. ReportsIf (is_none (fault_before wording (put earlier' here)) && not (get_or met (length earlier) false)) (wording.IsGone here.text) reported said) stood found in
          subst (λ b. ReportsIf b (wording.IsGone here.text) reported said) (by (lists earlier here.text) refl (wording.fault here.text)) placed
        where
          within : length earlier < length before.blocks
          within = omega (arith, ap length whole, length-append earlier (here ∷ rest))

          some_fault : (fault : Option BlockFault) (b c : Bool) → is_none (unless_repeated true fault) && b ≡ (is_none (unless_repeated true fault) && c)
          some_fault fault b c = ap (λ n. n && b) (some_repeated fault) ∙ sym (ap (λ n. n && c) (some_repeated fault))

          by : (repeated : Bool) → lists earlier here.text ≡ repeated → (fault : Option BlockFault)
              → (is_none (unless_repeated (lists earlier here.text) fault) && not (get_or met (length earlier) false))
              ≡ (is_none (unless_repeated (lists earlier here.text) fault) && not (lists after.blocks here.text))
          by true is fault =
              ap (λ b. is_none (unless_repeated b fault) && not (get_or met (length earlier) false)) is
              ∙ some_fault fault (not (get_or met (length earlier) false)) (not (lists after.blocks here.text))
              ∙ sym (ap (λ b. is_none (unless_repeated b fault) && not (lists after.blocks here.text)) is)
          by false is fault =
              ap (λ b. is_none (unless_repeated (lists earlier here.text) fault) && not b)
              (are.each (length earlier) within ∙ mark_lists before.blocks earlier here rest whole is after.blocks)

      like_missing : (earlier rest : List Block) → before.blocks ≡ earlier ++ rest → AreLike Reports Means (missing_from met (length earlier) (length rest)) (each Gone (in_places_after earlier rest))
      like_missing earlier [] whole = tt
      like_missing earlier (here ∷ rest) whole =
          let next : length earlier + 1 ≡ length (earlier ++ here ∷ []) = omega (arith, length-append earlier (here ∷ [])) in (
            gone_there earlier here rest whole,
            subst (λ place. AreLike Reports Means (missing_from met place (length rest)) (each Gone (in_places_after (earlier ++ here ∷ []) rest))) (sym next)
                (like_missing (earlier ++ here ∷ []) rest (whole ∙ sym (append_assoc earlier (here ∷ []) rest))),
          )

    next_there : (earlier : List Block) (seen : SeenValue) → IsSeen earlier seen → (block : Block) → (reported said : List ℕ) → Reports (Here seen block) reported said → Means (Next (put earlier block)) reported said
    next_there earlier seen is block reported said reports =
        subst (λ fault. ReportsNextBy wording after.name (block_for before.blocks block.text) block fault reported said) (fault_is earlier seen is block) reports

    end_there : (seen : SeenValue) → IsSeen after.blocks seen → (reported said : List ℕ) → Reports (Closing seen) reported said → Means After reported said
    end_there seen is reported said (none, same) = (
      none,
      same
          ∙ ap (λ known. apart_by wording known (first_path before.blocks) seen.first ++ last_lines after.name seen.tally seen.strangers) is.known
          ∙ ap (λ first. apart_by wording (list_any (λ block. lists before.blocks block.text) after.blocks) (first_path before.blocks) first ++ last_lines after.name seen.tally seen.strangers) is.first
          ∙ ap (λ tally. apart_text wording before.blocks after.blocks ++ last_lines after.name tally seen.strangers) is.tally
          ∙ ap (λ strangers. apart_text wording before.blocks after.blocks ++ last_lines after.name (tally_of (items_after wording before after)) strangers) is.strangers,
    )

    like_from : (earlier coming : List Block) (seen : SeenValue) → IsSeen earlier seen → after.blocks ≡ earlier ++ coming
        → AreLike Reports Means (reported_from wording before.blocks seen coming) (each Next (in_places_after earlier coming) ++ After ∷ each Gone (in_places before.blocks))
    like_from earlier [] seen is whole =
        let all : IsSeen after.blocks seen = subst (λ blocks. IsSeen blocks seen) (sym (append-nil earlier) ∙ sym whole) is in
        (end_there seen all, like_missing seen.met all.met [] before.blocks refl)
    like_from earlier (block ∷ coming) seen is whole = (
      next_there earlier seen is block,
      like_from (earlier ++ block ∷ []) coming (seen_on wording before.blocks seen block) (seen_more earlier seen is block) (whole ∙ sym (append_assoc earlier (block ∷ []) coming)),
    )

    opening_there : (text : List ℕ) (tally : Tally) (strangers : Strangers) → IsOpening wording before text tally strangers → (reported said : List ℕ) → Reports (Opening text) reported said → Means Before reported said
    opening_there text tally strangers opening reported said (none, same) = (
      none,
      (
        opening.faults,
        opening.faults_are,
        same ∙ opening.said_is ∙ ap (λ tally. opening.faults ++ last_lines before.name tally strangers) opening.tally_is
            ∙ ap (λ strangers. opening.faults ++ last_lines before.name (tally_of (items_before wording before)) strangers) opening.strangers_are,
      ),
    )

    pub like_steps : (text : List ℕ) (tally : Tally) (strangers : Strangers) → IsOpening wording before text tally strangers
        → AreLike Reports Means (Opening text ∷ reported_from wording before.blocks (nothing_seen (length before.blocks)) after.blocks) (steps_of before after)
    like_steps text tally strangers opening = (opening_there text tally strangers opening, like_from [] after.blocks (nothing_seen (length before.blocks)) seen_none refl)

    -- what was counted in the end
    pub final_seen : (fold (seen_on wording before.blocks) (nothing_seen (length before.blocks)) after.blocks).tally ≡ tally_of (items_after wording before after)
    final_seen = (seen_of [] after.blocks (nothing_seen (length before.blocks)) seen_none).tally

-- what is reported next, if anything is
module _ (wording : Wording) (name : List ℕ) (before : List Block) (old new : Left) (out out' beside beside' : List ℕ) where
  abbrev pub IsReportedNext : Type 0
  IsReportedNext = (more : List ℕ) × (others : List ℕ) × (out' ≡ out ++ more) × (beside' ≡ beside ++ others)
      × LeadsOn (ReportsLeft wording name before old) (ReportsLeft wording name before new) more others
      × LeadsOn (BeginsLeft wording name before old) (BeginsLeft wording name before new) more others × BeginsLeft wording name before new [] []

  pub reported_next : IsStep wording name before old new out out' beside beside' → IsReportedNext
  reported_next is = (
    is.appended.reported,
    is.appended.said,
    is.appended.out_is,
    is.appended.beside_is,
    reported_on wording name before old new out out' beside beside' is,
    begun_on wording name before old new out out' beside beside' is,
    begun_now wording name before new,
  )

  pub reported_or_last : (some : Bool) → MatchBool some (IsStep wording name before old new out out' beside beside') (IsLast wording name before old new out out' beside beside')
      → MatchBool some IsReportedNext ((out' ≡ out) × (beside' ≡ beside) × ReportsLeft wording name before old [] [])
  reported_or_last true is = reported_next is
  reported_or_last false is = (is.out_is, is.beside_is, is.none)

-- ---- both listings

pub ended_gone : (wording : Wording) (before : List Block) (left : Left) (place : ℕ) → left.stage ≡ stage.Gone place → (ending : Ending) → ending ≡ ending_of left.seen.tally
    → EndsLeft wording before left ending
ended_gone wording before left place is ending ends = subst (λ (left : Left). EndsLeft wording before left ending) (sym (ap (λ stage. record left { stage = stage }) is)) ends

module _ (wording : Wording) (before : Named) (name opening : List ℕ) (tally : Tally) (strangers : Strangers) (opened : IsOpening wording before opening tally strangers)
    (seen : SeenValue) (block : Block) (coming : Option (List Block)) (seen_is : seen ≡ nothing_seen (length before.blocks))
    (bytes : Option (List ℕ)) (coming_is : coming ≡ blocks_to_come 1 bytes) where
  abbrev pub begun_with : SeenValue → Option (List Block) → Left
  begun_with seen coming = record { stage = stage.Opening; opening = opening; seen = seen; block = block; coming = coming }

  abbrev pub first : Left
  first = begun_with seen coming

  first_is : first ≡ begun_with (nothing_seen (length before.blocks)) (blocks_to_come 1 bytes)
  first_is = ap (λ seen. begun_with seen coming) seen_is ∙ ap (begun_with (nothing_seen (length before.blocks))) coming_is

  abbrev of_blocks : List Block → Named
  of_blocks blocks = record { name = name; blocks = blocks }

  pub begins_changes : (text said : List ℕ) → BeginsLeft wording name before.blocks first text said
      → OfAfter (IsChangeBegun wording) before name bytes (record { text = text; beside = said; ending = Answered })
  begins_changes text said begins =
      by (blocks_to_come 1 bytes) (subst (λ (left : Left). BeginsLeft wording name before.blocks left text said) first_is begins)
    where
      by : (coming : Option (List Block)) → BeginsLeft wording name before.blocks (begun_with (nothing_seen (length before.blocks)) coming) text said
          → IfSome coming (λ blocks. IsChangeBegun wording before (of_blocks blocks) (record { text = text; beside = said; ending = Answered }))
      by None begins = tt
      by (Some blocks) (count, steps) = record {
        count = count;
        first = front_like (ReportsReported wording name before.blocks) (ReportsStep wording before (of_blocks blocks)) (Opening opening ∷ reported_from wording before.blocks (nothing_seen (length before.blocks)) blocks) (steps_of before (of_blocks blocks))
            (like_steps wording before (of_blocks blocks) opening tally strangers opened) count text said steps;
      }

  -- all of it is a front
  pub begins_reported : (text said : List ℕ) → ReportsLeft wording name before.blocks first text said → BeginsLeft wording name before.blocks first text said
  begins_reported text said reports = all_front (ReportsReported wording name before.blocks) (left_to_report wording before.blocks first) text said reports

  module _ (text said : List ℕ) (reports : ReportsLeft wording name before.blocks first text said) (second ending : Ending) (ends : EndsLeft wording before.blocks first second)
      (some : Bool) (some_is : some ≡ not (is_empty text)) (ending_is : ending ≡ with_difference (wording.asks && some) (ending_of_both (ending_of tally) second)) where
    pub answers_changes : OfAfter (IsChangeAnswer wording) before name bytes (record { text = text; beside = said; ending = ending })
    answers_changes =
        by (blocks_to_come 1 bytes) (subst (λ (left : Left). ReportsLeft wording name before.blocks left text said) first_is reports)
        (subst (λ (left : Left). EndsLeft wording before.blocks left second) first_is ends)
      where
        by : (coming : Option (List Block)) → ReportsLeft wording name before.blocks (begun_with (nothing_seen (length before.blocks)) coming) text said
            → EndsLeft wording before.blocks (begun_with (nothing_seen (length before.blocks)) coming) second
            → IfSome coming (λ blocks. IsChangeAnswer wording before (of_blocks blocks) (record { text = text; beside = said; ending = ending }))
        by None reports ends = tt
        by (Some blocks) reports ends = record {
          each = each_like (ReportsReported wording name before.blocks) (ReportsStep wording before (of_blocks blocks)) (Opening opening ∷ reported_from wording before.blocks (nothing_seen (length before.blocks)) blocks) (steps_of before (of_blocks blocks))
              (like_steps wording before (of_blocks blocks) opening tally strangers opened) text said reports;
          ending = ending_is
              ∙ ap (λ some. with_difference (wording.asks && some) (ending_of_both (ending_of tally) second)) some_is
              ∙ ap (λ tally. with_difference (wording.asks && not (is_empty text)) (ending_of_both (ending_of tally) second)) opened.tally_is
              ∙ ap (λ second. with_difference (wording.asks && not (is_empty text)) (ending_of_both (ending_of (tally_of (items_before wording before))) second))
              (ends ∙ ap ending_of (final_seen wording before (of_blocks blocks)));
        }

-- ---- a step, by what is reported in it

module _ (wording : Wording) (name : List ℕ) (before : List Block) where
  pub step_opening : (old new : Left) → old.stage ≡ stage.Opening → new ≡ record old { stage = stage.After } → (out beside beside' : List ℕ) → beside' ≡ beside ++ old.opening
      → IsStep wording name before old new out out beside beside'
  step_opening old new is is_new out beside beside' said = record {
    step = Opening old.opening;
    hands = hands_opening wording name before old new is is_new;
    appended = record { reported = []; said = old.opening; reports = (refl, refl); out_is = sym (append-nil out); beside_is = said };
    final = final_opening wording name before old new is is_new;
  }

  pub step_here : (old mid new : Left) → old.stage ≡ stage.After → HandsOut old.coming mid.block mid.coming → mid ≡ record old { block = mid.block; coming = mid.coming }
      → new ≡ record mid { seen = seen_on wording before mid.seen mid.block } → (out out' beside beside' : List ℕ)
      → Appended (ReportsReported wording name before (Here mid.seen mid.block)) out out' beside beside' → IsStep wording name before old new out out' beside beside'
  step_here old mid new is hands is_mid is_new out out' beside beside' appended =
      let seen : mid.seen ≡ old.seen = ap (λ (left : Left). left.seen) is_mid in
      let whole : new ≡ record old { block = mid.block; coming = mid.coming; seen = seen_on wording before old.seen mid.block } =
      is_new ∙ ap (λ (left : Left). record left { seen = seen_on wording before left.seen mid.block }) is_mid in
      let both = hands_block wording name before old new is mid.block mid.coming hands whole in
      record {
        step = Here old.seen mid.block;
        hands = both.0;
        appended = subst (λ seen. Appended (ReportsReported wording name before (Here seen mid.block)) out out' beside beside') seen appended;
        final = both.1;
      }

  pub step_closing : (old mid new : Left) → old.stage ≡ stage.After → IsOver old.coming → mid ≡ record old { block = mid.block; coming = mid.coming }
      → new ≡ record mid { stage = stage.Gone 0 } → (out beside beside' : List ℕ)
      → beside' ≡ beside ++ (apart_by wording mid.seen.known (first_path before) mid.seen.first ++ last_lines name mid.seen.tally mid.seen.strangers) → IsStep wording name before old new out out beside beside'
  step_closing old mid new is over is_mid is_new out beside beside' said =
      let seen : mid.seen ≡ old.seen = ap (λ (left : Left). left.seen) is_mid in
      let whole : new ≡ record old { block = mid.block; coming = mid.coming; stage = stage.Gone 0 } = is_new ∙ ap (λ (left : Left). record left { stage = stage.Gone 0 }) is_mid in
      let both = hands_closing wording name before old new is mid.block mid.coming over whole in
      record {
        step = Closing old.seen;
        hands = both.0;
        appended = record {
          reported = [];
          said = apart_by wording old.seen.known (first_path before) old.seen.first ++ last_lines name old.seen.tally old.seen.strangers;
          reports = (refl, refl);
          out_is = sym (append-nil out);
          beside_is = said ∙ ap (λ (seen : SeenValue). beside ++ (apart_by wording seen.known (first_path before) seen.first ++ last_lines name seen.tally seen.strangers)) seen;
        };
        final = both.1;
      }

  pub step_missing : (old new : Left) (place : ℕ) → old.stage ≡ stage.Gone place → place < length before → new ≡ record old { stage = stage.Gone (place + 1) } → (out out' beside beside' : List ℕ)
      → Appended (ReportsMissing wording before old.seen.met place) out out' beside beside' → IsStep wording name before old new out out' beside beside'
  step_missing old new place is within is_new out out' beside beside' appended =
      let both = hands_missing wording name before old place is new within is_new in
      record { step = Missing old.seen.met place; hands = both.0; appended = appended; final = both.1 }
