-- A listing that is reported one block further.
use Rattle.std.proofs.Common.{◌≡◌, ◌∙◌, ◌++◌, ◌+◌, ℕ, Bool, true, false, List, [], ◌∷◌, Option, Some, None, IfSome, Result, Ok, Err, ap, append_assoc, append-nil, inl, inr, not, ◌&&◌, refl, subst, sym}
use Rattle.acl_cli.specs.Reporting.{LeadsOn, is_empty}
use Rattle.acl_cli.specs.declared.command.Ending.{Ending}
use Rattle.acl_cli.specs.declared.command.Ending.TheVariants.{Answered}
use Rattle.acl_listings.specs.Block.{FileValue, file_by}
use Rattle.acl_listings.specs.Cursor.{HandsOut, IsOver, blocks_to_come}
use Rattle.acl_listings.specs.Faults.{IsFaultOf}
use Rattle.acl_listings.specs.Listing.{Block}
use Rattle.acl_listings.specs.declared.fault.BlockFault.{BlockFault}
use Rattle.acl_listings.specs.declared.fault.FileFault.{FileFault}
use Rattle.acl_listings.specs.declared.fault.FileFault.TheVariants.{Block as OfBlock, Memory}
use Rattle.acl_people.specs.Host.{names_of_host}
use Rattle.acl_reports.specs.Endings.{with_difference}
use Rattle.acl_reports.specs.Listed.{IsSaid, Item, Part, closing, ending_of, fault_in, first_guess, is_fault, is_unread, no_blocks, reported_of, tally_with, with_item}
use Rattle.acl_reports.specs.declared.tally.Tally.{Tally}
use Rattle.acl_listing_lint.specs.Findings.{IsPartBy, IsPartOf, LintAsking, seen_behind}
use Rattle.acl_listing_lint.specs.LintSteps.{AreReported, EndsBy, EndsSo, IsBegun, IsBegunBy, IsBlockDone, IsBlockReported, IsRefusalSaid, IsReported, IsReportedBy, Left}
use Rattle.acl_listing_lint.specs.Seen.{Seen, nothing_seen, seen_after}
use Rattle.acl_listing_lint.specs.Lints.{AnswersLints, AreBegun, AreItems, BeginsLints, IsAnswer}

-- whatever is found in a block, the same is wrong with it
fault_same : (asking : LintAsking) (seen : Seen) (block : Block) (read : Result FileValue BlockFault) (part other : Part)
    → IsPartBy asking seen block read part → IsPartBy asking seen block read other → fault_in part ≡ fault_in other
fault_same asking seen block (Ok file) part other (text, found, is) (more, others, same) = ap fault_in is ∙ sym (ap fault_in same)
fault_same asking seen block (Err fault) part other is same = ap fault_in is ∙ sym (ap fault_in same)

module _ (asking : LintAsking) (seen : Seen) (tally : Tally) (block : Block) (part : Part) (part_is : IsPartOf asking seen block part) where
  abbrev item : Item
  item = record { block = block; part = part }

  abbrev standing : Seen → Tally → Option (List Block) → Left
  standing seen tally coming = record { asking = asking; seen = seen; tally = tally; closed = false; coming = coming }

  abbrev old : Option (List Block) → Left
  old = standing seen tally

  abbrev after : Seen
  after = seen_behind asking seen block

  abbrev new : Option (List Block) → Left
  new = standing after (with_item tally item)

  abbrev Said : List ℕ → Type 0
  Said = IsSaid asking.name (names_of_host asking.host) block part

  all_more : (blocks : List Block) (said : List ℕ) → Said said → (rest others : List ℕ) → AreReported asking after (with_item tally item) blocks rest others
      → AreReported asking seen tally (block ∷ blocks) (reported_of part ++ rest) (said ++ others)
  all_more blocks said is rest others are = record {
    items = item ∷ are.items;
    items_are = (part, are.items, part_is, are.items_are, refl);
    text_is = ap (λ rest. reported_of part ++ rest) are.text_is;
    said = said ++ are.said;
    said_are = (said, are.said, is, are.said_are, refl);
    more_is = ap (λ text. said ++ text) are.more_is ∙ sym (append_assoc said are.said (closing asking.name (tally_with (with_item tally item) are.items)));
  }

  reported_more : (coming more : Option (List Block)) → HandsOut coming block more → (said : List ℕ) → Said said
      → (rest others : List ℕ) → IsReportedBy false (new more) rest others → IsReportedBy false (old coming) (reported_of part ++ rest) (said ++ others)
  reported_more None more hands said is rest others reports = tt
  reported_more (Some blocks) None hands said is rest others reports = absurd hands
  reported_more (Some blocks) (Some left) hands said is rest others reports =
      subst (λ blocks. IsReportedBy false (old (Some blocks)) (reported_of part ++ rest) (said ++ others)) (sym hands) (all_more left said is rest others reports)

  first_more : (blocks : List Block) (said : List ℕ) → Said said → (rest others : List ℕ) → AreBegun asking after (with_item tally item) blocks rest others
      → AreBegun asking seen tally (block ∷ blocks) (reported_of part ++ rest) (said ++ others)
  first_more blocks said is rest others begun = record {
    first = block ∷ begun.first;
    rest = begun.rest;
    are = ap (λ blocks. block ∷ blocks) begun.are;
    items = item ∷ begun.items;
    items_are = (part, begun.items, part_is, begun.items_are, refl);
    text_is = ap (λ rest. reported_of part ++ rest) begun.text_is;
    said = said ++ begun.said;
    said_are = (said, begun.said, is, begun.said_are, refl);
    more_is = elim begun.more_is [
      | inl same ↦ inl (ap (λ text. said ++ text) same)
      | inr (none, same) ↦ inr (none, ap (λ text. said ++ text) same ∙ sym (append_assoc said begun.said (closing asking.name (tally_with (with_item tally item) begun.items))))
    ];
  }

  begun_more : (coming more : Option (List Block)) → HandsOut coming block more → (said : List ℕ) → Said said
      → (rest others : List ℕ) → IsBegunBy false (new more) rest others → IsBegunBy false (old coming) (reported_of part ++ rest) (said ++ others)
  begun_more None more hands said is rest others begins = tt
  begun_more (Some blocks) None hands said is rest others begins = absurd hands
  begun_more (Some blocks) (Some left) hands said is rest others begins =
      subst (λ blocks. IsBegunBy false (old (Some blocks)) (reported_of part ++ rest) (said ++ others)) (sym hands) (first_more left said is rest others begins)

  abbrev counted : Option BlockFault → Tally
  counted fault = record {
    blocks = tally.blocks + 1;
    faults = tally.faults + is_fault fault;
    unread = tally.unread + is_unread fault;
    guess = first_guess tally.guess block.text;
  }

  ends_all : (blocks : List Block) (ending : Ending) → ((items : List Item) → AreItems asking after blocks items → ending ≡ ending_of (tally_with (with_item tally item) items))
      → (items : List Item) → AreItems asking seen (block ∷ blocks) items → ending ≡ ending_of (tally_with tally items)
  ends_all blocks ending ends items (other, rest, other_is, rest_are, same) =
      ends rest rest_are
      ∙ ap (λ fault. ending_of (tally_with (counted fault) rest)) (fault_same asking seen block (file_by (names_of_host asking.host) block.text) part other part_is other_is)
      ∙ ap (λ items. ending_of (tally_with tally items)) (sym same)

  ends_more : (coming more : Option (List Block)) → HandsOut coming block more → (ending : Ending) → EndsBy false (new more) ending → EndsBy false (old coming) ending
  ends_more None more hands ending ends = tt
  ends_more (Some blocks) None hands ending ends = absurd hands
  ends_more (Some blocks) (Some left) hands ending ends = subst (λ blocks. EndsBy false (old (Some blocks)) ending) (sym hands) (ends_all left ending ends)

-- nothing yet is a front
pub begun_nothing : (left : Left) (closed : Bool) → IsBegunBy closed left [] []
begun_nothing left true = (refl, refl)
begun_nothing left false = by left.coming
  where
    by : (coming : Option (List Block)) → IfSome coming (λ blocks. AreBegun left.asking left.seen left.tally blocks [] [])
    by None = tt
    by (Some blocks) = record { first = []; rest = blocks; are = refl; items = []; items_are = refl; text_is = refl; said = []; said_are = refl; more_is = inl refl }

-- of two states of which the new one stands one block further
pub record IsNext (left next : Left) (block : Block) (out out' beside beside' : List ℕ) : Type 0 where
  pub was_open : left.closed ≡ false
  pub still : next.closed ≡ false
  pub asking : next.asking ≡ left.asking
  pub hands : HandsOut left.coming block next.coming
  pub done : IsBlockDone left.asking left.seen next.seen block left.tally next.tally out out' beside beside'

pub next_by : (left next : Left) (coming : Option (List Block)) (block : Block) (out out' beside beside' : List ℕ) → left.closed ≡ false → HandsOut left.coming block coming
    → next ≡ record left { seen = next.seen; tally = next.tally; coming = coming }
    → IsBlockDone left.asking left.seen next.seen block left.tally next.tally out out' beside beside' → IsNext left next block out out' beside beside'
next_by left next coming block out out' beside beside' was_open hands same done = record {
  was_open = was_open;
  still = ap (λ next. next.closed) same ∙ was_open;
  asking = ap (λ next. next.asking) same;
  hands = subst (HandsOut left.coming block) (sym (ap (λ next. next.coming) same)) hands;
  done = done;
}

module _ (left next : Left) (block : Block) (out out' beside beside' : List ℕ) (is : IsNext left next block out out' beside beside') where
  abbrev here : Item
  here = record { block = block; part = is.done.part }

  abbrev then_seen : Seen
  then_seen = seen_behind left.asking left.seen block

  next_is : next ≡ record { asking = left.asking; seen = then_seen; tally = with_item left.tally here; closed = false; coming = next.coming }
  next_is =
      ap (λ asking. record next { asking = asking }) is.asking
      ∙ ap (λ seen. record next { asking = left.asking; seen = seen }) is.done.seen_is
      ∙ ap (λ tally. record next { asking = left.asking; seen = then_seen; tally = tally }) is.done.done.tally_is
      ∙ ap (λ closed. record next { asking = left.asking; seen = then_seen; tally = with_item left.tally here; closed = closed }) is.still

  left_is : left ≡ record left { closed = false }
  left_is = ap (λ closed. record left { closed = closed }) is.was_open

  pub reported_on : LeadsOn (IsReported left) (IsReported next) (reported_of is.done.part) is.done.done.said
  reported_on = λ rest others reports.
      subst (λ (left : Left). IsReportedBy left.closed left (reported_of is.done.part ++ rest) (is.done.done.said ++ others)) (sym left_is)
      (reported_more left.asking left.seen left.tally block is.done.part is.done.part_is left.coming next.coming is.hands is.done.done.said is.done.done.is_said rest others
      (subst (λ (next : Left). IsReportedBy next.closed next rest others) next_is reports))

  pub begun_on : LeadsOn (IsBegun left) (IsBegun next) (reported_of is.done.part) is.done.done.said
  begun_on = λ rest others begins.
      subst (λ (left : Left). IsBegunBy left.closed left (reported_of is.done.part ++ rest) (is.done.done.said ++ others)) (sym left_is)
      (begun_more left.asking left.seen left.tally block is.done.part is.done.part_is left.coming next.coming is.hands is.done.done.said is.done.done.is_said rest others
      (subst (λ (next : Left). IsBegunBy next.closed next rest others) next_is begins))

  pub ends_on : (ending : Ending) → EndsSo next ending → EndsSo left ending
  ends_on ending ends =
      subst (λ (left : Left). EndsBy left.closed left ending) (sym left_is)
      (ends_more left.asking left.seen left.tally block is.done.part is.done.part_is left.coming next.coming is.hands ending
      (subst (λ (next : Left). EndsBy next.closed next ending) next_is ends))

-- the end is reported
module _ (left : Left) (coming : Option (List Block)) (was_open : left.closed ≡ false) (over : IsOver left.coming) where
  abbrev closed : Left
  closed = record left { closed = true; coming = coming }

  abbrev opened : Option (List Block) → Left
  opened coming = record left { closed = false; coming = coming }

  opened_is : left ≡ opened left.coming
  opened_is = ap (λ closed. record left { closed = closed }) was_open

  reported_end : (coming : Option (List Block)) → IsOver coming → (rest others : List ℕ) → IsReportedBy true closed rest others
      → IsReportedBy false (opened coming) rest (closing left.asking.name left.tally ++ others)
  reported_end None over rest others reports = tt
  reported_end (Some blocks) over rest others (none, nothing) =
      subst (λ blocks. IsReportedBy false (opened (Some blocks)) rest (closing left.asking.name left.tally ++ others)) (sym over)
      (record {
        items = [];
        items_are = refl;
        text_is = none;
        said = [];
        said_are = refl;
        more_is = ap (λ others. closing left.asking.name left.tally ++ others) nothing ∙ append-nil (closing left.asking.name left.tally);
      })

  begun_end : (coming : Option (List Block)) → IsOver coming → (rest others : List ℕ) → IsBegunBy true closed rest others
      → IsBegunBy false (opened coming) rest (closing left.asking.name left.tally ++ others)
  begun_end None over rest others begins = tt
  begun_end (Some blocks) over rest others (none, nothing) =
      subst (λ blocks. IsBegunBy false (opened (Some blocks)) rest (closing left.asking.name left.tally ++ others)) (sym over)
      (record {
        first = [];
        rest = [];
        are = refl;
        items = [];
        items_are = refl;
        text_is = none;
        said = [];
        said_are = refl;
        more_is = inr (refl, ap (λ others. closing left.asking.name left.tally ++ others) nothing ∙ append-nil (closing left.asking.name left.tally));
      })

  ends_end : (coming : Option (List Block)) → IsOver coming → (ending : Ending) → ending ≡ ending_of left.tally → EndsBy false (opened coming) ending
  ends_end None over ending ends = tt
  ends_end (Some blocks) over ending ends =
      subst (λ blocks. EndsBy false (opened (Some blocks)) ending) (sym over) (λ items none. ends ∙ ap (λ items. ending_of (tally_with left.tally items)) (sym none))

  pub reported_closing : LeadsOn (IsReported left) (IsReported closed) [] (closing left.asking.name left.tally)
  reported_closing = λ rest others reports.
      subst (λ (left : Left). IsReportedBy left.closed left rest (closing left.asking.name left.tally ++ others)) (sym opened_is) (reported_end left.coming over rest others reports)

  pub begun_closing : LeadsOn (IsBegun left) (IsBegun closed) [] (closing left.asking.name left.tally)
  begun_closing = λ rest others begins.
      subst (λ (left : Left). IsBegunBy left.closed left rest (closing left.asking.name left.tally ++ others)) (sym opened_is) (begun_end left.coming over rest others begins)

  pub ends_closing : (ending : Ending) → EndsSo closed ending → EndsSo left ending
  ends_closing ending ends = subst (λ (left : Left). EndsBy left.closed left ending) (sym opened_is) (ends_end left.coming over ending ends)

-- ---- a whole listing

module _ (asking : LintAsking) (asks : Bool) (seen : Seen) (tally : Tally) (coming : Option (List Block)) (bytes : Option (List ℕ)) (nothing : seen ≡ nothing_seen) (none : tally ≡ no_blocks) (coming_is : coming ≡ blocks_to_come 1 bytes) where
  abbrev whole : Left
  whole = record { asking = asking; seen = seen; tally = tally; closed = false; coming = coming }

  abbrev begin : Option (List Block) → Left
  begin coming = record { asking = asking; seen = nothing_seen; tally = no_blocks; closed = false; coming = coming }

  whole_is : whole ≡ begin (blocks_to_come 1 bytes)
  whole_is =
      ap (λ seen. record whole { seen = seen }) nothing
      ∙ ap (λ tally. record whole { seen = nothing_seen; tally = tally }) none
      ∙ ap begin coming_is

  pub begins_listing : (text said : List ℕ) → IsBegunBy false whole text said → BeginsLints asking asks bytes (record { text = text; beside = said; ending = Answered })
  begins_listing text said begun = subst (λ (left : Left). IsBegunBy false left text said) whole_is begun

  all_begun : (coming : Option (List Block)) (text said : List ℕ) → IsReportedBy false (begin coming) text said → IsBegunBy false (begin coming) text said
  all_begun None text said reports = tt
  all_begun (Some blocks) text said are = record {
    first = blocks;
    rest = [];
    are = sym (append-nil blocks);
    items = are.items;
    items_are = are.items_are;
    text_is = are.text_is;
    said = are.said;
    said_are = are.said_are;
    more_is = inr (refl, are.more_is);
  }

  pub begins_reported : (text said : List ℕ) → IsReportedBy false whole text said → BeginsLints asking asks bytes (record { text = text; beside = said; ending = Answered })
  begins_reported text said reports = all_begun (blocks_to_come 1 bytes) text said (subst (λ (left : Left). IsReportedBy false left text said) whole_is reports)

  answers : (coming : Option (List Block)) (text said : List ℕ) (some : Bool) (ending : Ending) → some ≡ not (is_empty text)
      → IsReportedBy false (begin coming) text said → EndsBy false (begin coming) ending
      → IfSome coming (λ blocks. IsAnswer asking asks blocks (record { text = text; beside = said; ending = with_difference (asks && some) ending }))
  answers None text said some ending some_is reports ends = tt
  answers (Some blocks) text said some ending some_is are ends = record {
    items = are.items;
    items_are = are.items_are;
    text = are.text_is;
    said = are.said;
    said_are = are.said_are;
    beside = are.more_is;
    ending = ap (λ some. with_difference (asks && some) ending) some_is ∙ ap (with_difference (asks && not (is_empty text))) (ends are.items are.items_are);
  }

  pub answers_listing : (text said : List ℕ) (some : Bool) (ending : Ending) → some ≡ not (is_empty text) → IsReportedBy false whole text said → EndsBy false whole ending
      → AnswersLints asking asks bytes (record { text = text; beside = said; ending = with_difference (asks && some) ending })
  answers_listing text said some ending some_is reports ends =
      answers (blocks_to_come 1 bytes) text said some ending some_is (subst (λ (left : Left). IsReportedBy false left text said) whole_is reports)
      (subst (λ (left : Left). EndsBy false left ending) whole_is ends)

-- where the end was reported, it ends as was counted
pub ended : (left : Left) (ending : Ending) → left.closed ≡ true → ending ≡ ending_of left.tally → EndsSo left ending
ended left ending closed is = subst (λ closed. EndsBy closed left ending) (sym closed) is

-- a block that is refused was reported so
pub refused_block : (asking : LintAsking) (seen : Seen) (block : Block) (refused : FileFault) (fault : Option BlockFault) (out beside beside' : List ℕ)
    → IsFaultOf (file_by (names_of_host asking.host) block.text) refused → IsRefusalSaid asking block refused fault beside beside'
    → IsBlockReported asking seen seen block fault out out beside beside'
refused_block asking seen block (OfBlock why) fault out beside beside' is (same, (said, is_said, more)) = record {
  part = Err why;
  part_is = subst (λ (read : Result FileValue BlockFault). IsPartBy asking seen block read (Err why)) (sym is) refl;
  seen_is = ap (seen_after seen block.line) (sym is);
  is_reported = (sym (append-nil out), (said, is_said, more), sym same);
}
refused_block asking seen block Memory fault out beside beside' is never = absurd never
