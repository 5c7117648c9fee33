-- A listing that is reported one block further.
use Rattle.std.proofs.Common.{◌≡◌, ◌∙◌, ◌++◌, ℕ, Bool, true, false, List, [], ◌∷◌, Option, Some, None, IfSome, ap, append_assoc, append-nil, inl, inr, length, refl, subst, sym}
use Rattle.std.proofs.Math.Seq.{take-length}
use Rattle.acl_cli.specs.Commands.{Answer, FrontWentOut}
use Rattle.acl_cli.specs.ErrorOutput.{ErrorText, Reports}
use Rattle.acl_cli.specs.Output.{AppendsFront}
use Rattle.acl_cli.specs.declared.command.Ending.TheVariants.{Answered}
use Rattle.std.proofs.lemmas.List.{append_cancel_left}
use Rattle.acl_names.specs.Names.{Names}
use Rattle.acl_cli.specs.Reporting.{LeadsOn}
use Rattle.acl_cli.specs.declared.command.Ending.{Ending}
use Rattle.acl_listings.specs.Cursor.{HandsOut, IsOver, blocks_to_come}
use Rattle.acl_listings.specs.Listing.{Block}
use Rattle.acl_reports.specs.Listed.{AnswersNaming, AreBegun, BeginsNaming, IsAnswer, IsSaid, Item, Part, ending_of, items_after, last_lines, last_lines_with, no_blocks, reported_of, with_item, with_stranger_of}
use Rattle.acl_reports.specs.Reporting.{BeginsOf, EndsBy, EndsOf, IsBegunBy, IsItemDone, IsSaidLeft, IsReportedBy, Left, ReportsOf}
use Rattle.acl_reports.specs.Strangers.{no_strangers, with_stranger}
use Rattle.acl_reports.specs.declared.stranger.Stranger.{Stranger}
use Rattle.acl_reports.specs.declared.strangers.Strangers.{Strangers}
use Rattle.acl_reports.specs.declared.tally.Tally.{Tally}

module _ (name : List ℕ) (names : Names) (part : List (List ℕ) → List ℕ → Part) (stranger : List ℕ → Option Stranger) (tally : Tally) (strangers : Strangers) (earlier : List (List ℕ)) (block : Block) where
  abbrev item : Item
  item = record { block = block; part = part earlier block.text }

  abbrev behind : List (List ℕ)
  behind = earlier ++ block.text ∷ []

  abbrev standing : Tally → Strangers → Option (List Block) → Left
  standing tally strangers coming = record { name = name; names = names; part = part; stranger = stranger; tally = tally; strangers = strangers; closed = false; coming = coming }

  abbrev old : Option (List Block) → Left
  old = standing tally strangers

  abbrev more_strangers : Strangers
  more_strangers = with_stranger_of stranger strangers item

  abbrev new : Option (List Block) → Left
  new = standing (with_item tally item) more_strangers

  said_more : (items : List Item) (first rest : List ℕ) → IsSaid name names block item.part first → IsSaidLeft (new None) items rest → IsSaidLeft (old None) (item ∷ items) (first ++ rest)
  said_more items first rest is (said, are, same) =
      (first ++ said, (first, said, is, are, refl), ap (λ text. first ++ text) same ∙ sym (append_assoc first said (last_lines_with name stranger (with_item tally item) more_strangers items)))

  reported_more : (coming more : Option (List Block)) → HandsOut coming block more → (said : List ℕ) → IsSaid name names block item.part said
      → (rest others : List ℕ) → IsReportedBy false (new more) behind rest others → IsReportedBy false (old coming) earlier (reported_of item.part ++ rest) (said ++ others)
  reported_more None more hands said is rest others reports = tt
  reported_more (Some blocks) None hands said is rest others reports = absurd hands
  reported_more (Some blocks) (Some left) hands said is rest others (text, are) =
      subst (λ blocks. IsReportedBy false (old (Some blocks)) earlier (reported_of item.part ++ rest) (said ++ others)) (sym hands)
      (ap (λ rest. reported_of item.part ++ rest) text, said_more (items_after part behind left) said others is are)

  first_more : (items : List Item) (said : List ℕ) → IsSaid name names block item.part said → (rest others : List ℕ) → AreBegun name names stranger (with_item tally item) more_strangers items rest others
      → AreBegun name names stranger tally strangers (item ∷ items) (reported_of item.part ++ rest) (said ++ others)
  first_more items said is rest others begun = record {
    first = item ∷ begun.first;
    rest = begun.rest;
    are = ap (λ items. item ∷ items) begun.are;
    text_is = ap (λ rest. reported_of item.part ++ rest) begun.text_is;
    said = said ++ begun.said;
    said_are = (said, begun.said, is, begun.said_are, refl);
    more_is = elim begun.more_is [
      | inl same ↦ inl (ap (λ text. said ++ text) same)
      | inr (none, same) ↦ inr (none, ap (λ text. said ++ text) same ∙ sym (append_assoc said begun.said (last_lines_with name stranger (with_item tally item) more_strangers begun.first)))
    ];
  }

  begun_more : (coming more : Option (List Block)) → HandsOut coming block more → (said : List ℕ) → IsSaid name names block item.part said
      → (rest others : List ℕ) → IsBegunBy false (new more) behind rest others → IsBegunBy false (old coming) earlier (reported_of item.part ++ rest) (said ++ others)
  begun_more None more hands said is rest others begins = tt
  begun_more (Some blocks) None hands said is rest others begins = absurd hands
  begun_more (Some blocks) (Some left) hands said is rest others begins =
      subst (λ blocks. IsBegunBy false (old (Some blocks)) earlier (reported_of item.part ++ rest) (said ++ others)) (sym hands)
      (first_more (items_after part behind left) said is rest others begins)

-- nothing yet is a front
pub begun_nothing : (left : Left) (closed : Bool) (earlier : List (List ℕ)) → IsBegunBy closed left earlier [] []
begun_nothing left true earlier = (refl, refl)
begun_nothing left false earlier = by left.coming
  where
    by : (coming : Option (List Block)) → IfSome coming (λ blocks. AreBegun left.name left.names left.stranger left.tally left.strangers (items_after left.part earlier blocks) [] [])
    by None = tt
    by (Some blocks) = record { first = []; rest = items_after left.part earlier blocks; are = refl; text_is = refl; said = []; said_are = refl; more_is = inl refl }

-- of two states of which the new one stands one block further
pub record IsNext (Old New : List (List ℕ) → Type 0) (left next : Left) (block : Block) (out out' beside beside' : List ℕ) : Type 0 where
  pub was_open : left.closed ≡ false
  pub still : next.closed ≡ false
  pub name : next.name ≡ left.name
  pub names : next.names ≡ left.names
  pub part : next.part ≡ left.part
  pub stranger : next.stranger ≡ left.stranger
  pub hands : HandsOut left.coming block next.coming
  pub stands : (earlier : List (List ℕ)) → Old earlier → New (earlier ++ block.text ∷ [])
  pub done : (earlier : List (List ℕ)) → Old earlier
      → IsItemDone left.name left.names (record { block = block; part = left.part earlier block.text }) (left.stranger block.text) left.tally next.tally left.strangers next.strangers out out' beside beside'

module _ (Old New : List (List ℕ) → Type 0) (left next : Left) (block : Block) (out out' beside beside' : List ℕ) (is : IsNext Old New left next block out out' beside beside') where
  abbrev item_at : List (List ℕ) → Item
  item_at earlier = item left.name left.names left.part left.stranger left.tally left.strangers earlier block

  abbrev next_for : List (List ℕ) → Left
  next_for earlier = record {
    name = left.name;
    names = left.names;
    part = left.part;
    stranger = left.stranger;
    tally = with_item left.tally (item_at earlier);
    strangers = with_stranger left.strangers block.line (left.stranger block.text);
    closed = false;
    coming = next.coming;
  }

  next_is : (earlier : List (List ℕ)) → Old earlier → next ≡ next_for earlier
  next_is earlier stands =
      let done = is.done earlier stands in
      ap (λ name. record next { name = name }) is.name
      ∙ ap (λ names. record next { name = left.name; names = names }) is.names
      ∙ ap (λ part. record next { name = left.name; names = left.names; part = part }) is.part
      ∙ ap (λ stranger. record next { name = left.name; names = left.names; part = left.part; stranger = stranger }) is.stranger
      ∙ ap (λ tally. record (next_for earlier) { tally = tally; strangers = next.strangers; closed = next.closed }) done.tally_is
      ∙ ap (λ strangers. record (next_for earlier) { strangers = strangers; closed = next.closed }) done.strangers_is
      ∙ ap (λ closed. record (next_for earlier) { closed = closed }) is.still

  left_is : left ≡ record left { closed = false }
  left_is = ap (λ closed. record left { closed = closed }) is.was_open

  -- what was appended is what is reported for the item, behind whatever blocks it stands
  pub appended : (witness : List (List ℕ)) (there : Old witness) (earlier : List (List ℕ)) (stands : Old earlier)
      → (reported_of (item_at witness).part ≡ reported_of (item_at earlier).part) × ((is.done witness there).said ≡ (is.done earlier stands).said)
  appended witness there earlier stands =
      let one = is.done witness there in
      let other = is.done earlier stands in (
        append_cancel_left out (reported_of (item_at witness).part) (reported_of (item_at earlier).part) (sym one.text ∙ other.text),
        append_cancel_left beside one.said other.said (sym one.beside_is ∙ other.beside_is),
      )

  -- what is reported from here on
  pub reported_on : (witness : List (List ℕ)) (there : Old witness) → LeadsOn (ReportsOf Old left) (ReportsOf New next) (reported_of (item_at witness).part) (is.done witness there).said
  reported_on witness there = λ rest others reports earlier stands.
      let same = appended witness there earlier stands in
      let own = is.done earlier stands in
      let now = reports (earlier ++ block.text ∷ []) (is.stands earlier stands) in
      let at = subst (λ (next : Left). IsReportedBy next.closed next (earlier ++ block.text ∷ []) rest others) (next_is earlier stands) now in
      let all = reported_more left.name left.names left.part left.stranger left.tally left.strangers earlier block left.coming next.coming is.hands own.said own.is_said rest others at in
      subst (λ (left : Left). IsReportedBy left.closed left earlier (reported_of (item_at witness).part ++ rest) ((is.done witness there).said ++ others)) (sym left_is)
      (subst (λ text. IsReportedBy false (record left { closed = false }) earlier (text ++ rest) ((is.done witness there).said ++ others)) (sym same.0)
      (subst (λ said. IsReportedBy false (record left { closed = false }) earlier (reported_of (item_at earlier).part ++ rest) (said ++ others)) (sym same.1) all))

  pub begun_on : (witness : List (List ℕ)) (there : Old witness) → LeadsOn (BeginsOf Old left) (BeginsOf New next) (reported_of (item_at witness).part) (is.done witness there).said
  begun_on witness there = λ rest others begins. (
    (witness, there),
    λ earlier stands.
        let same = appended witness there earlier stands in
        let own = is.done earlier stands in
        let now = begins.1 (earlier ++ block.text ∷ []) (is.stands earlier stands) in
        let at = subst (λ (next : Left). IsBegunBy next.closed next (earlier ++ block.text ∷ []) rest others) (next_is earlier stands) now in
        let all = begun_more left.name left.names left.part left.stranger left.tally left.strangers earlier block left.coming next.coming is.hands own.said own.is_said rest others at in
        subst (λ (left : Left). IsBegunBy left.closed left earlier (reported_of (item_at witness).part ++ rest) ((is.done witness there).said ++ others)) (sym left_is)
        (subst (λ text. IsBegunBy false (record left { closed = false }) earlier (text ++ rest) ((is.done witness there).said ++ others)) (sym same.0)
        (subst (λ said. IsBegunBy false (record left { closed = false }) earlier (reported_of (item_at earlier).part ++ rest) (said ++ others)) (sym same.1) all)),
  )

  pub begun_now : (witness : List (List ℕ)) → Old witness → BeginsOf New next [] []
  begun_now witness there = ((witness ++ block.text ∷ [], is.stands witness there), λ earlier stands. begun_nothing next next.closed earlier)

-- the end is reported
module _ (Stands : List (List ℕ) → Type 0) (left : Left) (coming : Option (List Block)) (was_open : left.closed ≡ false) (over : IsOver left.coming) where
  abbrev closed : Left
  closed = record left { closed = true; coming = coming }

  abbrev opened : Option (List Block) → Left
  opened coming = record left { closed = false; coming = coming }

  opened_is : left ≡ opened left.coming
  opened_is = ap (λ closed. record left { closed = closed }) was_open

  reported_end : (coming : Option (List Block)) → IsOver coming → (earlier : List (List ℕ)) (rest others : List ℕ) → IsReportedBy true closed earlier rest others
      → IsReportedBy false (opened coming) earlier rest (last_lines left.name left.tally left.strangers ++ others)
  reported_end None over earlier rest others reports = tt
  reported_end (Some blocks) over earlier rest others (none, nothing) =
      subst (λ blocks. IsReportedBy false (opened (Some blocks)) earlier rest (last_lines left.name left.tally left.strangers ++ others)) (sym over)
      (none, ([], refl, ap (λ others. last_lines left.name left.tally left.strangers ++ others) nothing ∙ append-nil (last_lines left.name left.tally left.strangers)))

  begun_end : (coming : Option (List Block)) → IsOver coming → (earlier : List (List ℕ)) (rest others : List ℕ) → IsBegunBy true closed earlier rest others
      → IsBegunBy false (opened coming) earlier rest (last_lines left.name left.tally left.strangers ++ others)
  begun_end None over earlier rest others begins = tt
  begun_end (Some blocks) over earlier rest others (none, nothing) =
      subst (λ blocks. IsBegunBy false (opened (Some blocks)) earlier rest (last_lines left.name left.tally left.strangers ++ others)) (sym over)
      (record {
        first = [];
        rest = [];
        are = refl;
        text_is = none;
        said = [];
        said_are = refl;
        more_is = inr (refl, ap (λ others. last_lines left.name left.tally left.strangers ++ others) nothing ∙ append-nil (last_lines left.name left.tally left.strangers));
      })

  ends_end : (coming : Option (List Block)) → IsOver coming → (earlier : List (List ℕ)) (ending : Ending) → ending ≡ ending_of left.tally → EndsBy false (opened coming) earlier ending
  ends_end None over earlier ending ends = tt
  ends_end (Some blocks) over earlier ending ends = subst (λ blocks. EndsBy false (opened (Some blocks)) earlier ending) (sym over) ends

  pub reported_closing : LeadsOn (ReportsOf Stands left) (ReportsOf Stands closed) [] (last_lines left.name left.tally left.strangers)
  reported_closing = λ rest others reports earlier stands.
      subst (λ (left : Left). IsReportedBy left.closed left earlier rest (last_lines left.name left.tally left.strangers ++ others)) (sym opened_is) (reported_end left.coming over earlier rest others (reports earlier stands))

  pub begun_closing : (witness : List (List ℕ)) → Stands witness → LeadsOn (BeginsOf Stands left) (BeginsOf Stands closed) [] (last_lines left.name left.tally left.strangers)
  begun_closing witness there = λ rest others begins. (
    (witness, there),
    λ earlier stands.
        subst (λ (left : Left). IsBegunBy left.closed left earlier rest (last_lines left.name left.tally left.strangers ++ others)) (sym opened_is) (begun_end left.coming over earlier rest others (begins.1 earlier stands)),
  )

  pub begun_closed : (witness : List (List ℕ)) → Stands witness → BeginsOf Stands closed [] []
  begun_closed witness there = ((witness, there), λ earlier stands. (refl, refl))

  pub ends_closing : (ending : Ending) → EndsOf Stands closed ending → EndsOf Stands left ending
  ends_closing ending ends = λ earlier stands.
      subst (λ (left : Left). EndsBy left.closed left earlier ending) (sym opened_is) (ends_end left.coming over earlier ending (ends earlier stands))

-- ---- a whole listing

begun_all : (name : List ℕ) (names : Names) (part : List (List ℕ) → List ℕ → Part) (stranger : List ℕ → Option Stranger) (tally : Tally) (strangers : Strangers) (coming : Option (List Block)) (text said : List ℕ)
    → IsReportedBy false (record { name = name; names = names; part = part; stranger = stranger; tally = tally; strangers = strangers; closed = false; coming = coming }) [] text said
    → IsBegunBy false (record { name = name; names = names; part = part; stranger = stranger; tally = tally; strangers = strangers; closed = false; coming = coming }) [] text said
begun_all name names part stranger tally strangers None text said reports = tt
begun_all name names part stranger tally strangers (Some blocks) text said (text_is, (own, are, same)) =
    record { first = items_after part [] blocks; rest = []; are = sym (append-nil (items_after part [] blocks)); text_is = text_is; said = own; said_are = are; more_is = inr (refl, same) }

-- fronts of what is reported and said went out
pub front_out : (Is : Answer → Type 0) (out out' : Option (List ℕ)) (err err' : ErrorText) (text said : List ℕ) → Is (record { text = text; beside = said; ending = Answered })
    → AppendsFront out out' text → Reports said err err' → FrontWentOut Is out out' err err'
front_out Is out out' err err' text said is front reports = record {
  answer = record { text = text; beside = said; ending = Answered };
  is = is;
  text = front;
  said = length said;
  beside = subst (λ said. Reports said err err') (sym (take-length said)) reports;
}

module _ (name : List ℕ) (names : Names) (part : List (List ℕ) → List ℕ → Part) (stranger : List ℕ → Option Stranger) (tally : Tally) (strangers : Strangers) (coming : Option (List Block))
    (bytes : Option (List ℕ)) (none : tally ≡ no_blocks) (nobody : strangers ≡ no_strangers) (coming_is : coming ≡ blocks_to_come 1 bytes) where
  abbrev whole : Left
  whole = record { name = name; names = names; part = part; stranger = stranger; tally = tally; strangers = strangers; closed = false; coming = coming }

  abbrev at_first : Option (List Block) → Left
  at_first coming = record { name = name; names = names; part = part; stranger = stranger; tally = no_blocks; strangers = no_strangers; closed = false; coming = coming }

  whole_is : whole ≡ at_first (blocks_to_come 1 bytes)
  whole_is =
      ap (λ tally. record whole { tally = tally }) none
      ∙ ap (λ strangers. record whole { tally = no_blocks; strangers = strangers }) nobody
      ∙ ap at_first coming_is

  pub begins_listing : (text said : List ℕ) → IsBegunBy false whole [] text said → BeginsNaming name names part stranger bytes (record { text = text; beside = said; ending = Answered })
  begins_listing text said begun = subst (λ (left : Left). IsBegunBy false left [] text said) whole_is begun

  pub begins_reported : (text said : List ℕ) → IsReportedBy false whole [] text said → BeginsNaming name names part stranger bytes (record { text = text; beside = said; ending = Answered })
  begins_reported text said reports = begins_listing text said (begun_all name names part stranger tally strangers coming text said reports)

  answers : (coming : Option (List Block)) (text said : List ℕ) (ending : Ending)
      → IsReportedBy false (at_first coming) [] text said
      → EndsBy false (at_first coming) [] ending
      → IfSome coming (λ blocks. IsAnswer name names stranger (items_after part [] blocks) (record { text = text; beside = said; ending = ending }))
  answers None text said ending reports ends = tt
  answers (Some blocks) text said ending (text_is, (own, are, same)) ends = record { text = text_is; said = own; said_are = are; beside = same; ending = ends }

  pub answers_listing : (text said : List ℕ) (ending : Ending) → IsReportedBy false whole [] text said → EndsBy false whole [] ending
      → AnswersNaming name names part stranger bytes (record { text = text; beside = said; ending = ending })
  answers_listing text said ending reports ends =
      answers (blocks_to_come 1 bytes) text said ending (subst (λ (left : Left). IsReportedBy false left [] text said) whole_is reports)
      (subst (λ (left : Left). EndsBy false left [] ending) whole_is ends)

-- where the end was reported, it ends as was counted
pub ended : (left : Left) (earlier : List (List ℕ)) (ending : Ending) → left.closed ≡ true → ending ≡ ending_of left.tally → EndsBy left.closed left earlier ending
ended left earlier ending closed is = subst (λ closed. EndsBy closed left earlier ending) (sym closed) is
