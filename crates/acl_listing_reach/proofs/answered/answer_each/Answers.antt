use Rattle.std.proofs.Common.{rules, ◌≡◌, ◌∙◌, ◌++◌, ◌∷◌, [], ℕ, List, Option, true, ap, refl, subst, sym}
use Rattle.acl_cli.proofs.ReportingLemmas.{if_true}
use Rattle.acl_listings.specs.Cursor.{HandsOut}
use Rattle.acl_listings.specs.Listing.{Block}
use Rattle.acl_people.specs.Host.{names_of_host}
use Rattle.acl_reports.specs.Listed.{Part}
use Rattle.acl_reports.specs.declared.stranger.Stranger.{Stranger}
use Rattle.acl_listing_reach.specs.AnsweredSteps.{AreAnswered, AreListed}
use Rattle.acl_listing_reach.specs.Once.{part_once}
use Rattle.acl_listing_reach.proofs.AnsweredLemmas.{answered_none, answered_on}
use Rattle.acl_listing_reach.proofs.answered.answer_each.Goals as goal

pub loop-init : goal.loop-init
loop-init g c = record {
  same = refl;
  same_strangers = refl;
  answered = answered_none (g.T.BlockReporter.Stands c.args.reporter) c.requires (g.T.BlockReporter.part c.args.reporter) (g.T.BlockReporter.stranger c.args.reporter)
      c.args.name.now (names_of_host c.args.host.now) c.args.blocks.now.coming c.new-answered.result.known c.new-answered.result.said.items c.new-answered.result.counts
      c.new-answered.ensures.known c.new-answered.ensures.said c.new-answered.ensures.tally c.new-answered.ensures.strangers;
}

pub loop-preserved : goal.loop-preserved
loop-preserved g c =
    let part = g.T.BlockReporter.part c.args.reporter in
    let stranger = g.T.BlockReporter.stranger c.args.reporter in
    let Old = g.T.BlockReporter.Stands c.loop.reporter in
    let New = g.T.BlockReporter.Stands c.add.new.reporter in
    let name = c.args.name.now in
    let names = names_of_host c.args.host.now in
    let was = c.loop.invariant in
    let some : c.in_ok-advance.field-0 ≡ true = search rules in
    let handed : Block = c.advance.new.blocks.block in
    let block : Block = record { line = c.line.result; text = c.text.result.now } in
    let same : block ≡ handed = ap (λ (line : ℕ). record { line = line; text = c.text.result.now }) c.line.ensures ∙ ap (λ (text : List ℕ). record { line = handed.line; text = text }) c.text.ensures in
    let hands : HandsOut c.loop.blocks.coming block c.advance.new.blocks.coming =
    subst (λ (block : Block). HandsOut c.loop.blocks.coming block c.advance.new.blocks.coming) (sym same) (if_true _ _ _ some c.in_ok-advance.ensures.block) in
    record {
      same = c.in_ok-add.ensures.same ∙ was.same;
      same_strangers = c.in_ok-add.ensures.strangers ∙ was.same_strangers;
      answered = answered_on Old New part stranger name names c.args.blocks.now.coming c.loop.blocks.coming c.advance.new.blocks.coming block
          c.loop.answered.known c.add.new.self.known c.loop.answered.said.items c.add.new.self.said.items c.loop.answered.counts c.add.new.self.counts was.answered hands c.in_ok-add.ensures.stands
          (λ earlier items stands listed answered.
          let Now = λ (stranger : List ℕ → Option Stranger) (part : List (List ℕ) → List ℕ → Part).
          AreAnswered name names stranger (items ++ record { block = block; part = part_once part earlier block.text } ∷ []) c.add.new.self.known c.add.new.self.said.items c.add.new.self.counts
          × AreListed (earlier ++ block.text ∷ []) c.add.new.self.known in
          let Was = λ (stranger : List ℕ → Option Stranger). AreAnswered name names stranger items c.loop.answered.known c.loop.answered.said.items c.loop.answered.counts in
          let now = c.in_ok-add.ensures.answered earlier items stands listed (subst Was (sym was.same_strangers) answered) in
          subst (Now stranger) was.same (subst (λ stranger. Now stranger (g.T.BlockReporter.part c.loop.reporter)) was.same_strangers now));
    }
