use Rattle.std.proofs.Common.{◌≡◌, ◌∙◌, ◌++◌, ◌∷◌, [], ℕ, List, Option, ap, is_some, option_map, subst, sym}
use Rattle.acl_listings.specs.Block.{path_of}
use Rattle.acl_listings.specs.Listing.{Block}
use Rattle.acl_listings.specs.declared.fault.BlockFault.{BlockFault}
use Rattle.acl_people.specs.Host.{names_of_host}
use Rattle.acl_reports.specs.Listed.{IsSaid, Part, counted}
use Rattle.acl_reports.specs.Strangers.{with_stranger}
use Rattle.acl_reports.specs.declared.stranger.Stranger.{Stranger}
use Rattle.acl_listing_changes.specs.Changes.{part_of, unless_repeated}
use Rattle.acl_listing_reach.specs.AnsweredSteps.{AreListed, letters_unless}
use Rattle.acl_listing_reach.specs.Once.{At, is_repeated, with_path}
use Rattle.acl_listing_reach.proofs.AnsweredLemmas.{answered_more, listed_more, repeated_by}
use Rattle.acl_listing_reach.proofs.answered.Answered.add.Goals as goal

pub returns-clause-answered : goal.returns-clause-answered
returns-clause-answered g c = λ earlier items stands listed was.
    let name = c.args.name.now in
    let names = names_of_host c.args.host.now in
    let text = c.args.text.now in
    let block : Block = record { line = c.args.line; text = text } in
    let part : Part = g.T.BlockReporter.part c.args.reporter.now earlier text in
    let stranger = g.T.BlockReporter.stranger c.args.reporter.now in
    let known : List At = c.args.self.now.known in
    let own = c.in_ok-own.own in
    let letters = c.letters_of.new.letters.items in
    let repeated = is_repeated earlier text in
    let fault = unless_repeated repeated own in
    let fault_is : c.unless_repeated-fault.result ≡ fault =
    c.unless_repeated-fault.ensures ∙ ap (λ b. unless_repeated b own) (c.is_known-repeated.ensures ∙ repeated_by earlier known listed text) in
    let kept : Option (List ℕ) = option_map (λ letters. letters.now) c.letters_unless-letters.result in
    let kept_is : kept ≡ letters_unless fault letters =
    c.letters_unless-letters.ensures ∙ ap (letters_unless c.unless_repeated-fault.result) c.as_slice.ensures.value ∙ ap (λ (fault : Option BlockFault). letters_unless fault letters) fault_is in
    let was_counted = c.args.self.now.counts in
    let tally_is = c.in_ok-add.ensures.tally ∙ ap (counted was_counted.tally text) fault_is in
    let same = c.in_ok-own.ensures.strangers in
    let sighted = c.sighting_of-sighting.ensures (c.in_ok-own.ensures.found earlier stands ∙ ap (λ (stranger : List ℕ → Option Stranger). is_some (stranger text)) (sym same)) in
    let strangers_are = c.in_ok-add.ensures.strangers (g.T.BlockReporter.stranger c.letters_of.new.reporter text) sighted
    ∙ ap (λ (stranger : List ℕ → Option Stranger). with_stranger was_counted.strangers c.args.line (stranger text)) same in
    let (more, said, said_is) = c.in_ok-say.ensures.said in (
      answered_more name names stranger items known c.args.self.now.said.items was_counted was block part repeated own letters (c.in_ok-own.ensures.part earlier stands)
          c.keep.new.known (c.in_ok-keep.ensures ∙ ap (with_path known (path_of text)) kept_is)
          more c.say.new.said.items (subst (λ (fault : Option BlockFault). IsSaid name names block (part_of fault) more) fault_is said) said_is
          c.add.new.self tally_is strangers_are,
      subst (AreListed (earlier ++ text ∷ [])) (sym c.in_ok-keep.ensures) (listed_more earlier known listed text kept),
    )
