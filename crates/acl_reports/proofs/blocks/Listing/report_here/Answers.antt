use Rattle.std.proofs.Common.{rules, ◌≡◌, ◌∙◌, List, ℕ, ap, is_some, subst, sym}
use Rattle.acl_people.specs.Host.{names_of_host}
use Rattle.acl_reports.specs.Listed.{Item, counted, with_item}
use Rattle.acl_reports.specs.Reporting.{IsItemReported}
use Rattle.acl_reports.specs.Strangers.{with_stranger}
use Rattle.acl_reports.specs.declared.strangers.Strangers.{Strangers}
use Rattle.acl_reports.specs.declared.tally.Tally.{Tally}
use Rattle.acl_reports.proofs.blocks.Listing.report_here.Goals as goal

pub returns-clause-reported : goal.returns-clause-reported
returns-clause-reported g c = λ earlier stands.
    let was : Tally = c.args.self.now.counts.tally in
    let block = c.args.self.now.blocks.block in
    let item : Item = record { block = block; part = g.T.BlockReporter.part c.args.self.now.reporter earlier block.text } in
    let reported = subst (λ (text : List ℕ). IsItemReported c.args.self.now.name.now (names_of_host c.args.self.now.host.now)
    (record { block = record { line = block.line; text = text }; part = g.T.BlockReporter.part c.args.self.now.reporter earlier text }) c.in_ok-fault.fault
    c.args.out.now.items c.report_block.new.out.items c.args.beside.now.items c.report_block.new.beside.items) c.text-text.ensures
    (subst (λ (line : ℕ). IsItemReported c.args.self.now.name.now (names_of_host c.args.self.now.host.now)
    (record { block = record { line = line; text = c.text-text.result.now }; part = g.T.BlockReporter.part c.args.self.now.reporter earlier c.text-text.result.now }) c.in_ok-fault.fault
    c.args.out.now.items c.report_block.new.out.items c.args.beside.now.items c.report_block.new.beside.items) c.line-line.ensures
    (c.in_ok-fault.ensures.reported earlier stands)) in
    let (text, (said, is_said, beside), fault) = reported in
    let counted_is : c.add.new.self.tally ≡ with_item was item =
    c.in_ok-add.ensures.tally ∙ ap (λ text. counted was text c.in_ok-fault.fault) c.text-text.ensures ∙ ap (counted was block.text) (sym fault) in
    let stranger = g.T.BlockReporter.stranger c.args.self.now.reporter in
    let found : g.T.BlockReporter.found c.report_block.new.reporter ≡ is_some (stranger c.text-text.result.now) = c.in_ok-fault.ensures.found earlier stands in
    let seen : Strangers = c.args.self.now.counts.strangers in
    let strangers_are : c.add.new.self.strangers ≡ with_stranger seen block.line (stranger block.text) = search rules in
    record { text = text; said = said; is_said = is_said; beside_is = beside; tally_is = counted_is; strangers_is = strangers_are }
