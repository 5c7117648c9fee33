use Rattle.acl_listing_changes.proofs.ChangeLemmas.{reported_next, reported_or_last}
use Rattle.acl_listing_changes.proofs.between.changes.ChangesReporting.report_next.Goals as goal

pub returns-in_ok-open-in-Opening-clause-reported : goal.returns-in_ok-open-in-Opening-clause-reported
returns-in_ok-open-in-Opening-clause-reported g c =
    let wording = g.C.ChangeReporter.wording c.args.self.now.sides.reporter.now in
    let name = c.args.self.now.sides.name.now in
    let before = c.args.self.now.sides.before.now in
    reported_next wording name before c.args.self.now.progress c.open.new.self c.args.out.now.items c.open.new.out.items c.args.beside.now.items c.open.new.beside.items c.in_ok-open-in-Opening.ensures

pub returns-in_ok-go_on-in-After-clause-reported : goal.returns-in_ok-go_on-in-After-clause-reported
returns-in_ok-go_on-in-After-clause-reported g c =
    let wording = g.C.ChangeReporter.wording c.args.self.now.sides.reporter.now in
    let name = c.args.self.now.sides.name.now in
    let before = c.args.self.now.sides.before.now in
    reported_next wording name before c.args.self.now.progress c.go_on.new.self c.args.out.now.items c.go_on.new.out.items c.args.beside.now.items c.go_on.new.beside.items c.in_ok-go_on-in-After.ensures.step

pub returns-in_ok-some-in-Gone-clause-reported : goal.returns-in_ok-some-in-Gone-clause-reported
returns-in_ok-some-in-Gone-clause-reported g c =
    let wording = g.C.ChangeReporter.wording c.args.self.now.sides.reporter.now in
    let name = c.args.self.now.sides.name.now in
    let before = c.args.self.now.sides.before.now in
    reported_or_last wording name before c.args.self.now.progress c.report_gone.new.self c.args.out.now.items c.report_gone.new.out.items c.args.beside.now.items c.report_gone.new.beside.items c.in_ok-some-in-Gone.some c.in_ok-some-in-Gone.ensures
