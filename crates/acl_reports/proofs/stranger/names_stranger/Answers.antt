use Rattle.std.proofs.Common.{rules, ◌≡◌, ◌∙◌}
use Rattle.acl_listings.specs.Views.{view_file}
use Rattle.acl_reports.specs.Strangers.{names_stranger}
use Rattle.acl_reports.proofs.SightedLemmas.{block_sighted}
use Rattle.acl_reports.proofs.stranger.names_stranger.Goals as goal

pub returns-then-lacks_group-clause-sighted : goal.returns-then-lacks_group-clause-sighted
returns-then-lacks_group-clause-sighted c = λ text reads.
    let named : c.if-lacks_user.value ≡ names_stranger c.args.host.now (view_file c.args.file.now) = search rules in
    named ∙ block_sighted c.args.host.now text (view_file c.args.file.now) reads

pub returns-else-lacks_group-clause-sighted : goal.returns-else-lacks_group-clause-sighted
returns-else-lacks_group-clause-sighted c = λ text reads.
    let named : c.lists_have_stranger.result ≡ names_stranger c.args.host.now (view_file c.args.file.now) = search rules in
    named ∙ block_sighted c.args.host.now text (view_file c.args.file.now) reads
