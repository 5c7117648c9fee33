use Rattle.std.proofs.Common.{rules, ◌≡◌, Ok, codes}
use Rattle.clap.specs.Words.{found_of, rows_of}
use Rattle.acl_cli.specs.Fields.{id_in}
use Rattle.acl_queries.specs.Compared.{compared_in}
use Rattle.acl_cli.specs.Failures.{Explains}
use Rattle.acl_queries.proofs.ComparedLemmas.{compared-read, last-explains}
use Rattle.acl_queries.proofs.compare_command.comparison.ComparisonQuery.read.Goals as goal

pub returns-in_err-second-clause-refused : goal.returns-in_err-second-clause-refused
returns-in_err-second-clause-refused c =
    let rows = rows_of (found_of c.args.matches.now) in
    let owner : id_in (codes "owner") rows ≡ Ok c.in_ok-owner.owner = search rules in
    let group : id_in (codes "group") rows ≡ Ok c.in_ok-group.group = search rules in
    let explained : Explains (compared_in rows) c.in_err-second.field-0.0 =
    last-explains c.in_ok-owner.owner c.in_ok-group.group c.in_ok-first.first rows owner group c.in_ok-first.ensures.read
    c.in_err-second.field-0.0 c.in_err-second.ensures.refused in
    search (rules, explained)

pub returns-clause-read : goal.returns-clause-read
returns-clause-read c =
    let rows = rows_of (found_of c.args.matches.now) in
    let owner : id_in (codes "owner") rows ≡ Ok c.in_ok-owner.owner = search rules in
    let group : id_in (codes "group") rows ≡ Ok c.in_ok-group.group = search rules in
    compared-read c.in_ok-owner.owner c.in_ok-group.group c.in_ok-first.first rows owner group c.in_ok-first.ensures.read
    c.in_ok-second.second c.in_ok-second.ensures.read
