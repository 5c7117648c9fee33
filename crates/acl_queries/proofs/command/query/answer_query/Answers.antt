use Rattle.std.proofs.Common.{◌≡◌, Err, Result, rules, subst, sym}
use Rattle.std.specs.Io.KnownBytes.{Appends}
use Rattle.clap.specs.Words.{found_of, rows_of}
use Rattle.acl_cli.specs.Commands.{Comes}
use Rattle.acl_cli.specs.Failures.{failed_write}
use Rattle.acl_cli.specs.Output.{AppendsFront}
use Rattle.acl_cli.specs.declared.command.Ending.{Ending}
use Rattle.acl_cli.specs.declared.failure.Failure.{Failure}
use Rattle.acl_queries.specs.Queries.{query_meaning}
use Rattle.acl_queries.proofs.QueryLemmas.{Comes-unwritten, Comes-written}
use Rattle.acl_queries.proofs.command.query.answer_query.Goals as goal

pub returns-in_err-write_text : goal.returns-in_err-write_text
returns-in_err-write_text g c =
    let rows = rows_of (found_of c.args.matches.now) in
    let out = g.W.Write.contents c.args.out.now in
    let out' = g.W.Write.contents c.write_text.new.out in
    let front : AppendsFront out out' c.in_ok-text.text.items = search rules in
    let is : c.from_residual-in_err-write_text.result ≡ Err failed_write = search rules in
    let comes = Comes-unwritten g.Q.Query.located g.Q.Query.asked_in g.Q.Query.IsAnswer rows c.in_ok-query.query c.in_ok-query.ensures.read c.in_ok-text.text.items
    c.in_ok-text.ensures out out' c.args._err.now c.args._input.now front in
    subst (λ (result : Result Ending Failure). Comes (query_meaning g.Q.Query.located g.Q.Query.asked_in g.Q.Query.IsAnswer rows) result out out' c.args._err.now c.args._err.now c.args._input.now c.args._input.now)
    (sym is) comes

pub returns : goal.returns
returns g c =
    let rows = rows_of (found_of c.args.matches.now) in
    let out = g.W.Write.contents c.args.out.now in
    let out' = g.W.Write.contents c.write_text.new.out in
    let went : Appends out out' c.in_ok-text.text.items = search rules in
    Comes-written g.Q.Query.located g.Q.Query.asked_in g.Q.Query.IsAnswer rows c.in_ok-query.query c.in_ok-query.ensures.read c.in_ok-text.text.items c.in_ok-text.ensures
    out out' c.args._err.now c.args._input.now went
