use Rattle.std.proofs.Common.{rules, ◌≡◌, ◌∙◌, ◌++◌, ◌||◌, true, false, ap, length, nat_lt, ℕ, List, subst}
use Rattle.std.specs.Io.KnownBytes.{Appends}
use Rattle.acl_cli.specs.ErrorOutput.{Reports as GoesTo}
use Rattle.acl_cli.specs.Output.{AppendsFront}
use Rattle.acl_cli.proofs.ErrorLemmas.{Reports-both}
use Rattle.acl_cli.proofs.PiecesLemmas.{front_now, keeps_more, sends, sends_all, sends_front}
use Rattle.acl_cli.proofs.ReportingLemmas.{LeadsOn-end, LeadsOn-more, cut_at, if_false, if_true}
use Rattle.acl_cli.proofs.ReportedLemmas.{some_more}
use Rattle.acl_cli.proofs.reporting.report_each.Goals as goal

pub returns-in_err-report_next-clause-cut : goal.returns-in_err-report_next-clause-cut
returns-in_err-report_next-clause-cut g c =
    let was = c.loop.invariant in
    let Begins = g.T.Reporting.Begins in
    cut_at _ (Begins c.args.reporting.now) (Begins c.loop.reporting) _ _ _ _ was.reported was.said was.first was.begun (front_now _ _ _ _ was.out) was.beside

pub returns-in_err-write_text-clause-cut : goal.returns-in_err-write_text-clause-cut
returns-in_err-write_text-clause-cut g c =
    let was = c.loop.invariant in
    let Begins = g.T.Reporting.Begins in
    let none : c.in_ok-report_next.field-0 ≡ false = search rules in
    let over = if_false _ _ _ none c.in_ok-report_next.ensures.reported in
    let last = g.W.Write.contents c.write_text.new.out in
    let kept : c.as_slice.result.now ≡ c.loop.text.items = search (rules, over.0) in
    let front : AppendsFront (g.W.Write.contents c.loop.out) last c.loop.text.items =
    subst (AppendsFront (g.W.Write.contents c.loop.out) last) kept c.write_text.ensures.front in
    cut_at _ (Begins c.args.reporting.now) (Begins c.loop.reporting) _ last _ _ was.reported was.said was.first was.begun (sends_front _ _ _ was.reported was.out last front) was.beside

pub returns-then-not-branch-clause-written : goal.returns-then-not-branch-clause-written
returns-then-not-branch-clause-written g c =
    let was = c.loop.invariant in
    let Reports = g.T.Reporting.Reports in
    let none : c.in_ok-report_next.field-0 ≡ false = search rules in
    let over = if_false _ _ _ none c.in_ok-report_next.ensures.reported in
    let last = g.W.Write.contents c.write_text.new.out in
    let kept : c.as_slice.result.now ≡ c.loop.text.items = search (rules, over.0) in
    let whole : Appends (g.W.Write.contents c.loop.out) last c.loop.text.items =
    subst (Appends (g.W.Write.contents c.loop.out) last) kept c.in_ok-write_text.ensures.written in (
      was.reported,
      was.said,
      LeadsOn-end (Reports c.args.reporting.now) (Reports c.loop.reporting) was.reported was.said was.all over.2,
      sends_all _ _ _ was.reported was.out last whole,
      was.beside,
      was.some_is,
    )

pub returns-in_err-send_full-clause-cut : goal.returns-in_err-send_full-clause-cut
returns-in_err-send_full-clause-cut g c =
    let was = c.loop.invariant in
    let some : c.in_ok-report_next.field-0 ≡ true = search rules in
    let (more, others, is, is_beside, all, first, begun) = if_true _ _ _ some c.in_ok-report_next.ensures.reported in
    let kept = keeps_more _ _ _ was.reported was.out more c.report_next.new.out.items is in
    let last = g.W.Write.contents c.send_full.new.out in
    let Begins = g.T.Reporting.Begins in
    let said : c.as_slice-in-loop.result.now ≡ others = c.as_slice-in-loop.ensures.value ∙ is_beside ∙ ap (λ bytes. bytes ++ others) was.empty in
    let beside : GoesTo others c.loop.err c.write_text-in-loop.new.self = subst (λ (bytes : List ℕ). GoesTo bytes c.loop.err c.write_text-in-loop.new.self) said c.write_text-in-loop.ensures in
    cut_at _ (Begins c.args.reporting.now) (Begins c.report_next.new.self) _ last _ _ (was.reported ++ more) (was.said ++ others)
    (LeadsOn-more (Begins c.args.reporting.now) (Begins c.loop.reporting) (Begins c.report_next.new.self) was.reported more was.said others was.first first) begun
    (sends_front _ _ _ _ kept last c.in_err-send_full.ensures.front) (Reports-both was.said others _ _ _ was.beside beside)

pub loop-preserved : goal.loop-preserved
loop-preserved g c =
    let was = c.loop.invariant in
    let some : c.in_ok-report_next.field-0 ≡ true = search rules in
    let (more, others, is, is_beside, all, first, begun) = if_true _ _ _ some c.in_ok-report_next.ensures.reported in
    let kept = keeps_more _ _ _ was.reported was.out more c.report_next.new.out.items is in
    let Reports = g.T.Reporting.Reports in
    let Begins = g.T.Reporting.Begins in
    let last = g.W.Write.contents c.send_full.new.out in
    let sent = c.in_ok-send_full.ensures.sent in
    let ends = c.in_ok-report_next.ensures.ends in
    let said : c.as_slice-in-loop.result.now ≡ others = c.as_slice-in-loop.ensures.value ∙ is_beside ∙ ap (λ bytes. bytes ++ others) was.empty in
    let beside : GoesTo others c.loop.err c.write_text-in-loop.new.self = subst (λ (bytes : List ℕ). GoesTo bytes c.loop.err c.write_text-in-loop.new.self) said c.write_text-in-loop.ensures in
    record {
      reported = was.reported ++ more;
      said = was.said ++ others;
      out = sends _ _ _ _ kept last sent.0 c.send_full.new.text.items sent.1 sent.2;
      beside = Reports-both was.said others _ _ _ was.beside beside;
      empty = c.clear.ensures.items;
      all = LeadsOn-more (Reports c.args.reporting.now) (Reports c.loop.reporting) (Reports c.report_next.new.self) was.reported more was.said others was.all all;
      first = LeadsOn-more (Begins c.args.reporting.now) (Begins c.loop.reporting) (Begins c.report_next.new.self) was.reported more was.said others was.first first;
      begun = begun;
      ends = λ ending is. was.ends ending (ends ending is);
      fails = λ failure is. was.fails failure (c.report_next.ensures.stays failure is);
      some_is =
          let kept_is : c.len-kept.result ≡ length c.loop.text.items = search rules in
          let now_is : c.len-now.result ≡ length c.report_next.new.out.items = search rules in
          c.reported_more-some.ensures
          ∙ ap (λ n. c.loop.some || nat_lt n c.len-now.result) kept_is
          ∙ ap (λ n. c.loop.some || nat_lt (length c.loop.text.items) n) now_is
          ∙ some_more c.loop.some was.reported c.loop.text.items more c.report_next.new.out.items was.some_is is;
    }

pub returns-clause-cut : goal.returns-clause-cut
returns-clause-cut g c =
    let was = c.loop.invariant in (
      was.reported,
      was.said,
      LeadsOn-end (g.T.Reporting.Begins c.args.reporting.now) (g.T.Reporting.Begins c.loop.reporting) was.reported was.said was.first was.begun,
      front_now _ _ _ _ was.out,
      was.beside,
    )
