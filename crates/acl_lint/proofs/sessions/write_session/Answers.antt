use Rattle.std.proofs.Common.{rules, ◌≡◌, ◌≤◌, ◌∙◌, ◌++◌, [], ap, arith, length, subst}
use Rattle.std.proofs.KnownBytes.{Appends-trans}
use Rattle.std.specs.Io.KnownBytes.{Keeps}
use Rattle.acl_names.proofs.Cutting.{parts-few}
use Rattle.acl_names.specs.Bytes.{newline}
use Rattle.acl_lang.specs.declared.limits.TheConstants.{MAX_TEXT_LEN}
use Rattle.acl_cli.specs.Output.{AppendsFront}
use Rattle.acl_cli.proofs.OutputLemmas.{Appends-nothing}
use Rattle.acl_cli.proofs.OutputLemmas.{front_among, front_so_far}
use Rattle.acl_lint.specs.LintText.{session_text}
use Rattle.acl_lint.proofs.AnswerLemmas.{on_err}
use Rattle.acl_lint.proofs.SessionLemmas.{session-next, session-sent, reported_from, reported_of_parts}
use Rattle.acl_lint.proofs.sessions.write_session.Goals as goal

pub loop-line-init : goal.loop-line-init
loop-line-init g c =
    let known = c.args.directory.now in
    let name = c.args.name.now in
    let text = c.args.text.now in
    let out = g.W.Write.contents c.args.out.now in
    let kept : Keeps out out = search rules in
    let empty : c.new-kept.result.items ≡ [] = search rules in
    let few : length text ≤ MAX_TEXT_LEN = c.requires in
    let many = parts-few newline text in
    let as_many = ap length c.new-lines.ensures in
    record {
      sent = [];
      written = Appends-nothing out out kept;
      left = ap (λ bytes. bytes ++ reported_from known name 0 c.new-lines.result) empty ∙ ap (reported_from known name 0) c.new-lines.ensures ∙ reported_of_parts known name text;
      within = omega (arith, few, many, as_many);
    }

pub returns-in_err-push_line-clause-cut : goal.returns-in_err-push_line-clause-cut
returns-in_err-push_line-clause-cut g c =
    let was = c.loop-line.invariant in
    on_err _ _ (front_so_far _ _ was.sent _ _ was.left was.written)

pub loop-line-preserved : goal.loop-line-preserved
loop-line-preserved g c =
    let known = c.args.directory.now in
    let name = c.args.name.now in
    let all = session_text known name c.args.text.now in
    let was = c.loop-line.invariant in
    let number = c.loop-line.number in
    let kept = c.push_line.new.out.items in
    let left =
    session-next known name was.sent all c.loop-line.kept.items kept number c.loop-line.lines c.in-Some.line.now c.next.new.self c.in-Some.ensures.part c.in_ok-push_line.ensures was.left in
    let sent = c.in_ok-send_full.ensures.sent in
    let one_less = ap length c.in-Some.ensures.part in
    record {
      sent = was.sent ++ sent.0;
      written = Appends-trans _ _ _ was.sent sent.0 was.written sent.1;
      left = session-sent was.sent kept _ sent.0 c.send_full.new.text.items all left sent.2;
      within = omega (arith, was.within, one_less);
    }

pub returns-in_err-send_full-clause-cut : goal.returns-in_err-send_full-clause-cut
returns-in_err-send_full-clause-cut g c =
    let known = c.args.directory.now in
    let name = c.args.name.now in
    let all = session_text known name c.args.text.now in
    let was = c.loop-line.invariant in
    let number = c.loop-line.number in
    let kept = c.push_line.new.out.items in
    let left =
    session-next known name was.sent all c.loop-line.kept.items kept number c.loop-line.lines c.in-Some.line.now c.next.new.self c.in-Some.ensures.part c.in_ok-push_line.ensures was.left in
    on_err _ _ (front_among _ _ _ was.sent kept _ all left was.written c.in_err-send_full.ensures.front)

pub returns-in_err-write_text-clause-cut : goal.returns-in_err-write_text-clause-cut
returns-in_err-write_text-clause-cut g c =
    let was = c.loop-line.invariant in
    let between = g.W.Write.contents c.loop-line.out in
    let last = g.W.Write.contents c.write_text.new.out in
    on_err _ _ (front_among _ between last was.sent c.loop-line.kept.items _ _ was.left was.written (subst (AppendsFront between last) c.as_slice.ensures.value c.write_text.ensures.front))
