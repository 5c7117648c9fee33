use Rattle.std.proofs.Common.{◌<◌, ◌∙◌, ◌+◌, ◌++◌, ℕ, Bor, List, [], ap, arith, drop, get_or, length, refl}
use Rattle.acl_cli.proofs.OutputLemmas.{front_among, more_among}
use Rattle.acl_lint.specs.LintText.{session_text, sessions_text}
use Rattle.acl_lint.proofs.AnswerLemmas.{on_err}
use Rattle.acl_lint.proofs.SessionLemmas.{sessions-next, shown}
use Rattle.acl_lint.proofs.sessions.write_sessions.Goals as goal

pub returns-in_err-write_session-clause-cut : goal.returns-in_err-write_session-clause-cut
returns-in_err-write_session-clause-cut g c =
    let known = c.args.directory.now in
    let names = c.args.names.now in
    let texts = c.args.texts.now in
    let at = c.loop-session.session in
    let text = c.index-texts-session.result in
    let was = c.loop-session.invariant in
    let none : Bor (List ℕ) = record { ref_ptr = (0, 0); now = [] } in
    let reported = session_text known (get_or names at none).now in
    let rest = sessions_text known (shown (drop (at + 1) names)) (drop (at + 1) texts) in
    let inside : at < length texts = omega (arith, c.loop-session-test.true, was.all) in
    let within : at < length names = omega (arith, inside, c.requires.count) in
    let next = sessions-next known names texts at none text within inside c.index-texts-session.is in
    let bytes = ap reported c.as_slice-text.ensures.value in
    on_err _ _ (front_among _ _ _ was.so_far (reported c.as_slice-text.result.now) rest _
    (ap (λ text. was.so_far ++ (text ++ rest)) bytes ∙ ap (λ more. was.so_far ++ more) next ∙ was.left)
    was.written c.in_err-write_session.ensures.cut)

pub loop-session-preserved : goal.loop-session-preserved
loop-session-preserved g c =
    let known = c.args.directory.now in
    let names = c.args.names.now in
    let texts = c.args.texts.now in
    let at = c.loop-session.session in
    let text = c.index-texts-session.result in
    let was = c.loop-session.invariant in
    let none : Bor (List ℕ) = record { ref_ptr = (0, 0); now = [] } in
    let reported = session_text known (get_or names at none).now in
    let rest = sessions_text known (shown (drop (at + 1) names)) (drop (at + 1) texts) in
    let inside : at < length texts = omega (arith, c.loop-session-test.true, was.all) in
    let within : at < length names = omega (arith, inside, c.requires.count) in
    let next = sessions-next known names texts at none text within inside c.index-texts-session.is in
    let bytes = ap reported c.as_slice-text.ensures.value in
    let more =
    more_among _ _ _ was.so_far (reported c.as_slice-text.result.now) rest _
    (ap (λ text. was.so_far ++ (text ++ rest)) bytes ∙ ap (λ more. was.so_far ++ more) next ∙ was.left)
    was.written c.in_ok-write_session.ensures.written in
    record { so_far = more.0; written = more.1; left = more.2; all = refl }
