use Rattle.std.proofs.Common.{ap, inl, inr, map, subst}
use Rattle.acl_setup.specs.Opened.{Opens}
use Rattle.acl_lint.specs.LintText.{sessions_text}
use Rattle.acl_lint.proofs.AnswerLemmas.{map_err, map_ok}
use Rattle.acl_lint.proofs.answer.write_answer.Goals as goal

pub returns-in-Ok-clause-written : goal.returns-in-Ok-clause-written
returns-in-Ok-clause-written g c =
    let known = c.in-Ok.directory in
    let names = map (λ name. name.now) c.args.names.now in
    let opened : Opens c.args.texts.now.setup.items known c.in-Ok.field-0-1 = subst (λ bytes. Opens bytes known c.in-Ok.field-0-1) c.as_slice-bytes.ensures.value c.in-Ok.ensures.opened in
    map_ok c.write_sessions.result _ _
    (λ out. (
      sessions_text known names c.as_slice.result.now,
      inl (record { known = known; tree = c.in-Ok.field-0-1; opened = opened; is = ap (sessions_text known names) c.as_slice.ensures.value }),
      out,
    ))
    c.write_sessions.ensures.written

pub returns-in-Ok-clause-cut : goal.returns-in-Ok-clause-cut
returns-in-Ok-clause-cut g c =
    let known = c.in-Ok.directory in
    let names = map (λ name. name.now) c.args.names.now in
    let opened : Opens c.args.texts.now.setup.items known c.in-Ok.field-0-1 = subst (λ bytes. Opens bytes known c.in-Ok.field-0-1) c.as_slice-bytes.ensures.value c.in-Ok.ensures.opened in
    map_err c.write_sessions.result _ _
    (λ out. inr (
      sessions_text known names c.as_slice.result.now,
      inl (record { known = known; tree = c.in-Ok.field-0-1; opened = opened; is = ap (sessions_text known names) c.as_slice.ensures.value }),
      out,
    ))
    c.write_sessions.ensures.cut
