use Rattle.std.proofs.Common.{◌∙◌, ◌++◌, ap, refl}
use Rattle.std.specs.Io.KnownBytes.{Appends}
use Rattle.acl_cli.specs.Output.{AppendsFront}
use Rattle.acl_cli.proofs.OutputLemmas.{front_among, front_so_far, more_among}
use Rattle.acl_service.proofs.PrintLemmas.{session_texts, sessions_text-next}
use Rattle.acl_service.proofs.run_command.printing.write_sessions.Goals as goal

pub returns-in_err-write_texts-clause-front : goal.returns-in_err-write_texts-clause-front
returns-in_err-write_texts-clause-front g c =
    let was = c.loop-session.invariant in
    let number = c.as_bytes-number.result.now in
    let body = c.as_slice.result.now in
    let next = sessions_text-next c.args.outputs.now c.loop-session.session c.index-outputs-session.result number body c.loop-session-test.true
    c.index-outputs-session.is (c.as_bytes-number.ensures.value ∙ c.format.ensures.text) c.as_slice.ensures.value in
    let front : AppendsFront (g.W.Write.contents c.loop-session.out) (g.W.Write.contents c.write_texts.new.out) (session_texts number body) =
    c.write_texts.ensures.front in
    front_among _ _ _ was.so_far _ _ _ (ap (λ more. was.so_far ++ more) next ∙ was.left) was.written front

pub loop-session-preserved : goal.loop-session-preserved
loop-session-preserved g c =
    let was = c.loop-session.invariant in
    let number = c.as_bytes-number.result.now in
    let body = c.as_slice.result.now in
    let next = sessions_text-next c.args.outputs.now c.loop-session.session c.index-outputs-session.result number body c.loop-session-test.true
    c.index-outputs-session.is (c.as_bytes-number.ensures.value ∙ c.format.ensures.text) c.as_slice.ensures.value in
    let whole : Appends (g.W.Write.contents c.loop-session.out) (g.W.Write.contents c.write_texts.new.out) (session_texts number body) =
    c.in_ok-write_texts.ensures.written in
    let more = more_among _ _ _ was.so_far _ _ _ (ap (λ more. was.so_far ++ more) next ∙ was.left) was.written whole in
    record { so_far = more.0; written = more.1; left = more.2; all = refl }

pub returns-clause-front : goal.returns-clause-front
returns-clause-front g c =
    let was = c.loop-session.invariant in
    front_so_far _ _ was.so_far _ _ was.left was.written
