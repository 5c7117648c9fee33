use Rattle.std.proofs.Common.{◌∙◌, ◌++◌, ◌+◌, ap, drop, sym, flat_map}
use Rattle.acl_cli.proofs.OutputLemmas.{front_among, front_so_far, more_among}
use Rattle.acl_service.proofs.PrintLemmas.{texts-next}
use Rattle.acl_service.proofs.run_command.printing.write_texts.Goals as goal

pub returns-in_err-write_text-clause-front : goal.returns-in_err-write_text-clause-front
returns-in_err-write_text-clause-front g c =
    let was = c.loop-text.invariant in
    let at = c.loop-text.text-index in
    let rest = flat_map (λ text. text.now) (drop (at + 1) c.args.texts.now) in
    let left = ap (λ more. was.so_far ++ more) (sym (texts-next c.args.texts.now at _ c.loop-text-test.true)) ∙ was.left in
    front_among _ _ _ was.so_far _ rest _ left was.written c.write_text.ensures.front

pub loop-text-preserved : goal.loop-text-preserved
loop-text-preserved g c =
    let was = c.loop-text.invariant in
    let at = c.loop-text.text-index in
    let rest = flat_map (λ text. text.now) (drop (at + 1) c.args.texts.now) in
    let left = ap (λ more. was.so_far ++ more) (sym (texts-next c.args.texts.now at _ c.loop-text-test.true)) ∙ was.left in
    let more = more_among _ _ _ was.so_far _ rest _ left was.written c.in_ok-write_text.ensures.written in
    record { so_far = more.0; written = more.1; left = more.2 }

pub returns-clause-front : goal.returns-clause-front
returns-clause-front g c =
    let was = c.loop-text.invariant in
    front_so_far _ _ was.so_far _ _ was.left was.written
