use Rattle.std.proofs.Common.{◌≡◌, ◌∙◌, ◌-◌, ap, arith, drop, sym}
use Rattle.acl_names.specs.Bytes.{newline}
use Rattle.acl_names.specs.Pieces.{parts}
use Rattle.acl_people.specs.HostFailures.{first_of_lines}
use Rattle.acl_people.proofs.LineLemmas.{drop-next}
use Rattle.acl_people.proofs.host.accounts.line_numbered.Goals as goal

pub loop-taken-preserved : goal.loop-taken-preserved
loop-taken-preserved c =
    drop-next c.next.result (parts newline c.args.text.now) c.loop-taken.lines c.next.new.self c.loop-taken._taken c.loop-taken.invariant c.next.ensures.part c.next.ensures.end

pub returns-in-Some : goal.returns-in-Some
returns-in-Some c =
    let count : c.loop-taken._taken ≡ c.args.number - 1 = omega arith in
    let lines : c.loop-taken.lines ≡ drop (c.args.number - 1) (parts newline c.args.text.now) = rw (← count) c.loop-taken.invariant in
    ap first_of_lines (sym c.in-Some.ensures.part ∙ lines)

pub returns-in-None : goal.returns-in-None
returns-in-None c =
    let count : c.loop-taken._taken ≡ c.args.number - 1 = omega arith in
    let lines : c.loop-taken.lines ≡ drop (c.args.number - 1) (parts newline c.args.text.now) = rw (← count) c.loop-taken.invariant in
    ap first_of_lines (sym c.in-None.ensures.part ∙ lines)
