use Rattle.std.proofs.Common.{◌≡◌, ◌∙◌, ◌++◌, ◌+◌, take, length, ap, sym, arith, add-one, is_some, append-nil}
use Rattle.std.proofs.lemmas.List.{take-append-drop}
use Rattle.acl_names.specs.Bytes.{newline}
use Rattle.acl_names.specs.Pieces.{parts}
use Rattle.acl_names.proofs.Cutting.{parts-few}
use Rattle.acl_listings.specs.FaultyLine.{lines_read}
use Rattle.acl_listings.proofs.FaultyLemmas.{front_fails, read-room, room-next, taken_next}
use Rattle.acl_listings.proofs.faulty.bad_line.Goals as goal

pub returns-in_default-room_behind_line-clause-first : goal.returns-in_default-room_behind_line-clause-first
returns-in_default-room_behind_line-clause-first g c =
    let names = g.N.ResolveNames.names c.args.names.now in
    let here = sym c.loop-line.invariant.rest ∙ c.in-Some.ensures.part in
    let lines = parts newline c.args.list.now in
    record {
      reads = read-room names c.args.kind (take c.loop-line.before lines) ∙ ap is_some c.loop-line.invariant.read;
      fails = read-room names c.args.kind (take (c.loop-line.before + 1) lines) ∙ ap is_some
          (room-next names c.args.kind c.args.list.now c.loop-line.before c.loop-line.room c.in-Some.line.now c.next.new.self here c.loop-line.invariant.read
          ∙ sym c.in_default-room_behind_line.ensures);
    }

pub returns-in_default-room_behind_line-clause-bad : goal.returns-in_default-room_behind_line-clause-bad
returns-in_default-room_behind_line-clause-bad g c =
    let names = g.N.ResolveNames.names c.args.names.now in
    let here = sym c.loop-line.invariant.rest ∙ c.in-Some.ensures.part in
    let lines = parts newline c.args.list.now in
    front_fails names c.args.kind (c.loop-line.before + 1) lines
    (read-room names c.args.kind (take (c.loop-line.before + 1) lines) ∙ ap is_some
    (room-next names c.args.kind c.args.list.now c.loop-line.before c.loop-line.room c.in-Some.line.now c.next.new.self here c.loop-line.invariant.read
    ∙ sym c.in_default-room_behind_line.ensures))

pub returns-in_default-room_behind_line-clause-bound : goal.returns-in_default-room_behind_line-clause-bound
returns-in_default-room_behind_line-clause-bound g c = omega (arith, c.loop-line.invariant.count, parts-few newline c.args.list.now)

pub overflow_add-before : goal.overflow_add-before
overflow_add-before g c = omega (arith, c.loop-line.invariant.count, parts-few newline c.args.list.now)

pub loop-line-preserved : goal.loop-line-preserved
loop-line-preserved g c =
    let names = g.N.ResolveNames.names c.args.names.now in
    let here = sym c.loop-line.invariant.rest ∙ c.in-Some.ensures.part in
    let lines = parts newline c.args.list.now in
    record {
      rest = rw add-one (taken_next lines c.loop-line.before c.in-Some.line.now c.next.new.self here).1;
      read =
          room-next names c.args.kind c.args.list.now c.loop-line.before c.loop-line.room c.in-Some.line.now c.next.new.self here c.loop-line.invariant.read
          ∙ sym c.in-Some-room_behind_line.ensures;
      count = omega (arith, c.loop-line.invariant.count, ap length c.in-Some.ensures.part);
    }

pub returns-clause-read : goal.returns-clause-read
returns-clause-read g c =
    let names = g.N.ResolveNames.names c.args.names.now in
    let lines = parts newline c.args.list.now in
    let front = take c.loop-line.before lines in
    let whole : front ≡ lines =
    sym (append-nil front) ∙ ap (λ rest. front ++ rest) (sym c.in_default.ensures.part ∙ c.loop-line.invariant.rest) ∙ take-append-drop c.loop-line.before lines in
    ap (lines_read names c.args.kind) (sym whole) ∙ read-room names c.args.kind front ∙ ap is_some c.loop-line.invariant.read
