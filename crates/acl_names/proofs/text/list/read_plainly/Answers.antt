use Rattle.std.proofs.Common.{sym, ◌∙◌, arith, rules}
use Rattle.std.proofs.lemmas.List.{length_push}
use Rattle.acl_names.specs.Bytes.{newline, comma}
use Rattle.acl_names.proofs.PlainLists.{started, ended, after_comma, after_newline, ended_by_newline, from_first, no_element, only_element}
use Rattle.acl_names.proofs.PlainCounts.{one_more_piece}
use Rattle.acl_names.proofs.text.list.read_plainly.Goals as goal

pub loop-rest-init : goal.loop-rest-init
loop-rest-init g c = record {
  so_far = rw c.requires.empty (started (g.R.PieceReader.value_of c.args.reader.now) c.args.text.now);
  room = c.requires.room;
}

pub returns-then-is_empty-clause-read : goal.returns-then-is_empty-clause-read
returns-then-is_empty-clause-read g c = λ _.
    let value_of = g.R.PieceReader.value_of c.args.reader.now in
    let found = c.in-Some.ensures in
    let so_far = c.loop-rest.invariant.so_far in
    rw c.in_ok-push.ensures.ok (record {
      said = ended value_of c.args.text.now c.loop-rest.rest.now c.loop-rest.list.items so_far c.in-Some.value
          c.in-Some.behind.now found (no_element c.in-Some.behind.now (sym c.is_empty.ensures ∙ c.if-is_empty.true));
      within = rw length_push (omega arith);
    })

pub loop-rest-preserved-then-separator-eq44 : goal.loop-rest-preserved-then-separator-eq44
loop-rest-preserved-then-separator-eq44 g c =
    let value_of = g.R.PieceReader.value_of c.args.reader.now in
    let found = c.in-Some.ensures in
    let so_far = c.loop-rest.invariant.so_far in
    record {
      so_far = rw c.in_ok-push.ensures.ok (after_comma value_of c.args.text.now c.loop-rest.rest.now
          c.loop-rest.list.items so_far c.in-Some.value c.in-Some.behind.now found _
          (from_first c.in-Some.behind.now comma (sym c.is_empty.ensures ∙ c.if-is_empty.false)
          c.if-separator-eq44.true));
      room = omega (arith, c.loop-rest.invariant.room, c.in_ok-push.ensures.capacity);
    }

pub returns-then-is_empty-2-clause-read : goal.returns-then-is_empty-2-clause-read
returns-then-is_empty-2-clause-read g c = λ _.
    let value_of = g.R.PieceReader.value_of c.args.reader.now in
    let found = c.in-Some.ensures in
    let so_far = c.loop-rest.invariant.so_far in
    let none = sym c.is_empty-in-loop-rest.ensures ∙ c.if-is_empty-2.true in
    rw c.in_ok-push.ensures.ok (record {
      said = ended_by_newline value_of c.args.text.now c.loop-rest.rest.now c.loop-rest.list.items so_far
          c.in-Some.value c.in-Some.behind.now found (only_element c.in-Some.behind.now newline
          (sym c.is_empty.ensures ∙ c.if-is_empty.false) c.if-separator-ne10.false none);
      within = rw length_push (omega arith);
    })

pub loop-rest-preserved : goal.loop-rest-preserved
loop-rest-preserved g c =
    let value_of = g.R.PieceReader.value_of c.args.reader.now in
    let found = c.in-Some.ensures in
    let so_far = c.loop-rest.invariant.so_far in
    record {
      so_far = rw c.in_ok-push.ensures.ok (after_newline value_of c.args.text.now c.loop-rest.rest.now
          c.loop-rest.list.items so_far c.in-Some.value c.in-Some.behind.now found _
          (from_first c.in-Some.behind.now newline (sym c.is_empty.ensures ∙ c.if-is_empty.false)
          c.if-separator-ne10.false));
      room = omega (arith, c.loop-rest.invariant.room, c.in_ok-push.ensures.capacity);
    }

pub returns-in_err-push-clause-short : goal.returns-in_err-push-clause-short
returns-in_err-push-clause-short g c = λ few.
    let value_of = g.R.PieceReader.value_of c.args.reader.now in
    let more = one_more_piece value_of c.args.text.now c.loop-rest.rest.now c.loop-rest.list.items c.loop-rest.invariant.so_far c.in-Some.value c.in-Some.behind.now c.in-Some.ensures in
    let ok = c.push.ensures.succeeds (omega (arith, more, few, c.loop-rest.invariant.room)) in search (rules, ok)
