use Rattle.std.proofs.Common.{rules, ◌∙◌, ◌-◌, ◌≤◌, ◌||◌, ap, arith, drop, length, sym}
use Rattle.std.specs.List.{list_any}
use Rattle.acl_access.specs.Paths.{is_control}
use Rattle.acl_access.proofs.PathLemmas.{any-chunk, any-end, rest-behind}
use Rattle.acl_access.proofs.path.has_controls.Goals as goal

pub loop-chunk-preserved : goal.loop-chunk-preserved
loop-chunk-preserved c =
    let was = c.loop-chunk.invariant in
    let rest = c.loop-chunk.rest.now in
    let (chunk, behind, count) = c.in-Some-split_first_chunk.ensures.cases in
    record {
      any = was.any ∙ any-chunk c.loop-chunk.found rest 16
          ∙ ap (λ bytes. (c.loop-chunk.found || list_any is_control bytes) || list_any is_control (drop 16 rest)) (sym chunk)
          ∙ ap (λ b. (c.loop-chunk.found || b) || list_any is_control (drop 16 rest)) (sym c.chunk_has_controls-found.ensures)
          ∙ ap (λ bytes. (c.loop-chunk.found || c.chunk_has_controls-found.result) || list_any is_control bytes) (sym behind);
      rest = rest-behind c.args.path.now rest c.in-Some-split_first_chunk.behind.now 16 was.short was.rest behind count;
      short = omega (arith, was.short, count);
    }

pub returns-else-found : goal.returns-else-found
returns-else-found c =
    let was = c.loop-chunk.invariant in
    let (inside, last) = c.in-Some.ensures.cases in
    let short : length c.loop-chunk.rest.now ≤ 16 = search rules in
    c.chunk_has_controls.ensures ∙ ap (list_any is_control) last.same
    ∙ ap (λ b. b || list_any is_control (drop (length c.args.path.now - 16) c.args.path.now)) (sym c.if-found.false)
    ∙ sym (any-end c.loop-chunk.found c.args.path.now c.loop-chunk.rest.now 16 short inside was.rest was.any)
