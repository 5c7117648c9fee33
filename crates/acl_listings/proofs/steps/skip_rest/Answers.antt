use Rattle.std.proofs.Common.{◌∙◌, drop, subst, sym}
use Rattle.std.specs.Io.KnownBytes.{prepend_known}
use Rattle.acl_listings.specs.Extent.{GoesOnBy}
use Rattle.acl_listings.specs.Source.{bytes_to_come}
use Rattle.acl_listings.proofs.StepsLemmas.{HasGoneOn, gone_kept, gone_on}
use Rattle.acl_listings.proofs.steps.skip_rest.Goals as goal
use Rattle.acl_listings.proofs.steps.skip_rest.Goals.{then-extent-gt0+in_ok-line, else-extent-gt0+else-has_ended+in_ok-read}

pub loop-preserved : goal.loop-preserved
loop-preserved g c =
    let extent = c.extent_of_rest-extent.result in
    let before = bytes_to_come c.args.source.now in
    let by : GoesOnBy c.loop.source.shown extent.len extent.newlines =
    subst (λ shown. GoesOnBy shown extent.len extent.newlines) c.shown-shown.ensures.value c.extent_of_rest-extent.ensures in
    elim c.if-extent-gt0.branch [
      | then-extent-gt0+in_ok-line w ↦
          let gone = gone_on before c.loop.source.shown c.loop.source.left c.args.line c.loop.line extent.len extent.newlines c.loop.invariant.gone by in
          record {
            gone = subst (λ source. HasGoneOn before (bytes_to_come source) c.args.line c.if-extent-gt0.line) (sym (w.source-is ∙ w.skip.ensures))
                (subst (λ line. HasGoneOn before (prepend_known (drop extent.len c.loop.source.shown) c.loop.source.left) c.args.line line) (sym (w.line-is ∙ w.in_ok-line.ensures)) gone);
          }
      | else-extent-gt0+else-has_ended+in_ok-read w ↦
          let gone = gone_kept before (bytes_to_come c.loop.source) (bytes_to_come w.read.new.self) c.args.line c.loop.line c.loop.invariant.gone w.in_ok-read.ensures.bytes in
          record {
            gone = subst (λ source. HasGoneOn before (bytes_to_come source) c.args.line c.if-extent-gt0.line) (sym w.source-is)
                (subst (λ line. HasGoneOn before (bytes_to_come w.read.new.self) c.args.line line) (sym w.line-is) gone);
          }
    ]
