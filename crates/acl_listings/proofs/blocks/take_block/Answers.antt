use Rattle.std.proofs.Common.{◌≡◌, ◌∙◌, ◌+◌, ap, drop, subst, sym, take}
use Rattle.std.specs.Io.KnownBytes.{prepend_known}
use Rattle.acl_listings.specs.Cursor.{HandsOut, blocks_to_come}
use Rattle.acl_listings.specs.Listing.{Block}
use Rattle.acl_listings.specs.Source.{bytes_to_come, bytes_after}
use Rattle.acl_listings.specs.Steps.{GoesOn, text_at_hand}
use Rattle.acl_listings.specs.declared.limits.TheConstants.{MAX_BLOCK}
use Rattle.acl_listings.proofs.CursorLemmas.{hands_kept, hands_long, hands_short}
use Rattle.acl_listings.proofs.blocks.take_block.Goals as goal

pub returns-then-extent-le-MAX_BLOCK-clause-block : goal.returns-then-extent-le-MAX_BLOCK-clause-block
returns-then-extent-le-MAX_BLOCK-clause-block g c =
    let extent = c.in_ok-extent.extent in
    let first = c.args.first in
    let source = c.find_extent.new.source in
    let block : Block = record { line = first; text = text_at_hand extent.len source.shown c.args.head.now.items } in
    let behind = bytes_after extent.len source in
    let hands : HandsOut (blocks_to_come first (bytes_to_come source)) block (blocks_to_come c.in_ok-last.last behind) =
    subst (λ last. HandsOut (blocks_to_come first (bytes_to_come source)) block (blocks_to_come last behind)) (sym c.in_ok-last.ensures)
    (hands_short first source.shown c.args.head.now.items source.left extent.len extent.newlines c.in_ok-extent.ensures.shown
    (c.in_ok-extent.ensures.whole c.if-extent-le-MAX_BLOCK.true) c.if-extent-le-MAX_BLOCK.true) in
    hands_kept first (bytes_to_come c.args.source.now) (bytes_to_come source) block (blocks_to_come c.in_ok-last.last behind) c.in_ok-extent.ensures.bytes hands

pub returns-clause-block : goal.returns-clause-block
returns-clause-block g c =
    let extent = c.in_ok-extent.extent in
    let first = c.args.first in
    let source = c.find_extent.new.source in
    let after = c.skip_rest.new.source in
    let last = c.in_ok-skip_rest.field-0 in
    let block : Block = record { line = first; text = c.keep_head.new.head.items } in
    let gone : GoesOn (bytes_to_come c.skip.new.self) (bytes_to_come after) (first + extent.newlines) last =
    subst (λ line. GoesOn (bytes_to_come c.skip.new.self) (bytes_to_come after) line last) c.in_ok-last.ensures c.in_ok-skip_rest.ensures in
    let goes : GoesOn (prepend_known (drop extent.len source.shown) source.left) (bytes_to_come after) (first + extent.newlines) last =
    subst (λ now. GoesOn (bytes_to_come now) (bytes_to_come after) (first + extent.newlines) last) c.skip.ensures gone in
    let kept : take (MAX_BLOCK + 1) source.shown ≡ c.keep_head.new.head.items =
    sym (c.in_ok-keep_head.ensures ∙ ap (take (MAX_BLOCK + 1)) c.shown.ensures.value) in
    let hands : HandsOut (blocks_to_come first (bytes_to_come source)) block (blocks_to_come last (bytes_to_come after)) =
    subst (λ text. HandsOut (blocks_to_come first (bytes_to_come source)) (record { line = first; text = text }) (blocks_to_come last (bytes_to_come after))) kept
    (hands_long first source.shown source.left (bytes_to_come after) extent.len extent.newlines last c.in_ok-extent.ensures.shown c.if-extent-le-MAX_BLOCK.false goes) in
    hands_kept first (bytes_to_come c.args.source.now) (bytes_to_come source) block (blocks_to_come last (bytes_after 0 after)) c.in_ok-extent.ensures.bytes hands
