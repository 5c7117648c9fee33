use Rattle.std.proofs.Common.{rules, ◌≡◌, ◌∙◌, ◌+◌, ◌-◌, ◌++◌, [], ap, append-nil, arith, drop, subst, sym, take}
use Rattle.std.specs.List.{slice_range}
use Rattle.std.specs.Io.KnownBytes.{Keeps, prepend_known}
use Rattle.std.specs.Vec.{with_items}
use Rattle.std.proofs.lemmas.List.{with_items_is}
use Rattle.acl_listings.proofs.WindowLemmas.{grown, moved, reported_more, reported_same, still_shown}
use Rattle.acl_listings.proofs.window.Window.fill.Goals as goal

pub returns-in_err-count : goal.returns-in_err-count
returns-in_err-count g c =
    let start = c.self.inside.start in
    let end = c.self.inside.end in
    let len = end - start in
    let buffer = c.read_behind.new.buffer in
    let held = c.copy_within.new.self in
    let items : (with_items held buffer).items ≡ buffer = with_items_is held buffer (omega arith) in
    let shown : take len buffer ≡ c.args.self.now =
    c.in_err-count.ensures.front ∙ ap (take len) (c.deref_mut.ensures.value ∙ c.copy_within.ensures.items)
    ∙ moved c.self.inside.buffer.items start end c.self.invariant ∙ c.self.view_is in
    let now : slice_range (with_items held buffer).items 0 len ≡ c.args.self.now =
    ap (λ bytes. slice_range bytes 0 len) items ∙ still_shown buffer c.args.self.now len shown in
    record {
      bytes = subst (λ bytes. Keeps (prepend_known c.args.self.now (g.R.Read.remaining c.args.reader.now)) (prepend_known bytes (g.R.Read.remaining c.read_behind.new.reader)))
          (sym now) (reported_same _ _ c.args.self.now c.in_err-count.ensures.kept);
      more = ([], now ∙ sym (append-nil c.args.self.now));
      end = search rules;
    }

pub returns : goal.returns
returns g c =
    let start = c.self.inside.start in
    let end = c.self.inside.end in
    let len = end - start in
    let count = c.in_ok-count.count in
    let buffer = c.read_behind.new.buffer in
    let held = c.copy_within.new.self in
    let items : (with_items held buffer).items ≡ buffer = with_items_is held buffer (omega arith) in
    let shown : take len buffer ≡ c.args.self.now =
    c.in_ok-count.ensures.front ∙ ap (take len) (c.deref_mut.ensures.value ∙ c.copy_within.ensures.items)
    ∙ moved c.self.inside.buffer.items start end c.self.invariant ∙ c.self.view_is in
    let now : slice_range (with_items held buffer).items 0 (len + count) ≡ c.args.self.now ++ take count (drop len buffer) =
    ap (λ bytes. slice_range bytes 0 (len + count)) items ∙ grown buffer c.args.self.now len count shown in
    record {
      bytes = subst (λ bytes. Keeps (prepend_known c.args.self.now (g.R.Read.remaining c.args.reader.now)) (prepend_known bytes (g.R.Read.remaining c.read_behind.new.reader)))
          (sym now) (reported_more _ _ c.args.self.now (take count (drop len buffer)) c.in_ok-count.ensures.bytes);
      more = (take count (drop len buffer), now);
      end = search rules;
    }
