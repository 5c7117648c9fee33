use Rattle.std.proofs.Common.{◌∙◌, ◌++◌, ◌∷◌, sym, ap, take, flat_map, List, ℕ, append_assoc, arith}
use Rattle.acl_names.specs.Bytes.{comma}
use Rattle.acl_posix.specs.Entry.{EntryValue}
use Rattle.acl_posix.specs.PrintedText.{short_entry, HasId}
use Rattle.acl_names.proofs.TakeLemmas.{All-take-next, flat_map-take-next}
use Rattle.acl_posix.proofs.short.put_further_entries.Goals as goal

pub loop-entry-preserved : goal.loop-entry-preserved
loop-entry-preserved c =
    let entries = c.args.entries.now in
    let i = c.loop-entry.entry-index in
    let entry = c.entry-item.result in
    let so_far = c.loop-entry.invariant in
    let front = c.args.out.now.items in
    let further = λ (entry : EntryValue). comma ∷ short_entry entry in
    record {
      text =
          c.put_further_entry.ensures.text
          ∙ ap (λ (xs : List ℕ). xs ++ further entry) so_far.text
          ∙ append_assoc front (flat_map further (take i entries)) (further entry)
          ∙ ap (λ (xs : List ℕ). front ++ xs) (sym (flat_map-take-next further entries i entry c.loop-entry-test.true c.entry-item.is));
      have_ids = All-take-next (λ (entry : EntryValue). HasId entry.tag) entries i entry c.loop-entry-test.true c.entry-item.is so_far.have_ids c.put_further_entry.ensures.has_id;
      len = omega (arith, c.put_further_entry.ensures.len, so_far.len);
      capacity = c.put_further_entry.ensures.capacity ∙ so_far.capacity;
    }
