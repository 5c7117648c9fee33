use Rattle.std.proofs.Common.{◌∙◌, ◌++◌, List, ℕ, ap, append_assoc, sym, take}
use Rattle.acl_names.proofs.TakeLemmas.{All-take-next, flat_map-take-next}
use Rattle.acl_posix.specs.Entry.{EntryValue}
use Rattle.acl_posix.specs.PrintedText.{HasId}
use Rattle.acl_listings.specs.Numbered.{entries_text, entry_text}
use Rattle.acl_listings.specs.Printed.{line_text}
use Rattle.acl_listings.proofs.printing.push_entries.Goals as goal

pub loop-entry-preserved : goal.loop-entry-preserved
loop-entry-preserved c =
    let word = c.args.word.now in
    let entries = c.args.entries.now in
    let i = c.loop-entry.entry-index in
    let entry = c.entry-item.result in
    let so_far = c.loop-entry.invariant in
    let front = c.args.out.now.items in
    let line = λ (entry : EntryValue). line_text word (entry_text entry) in
    record {
      text =
          c.in_ok-push_entry.ensures.text
          ∙ ap (λ (xs : List ℕ). xs ++ line entry) so_far.text
          ∙ append_assoc front (entries_text word (take i entries)) (line entry)
          ∙ ap (λ (xs : List ℕ). front ++ xs) (sym (flat_map-take-next line entries i entry c.loop-entry-test.true c.entry-item.is));
      have_ids = All-take-next (λ (entry : EntryValue). HasId entry.tag) entries i entry c.loop-entry-test.true c.entry-item.is so_far.have_ids c.in_ok-push_entry.ensures.has_id;
    }
