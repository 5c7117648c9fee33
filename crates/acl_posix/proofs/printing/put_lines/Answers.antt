use Rattle.std.proofs.Common.{◌∙◌, ◌++◌, sym, ap, take, option_map, List, ℕ, append_assoc, arith}
use Rattle.acl_posix.specs.Entry.{EntryValue}
use Rattle.acl_posix.specs.Perms.{bits_of}
use Rattle.acl_posix.specs.PrintedText.{effective_text, line_text, HasId}
use Rattle.acl_names.proofs.TakeLemmas.{All-take-next, flat_map-take-next}
use Rattle.acl_posix.proofs.printing.put_lines.Goals as goal

pub loop-entry-preserved : goal.loop-entry-preserved
loop-entry-preserved c =
    let known = c.args.directory.now in
    let mask = option_map bits_of c.args.mask in
    let entries = c.args.entries.now in
    let i = c.loop-entry.entry-index in
    let entry = c.entry-item.result in
    let so_far = c.loop-entry.invariant in
    let front = c.replace-text.result.items in
    record {
      text =
          c.put_line.ensures.text
          ∙ ap (λ (xs : List ℕ). xs ++ line_text known mask entry) so_far.text
          ∙ append_assoc front (effective_text known mask (take i entries)) (line_text known mask entry)
          ∙ ap (λ (xs : List ℕ). front ++ xs) (sym (flat_map-take-next (line_text known mask) entries i entry c.loop-entry-test.true c.entry-item.is));
      have_ids = All-take-next (λ (entry : EntryValue). HasId entry.tag) entries i entry c.loop-entry-test.true c.entry-item.is so_far.have_ids c.put_line.ensures.has_id;
      len = omega (arith, c.put_line.ensures.len, so_far.len);
      capacity = c.put_line.ensures.capacity ∙ so_far.capacity;
    }
