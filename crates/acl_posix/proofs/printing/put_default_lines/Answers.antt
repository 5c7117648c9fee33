use Rattle.std.proofs.Common.{◌∙◌, ◌++◌, sym, ap, take, option_map, List, ℕ, append_assoc, arith}
use Rattle.std.specs.Prelude.{codes}
use Rattle.acl_posix.specs.Entry.{EntryValue}
use Rattle.acl_posix.specs.Perms.{bits_of}
use Rattle.acl_posix.specs.PrintedText.{default_text, line_text}
use Rattle.acl_names.proofs.TakeLemmas.{flat_map-take-next}
use Rattle.acl_posix.proofs.printing.put_default_lines.Goals as goal

pub loop-entry-preserved : goal.loop-entry-preserved
loop-entry-preserved c =
    let known = c.args.directory.now in
    let mask = option_map bits_of c.args.mask in
    let entries = c.args.entries.now in
    let i = c.loop-entry.entry-index in
    let entry = c.entry-item.result in
    let so_far = c.loop-entry.invariant in
    let front = c.replace-text.result.items in
    let line = λ (entry : EntryValue). codes "default:" ++ line_text known mask entry in
    record {
      text =
          c.put_default_line.ensures.text
          ∙ ap (λ (xs : List ℕ). xs ++ line entry) so_far.text
          ∙ append_assoc front (default_text known mask (take i entries)) (line entry)
          ∙ ap (λ (xs : List ℕ). front ++ xs) (sym (flat_map-take-next line entries i entry c.loop-entry-test.true c.entry-item.is));
      len = omega (arith, c.put_default_line.ensures.len, so_far.len);
      capacity = c.put_default_line.ensures.capacity ∙ so_far.capacity;
    }
