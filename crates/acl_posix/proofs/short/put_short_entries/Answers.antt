use Rattle.std.proofs.Common.{◌∙◌, ◌++◌, ◌∷◌, sym, ap, flat_map, List, ℕ, append_assoc}
use Rattle.acl_names.specs.Bytes.{comma}
use Rattle.acl_names.proofs.PlainJoined.{joined-cons}
use Rattle.acl_posix.specs.Entry.{EntryValue}
use Rattle.acl_posix.specs.PrintedText.{short_entry, short_text}
use Rattle.acl_posix.proofs.short.put_short_entries.Goals as goal

pub returns-in-Some-clause-text : goal.returns-in-Some-clause-text
returns-in-Some-clause-text c =
    let first = c.in-Some.first.now in
    let rest = c.in-Some.rest.now in
    let front = c.args.out.now.items in
    let further = flat_map (λ (entry : EntryValue). comma ∷ short_entry entry) rest in
    c.put_further_entries.ensures.text
    ∙ ap (λ (xs : List ℕ). xs ++ further) c.put_short_entry.ensures.text
    ∙ append_assoc front (short_entry first) further
    ∙ ap (λ (xs : List ℕ). front ++ xs) (sym (ap short_text c.in-Some.ensures.cases.0 ∙ joined-cons comma short_entry first rest))
