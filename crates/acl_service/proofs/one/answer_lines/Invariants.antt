use Rattle.std.proofs.Common.{◌≡◌, ◌++◌, length}
use Rattle.acl_lang.specs.Printed.{answers_text}
use Rattle.acl_lang.specs.Texts.{requests_of}
use Rattle.acl_service.specs.Runs.{answers_of, session_text, tree_after}
use Rattle.acl_service.proofs.one.answer_lines.Given as goal

-- what is printed, and what the requests that are left come to, are together what all of them come to
abbrev pub invariant-loop : goal.invariant-loop
invariant-loop l = record {
  text : l.printed.items ++ answers_text l.directory (answers_of l.directory l.tree l.requests)
      ≡ l.fn.printed.items ++ session_text l.directory l.fn.tree l.text;
  tree : tree_after l.directory l.tree l.requests ≡ tree_after l.directory l.fn.tree (requests_of l.directory l.text);
}

abbrev pub decreases-loop : goal.decreases-loop
decreases-loop l = length l.requests
