-- What requests result in, one after the other.
use Rattle.std.specs.Prelude.{ℕ, List, [], ◌∷◌}
use Rattle.acl_names.specs.Directory.{Known}
use Rattle.acl_tree.specs.Apply.{next, reply}
use Rattle.acl_tree.specs.Tree.{NodesUnderUmask}
use Rattle.acl_lang.specs.Printed.{answers_text}
use Rattle.acl_lang.specs.Texts.{requests_of}
use Rattle.acl_lang.specs.declared.answer.Answer.{Answer}
use Rattle.acl_lang.specs.declared.text.Numbered.{Numbered}

-- the tree after a request
abbrev pub tree_after_one : Known → NodesUnderUmask → Numbered → NodesUnderUmask
tree_after_one known tree numbered = next known tree numbered.request

-- the answer to a request: the reply, with the number of the request's line
abbrev pub answer_to : Known → NodesUnderUmask → Numbered → Answer
answer_to known tree numbered = record {
  line = numbered.line;
  reply = reply known tree numbered.request;
}

-- the tree after these requests
abbrev pub tree_after : Known → NodesUnderUmask → List Numbered → NodesUnderUmask
tree_after known tree [] = tree
tree_after known tree (numbered ∷ more) = tree_after known (tree_after_one known tree numbered) more

-- the answers to them, each by the tree at its turn
abbrev pub answers_of : Known → NodesUnderUmask → List Numbered → List Answer
answers_of known tree [] = []
answers_of known tree (numbered ∷ more) = answer_to known tree numbered ∷ answers_of known
    (tree_after_one known tree numbered) more

-- what is printed of a session with this text
abbrev pub session_text : Known → NodesUnderUmask → List ℕ → List ℕ
session_text known tree text = answers_text known (answers_of known tree (requests_of known text))
