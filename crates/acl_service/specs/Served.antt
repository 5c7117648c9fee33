-- The tree as the service behind a broker.
use Rattle.acl_lang.specs.declared.answer.Answer.{Answer}
use Rattle.acl_lang.specs.declared.text.Numbered.{Numbered}
use Rattle.acl_service.specs.Runs.{answer_to, tree_after_one}
use Rattle.acl_service.specs.declared.served.Served.{Served}

-- the state after a request: its tree is the next
abbrev pub next_served : Served → Numbered → Served
next_served served numbered = record served {
  tree = tree_after_one served.directory.now served.tree
      numbered;
}

-- the answer to a request
abbrev pub reply_served : Served → Numbered → Answer
reply_served served numbered = answer_to served.directory.now served.tree numbered
