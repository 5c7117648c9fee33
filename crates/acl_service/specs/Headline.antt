-- What a command is to the service: its meaning on the tree.
use Rattle.std.specs.Prelude.{◌≡◌}
use Rattle.acl_tree.specs.Apply.{next, reply}
use Rattle.acl_lang.specs.declared.text.Numbered.{Numbered}
use Rattle.acl_service.specs.Served.{next_served, reply_served}
use Rattle.acl_service.specs.declared.served.Served.{Served}

-- the tree becomes the next by the command, its directory stays, and the answer is the command's
-- reply with the number of its line
pub record IsServedBy (served : Served) (numbered : Numbered) : Type 0 where
  pub tree : (next_served served numbered).tree
      ≡ next served.directory.now served.tree numbered.request
  pub directory : (next_served served numbered).directory ≡ served.directory
  pub reply_is : (reply_served served numbered).reply
      ≡ reply served.directory.now served.tree numbered.request
  pub line : (reply_served served numbered).line ≡ numbered.line
