use Rattle.std.proofs.Common.{sym, subst}
use Rattle.acl_posix.specs.Perms.{bits_of}
use Rattle.acl_queries.specs.Explained.{Explained}
use Rattle.acl_queries.specs.ExplainText.{Decides}
use Rattle.acl_queries.specs.Reasons.{FileRequestValue}
use Rattle.acl_bridge.specs.declared.any_acl.AnyAcl.{AnyAcl}
use Rattle.acl_queries.proofs.explain_command.question.Question.is_granted.Goals as goal

pub returns-in-Nfs4 : goal.returns-in-Nfs4
returns-in-Nfs4 c =
    let question = c.self.inside in
    let asked : FileRequestValue = record {
      owner = question.owner;
      group = question.group;
      requester = question.requester;
      request = bits_of question.request;
    } in
    subst (λ (explained : Explained). Decides explained.asked explained.acl c.grants_perms.result) c.self.view_is
    (subst (λ (acl : AnyAcl). Decides asked acl c.grants_perms.result) (sym c.in-Nfs4.is) c.grants_perms.ensures)
