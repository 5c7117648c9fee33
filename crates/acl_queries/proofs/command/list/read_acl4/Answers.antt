use Rattle.std.proofs.Common.{rules, subst, sym}
use Rattle.acl_names.specs.ListText.{IsFaultOf, Spells}
use Rattle.acl_nfs4.specs.AceText.{piece_value}
use Rattle.acl_nfs4.specs.ReadFault.{list_fault}
use Rattle.acl_nfs4.specs.declared.limits.TheConstants.{MAX_ACES}
use Rattle.acl_cli.specs.Failures.{ExplainsText}
use Rattle.acl_cli.specs.declared.failure.Failure.{Failure}
use Rattle.acl_queries.specs.AclText.{nobody}
use Rattle.acl_queries.specs.ListField.{aces_of}
use Rattle.acl_queries.proofs.AcesLemmas.{Explains-aces, aces_of-spelt}
use Rattle.acl_queries.proofs.command.list.read_acl4.Goals as goal

pub returns-in-Ok-clause-read : goal.returns-in-Ok-clause-read
returns-in-Ok-clause-read c =
    let spelt : Spells (piece_value nobody) MAX_ACES c.args.text.now c.in-Ok.aces = search rules in
    aces_of-spelt c.args.text.now c.in-Ok.aces spelt

pub returns-clause-refused : goal.returns-clause-refused
returns-clause-refused c =
    let is : IsFaultOf (piece_value nobody) MAX_ACES c.args.text.now (list_fault c.in-Err.fault) = search rules in
    subst (λ (failure : Failure). ExplainsText (aces_of c.args.text.now) failure) (sym c.failure_of.ensures) (Explains-aces c.args.text.now c.in-Err.fault is)
