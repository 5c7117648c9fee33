use Rattle.std.proofs.Common.{sym}
use Rattle.acl_names.specs.Asker.{identity_of}
use Rattle.acl_nfs4.specs.Who.{matches}
use Rattle.acl_wire.proofs.ValuesLemmas.{found-allows, found-faultless}
use Rattle.acl_wire.proofs.compare.allowed_at.Goals as goal

pub returns-in_err-found : goal.returns-in_err-found
returns-in_err-found c = λ aces is.
    absurd (found-faultless (matches c.args.owners.now.owner c.args.owners.now.group (identity_of c.args.asker.now)) c.args.raws.now c.args.bits aces is c.in_err-found.field-0.0 (sym c.in_err-found.ensures))

pub returns : goal.returns
returns c = λ aces is.
    found-allows (matches c.args.owners.now.owner c.args.owners.now.group (identity_of c.args.asker.now)) c.args.raws.now c.args.bits aces is c.in_ok-found.found (sym c.in_ok-found.ensures)
