use Rattle.std.proofs.Common.{◌∙◌, sym}
use Rattle.acl_nfs4.specs.Evaluation.{of_class}
use Rattle.acl_nfs4.specs.Mask.{mode_bits}
use Rattle.acl_wire.proofs.ShownLemmas.{perms-shown}
use Rattle.acl_wire.proofs.ValuesLemmas.{found-allows, found-faultless}
use Rattle.acl_wire.proofs.shown.shown_to.Goals as goal

pub returns-in_err-found : goal.returns-in_err-found
returns-in_err-found c = λ aces is.
    absurd (found-faultless (of_class c.args.class.now) c.args.raws.now mode_bits aces is c.in_err-found.field-0.0 (sym c.in_err-found.ensures))

pub returns : goal.returns
returns c = λ aces is.
    c.perms_of.ensures
    ∙ perms-shown (of_class c.args.class.now) aces c.in_ok-found.found.allowed (found-allows (of_class c.args.class.now) c.args.raws.now mode_bits aces is c.in_ok-found.found (sym c.in_ok-found.ensures))
