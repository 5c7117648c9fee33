use Rattle.acl_wire.proofs.ModeLemmas.{short-left-as}
use Rattle.acl_wire.specs.declared.mode_change.ModeRule.TheVariants.{Profile, Least}
use Rattle.acl_wire.proofs.mode_change.change.Goals as goal

pub returns-in-Profile-clause-short : goal.returns-in-Profile-clause-short
returns-in-Profile-clause-short g c = λ few short. c.put_with_denials.ensures.short few (short-left-as c.args.rule Profile c.in-Profile.is c.args.mode c.args.raws.now few short)

pub returns-in-Least-clause-short : goal.returns-in-Least-clause-short
returns-in-Least-clause-short g c = λ few short. c.put_with_denials-in-Least.ensures.short few (short-left-as c.args.rule Least c.in-Least.is c.args.mode c.args.raws.now few short)
