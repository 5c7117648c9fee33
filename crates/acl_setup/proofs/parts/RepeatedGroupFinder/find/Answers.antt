use Rattle.std.proofs.Common.{◌∙◌, [], bytes_eq, string_bytes}
use Rattle.acl_setup.proofs.SetupLemmas.{repeated-map}
use Rattle.acl_setup.proofs.parts.RepeatedGroupFinder.find.Goals as goal

pub returns : goal.returns
returns c = c.repeated_in.ensures ∙ repeated-map bytes_eq string_bytes [] 0 c.args.groups.now
