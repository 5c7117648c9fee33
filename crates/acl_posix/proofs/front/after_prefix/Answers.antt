use Rattle.std.proofs.lemmas.Option.{IfSome_then}
use Rattle.acl_posix.proofs.FrontLemmas.{begins_with, some_of_match}
use Rattle.acl_posix.proofs.front.after_prefix.Goals as goal

pub returns : goal.returns
returns c =
    IfSome_then c.strip_prefix.result (some_of_match c.strip_prefix.result _ _ c.strip_prefix.ensures.cases)
    (λ rest is. begins_with c.args.front.now c.args.text.now rest.now is.0 is.1)
