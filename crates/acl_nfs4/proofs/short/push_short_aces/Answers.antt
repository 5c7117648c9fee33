use Rattle.std.proofs.Common.{◌∙◌, ap}
use Rattle.acl_names.specs.Bytes.{comma}
use Rattle.acl_names.proofs.PlainJoined.{joined-cons}
use Rattle.acl_names.proofs.Pushed.{PushesInRoom-as, PushesInRoom-then}
use Rattle.acl_nfs4.specs.PrintedText.{short_ace, short_text}
use Rattle.acl_nfs4.proofs.short.push_short_aces.Goals as goal

pub returns-in_ok-push_short_ace-in-Some-clause-printed : goal.returns-in_ok-push_short_ace-in-Some-clause-printed
returns-in_ok-push_short_ace-in-Some-clause-printed c =
    PushesInRoom-as (ap short_text c.in-Some.ensures.cases.0 ∙ joined-cons comma short_ace c.in-Some.first.now c.in-Some.rest.now)
    (PushesInRoom-then c.push_further_aces.result c.in_ok-push_short_ace-in-Some.ensures.printed c.push_further_aces.ensures.printed)
