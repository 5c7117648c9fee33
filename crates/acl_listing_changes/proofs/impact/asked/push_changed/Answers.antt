use Rattle.std.proofs.Common.{[], append-nil, refl, sym}
use Rattle.acl_listing_changes.proofs.impact.asked.push_changed.Goals as goal

pub returns-in_ok-push_person-in-Some : goal.returns-in_ok-push_person-in-Some
returns-in_ok-push_person-in-Some c = record { text = _; is = (c.in-Some.change, c.in-Some.ensures, refl); out_is = c.in_ok-push_person-in-Some.ensures }

pub returns-in-None : goal.returns-in-None
returns-in-None c = record { text = []; is = (c.in-None.ensures, refl); out_is = sym (append-nil c.args.out.now.items) }
