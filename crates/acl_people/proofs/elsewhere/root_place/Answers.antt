use Rattle.std.proofs.Common.{◌∙◌, ◌==◌, ap}
use Rattle.std.specs.List.{position}
use Rattle.acl_names.specs.Requester.{Identity}
use Rattle.acl_people.proofs.ElsewhereLemmas.{root_shown}
use Rattle.acl_people.proofs.elsewhere.root_place.Goals as goal

pub returns : goal.returns
returns c persons are =
    c.first_root.ensures ∙ ap (position (λ (who : Identity). who.uid == 0)) (c.as_slice.ensures.value ∙ are.requesters) ∙ root_shown persons
