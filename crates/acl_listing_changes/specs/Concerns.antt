-- Whom changes concern, as the code has it.
use Rattle.std.specs.Prelude.{Bool}
use Rattle.acl_people.specs.Asked.{persons_in}
use Rattle.acl_people.specs.declared.people.People.{People}
use Rattle.acl_listing_changes.specs.Impacting.{Concern}
use Rattle.acl_listing_changes.specs.declared.impact.concerned.Concerned.{Concerned}

-- these people, each of them, and somebody else
abbrev pub concern_by : People → Bool → Bool → Concern
concern_by people each somebody = record {
  persons = persons_in people;
  known = people.requesters.items;
  each = each;
  somebody = somebody;
}

abbrev pub concern_of : Concerned → Concern
concern_of concerned = concern_by concerned.people.now concerned.each concerned.somebody
