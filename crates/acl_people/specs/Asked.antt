-- The users to evaluate, as lists.
use Rattle.std.specs.Prelude.{◌≡◌, ℕ, List, map}
use Rattle.std.specs.List.{zip}
use Rattle.acl_names.specs.Requester.{Identity}
use Rattle.acl_people.specs.Person.{Person}
use Rattle.acl_people.specs.declared.people.People.{People}

-- the lists have the names of these users, and each of them as a requester, place by place
pub record ArePeople (persons : List Person) (people : People) : Type 0 where
  pub names : map (λ name. name.items) people.names.items ≡ map (λ one. one.name) persons
  pub requesters : people.requesters.items ≡ map (λ one. one.who) persons

-- these people
abbrev pub persons_of : List (List ℕ) → List Identity → List Person
persons_of names whos = map (λ one. record { name = one.0; who = one.1 }) (zip names whos)

abbrev pub names_of_people : People → List (List ℕ)
names_of_people people = map (λ name. name.items) people.names.items

abbrev pub persons_in : People → List Person
persons_in people = persons_of (names_of_people people) people.requesters.items
