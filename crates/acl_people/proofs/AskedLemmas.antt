-- Those who are asked about, place by place.
use Rattle.std.proofs.Common.{◌≡◌, ◌∙◌, List, [], ◌∷◌, ap, ap₂, map, refl}
use Rattle.acl_people.specs.Asked.{ArePeople, names_of_people, persons_of}
use Rattle.acl_people.specs.Person.{Person}
use Rattle.acl_people.specs.declared.people.People.{People}

again : (persons : List Person) → persons_of (map (λ one. one.name) persons) (map (λ one. one.who) persons) ≡ persons
again [] = refl
again (person ∷ persons) = ap (λ rest. person ∷ rest) (again persons)

-- what is kept of people is these people
pub persons_again : (persons : List Person) (people : People) → ArePeople persons people → persons_of (names_of_people people) people.requesters.items ≡ persons
persons_again persons people are = ap₂ persons_of are.names are.requesters ∙ again persons
