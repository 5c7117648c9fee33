use Rattle.std.proofs.Common.{List, map, take}
use Rattle.acl_names.specs.ListText.{PiecesSay}
use Rattle.acl_people.specs.Asked.{ArePeople}
use Rattle.acl_people.specs.People.{person_in}
use Rattle.acl_people.specs.Person.{Person}
use Rattle.acl_people.proofs.people.people_in.Given as goal

-- the people so far are those whom the first texts ask about
abbrev pub invariant-loop-text : goal.invariant-loop-text
invariant-loop-text l =
    (persons : List Person) × ArePeople persons l.people × PiecesSay (person_in l.host) (map (λ text. text.now) (take l.text-index l.texts)) persons
