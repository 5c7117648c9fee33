use Rattle.std.proofs.Common.{List, map, take}
use Rattle.acl_people.specs.Asked.{ArePeople}
use Rattle.acl_people.specs.Elsewhere.{elsewhere}
use Rattle.acl_people.specs.Person.{Person}
use Rattle.acl_people.proofs.elsewhere.all_elsewhere.Given as goal

-- the others so far are the first people by the accounts of the host
abbrev pub invariant-loop-place : goal.invariant-loop-place
invariant-loop-place l =
    (persons : List Person) → ArePeople persons l.people → ArePeople (map (elsewhere l.host) (take l.place persons)) l.others
