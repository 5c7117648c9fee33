use Rattle.std.proofs.Common.{take}
use Rattle.acl_people.specs.Asked.{ArePeople}
use Rattle.acl_people.specs.People.{everyone}
use Rattle.acl_people.specs.Person.{without_root}
use Rattle.acl_people.proofs.people.all_people.Given as goal

-- the people so far are those among the first users
abbrev pub invariant-loop-place : goal.invariant-loop-place
invariant-loop-place l = ArePeople (without_root (take l.place (everyone l.accounts))) l.people
