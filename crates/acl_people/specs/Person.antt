-- A user to evaluate.
use Rattle.std.specs.Prelude.{ℕ, Bool, ◌==◌, not, List, [], decimal, filter}
use Rattle.acl_names.specs.Requester.{Identity}
use Rattle.acl_accounts.specs.Names.{quoted}

-- a user to evaluate: the name as getfacl prints it, and the requester
pub record Person : Type 0 where
  pub name : List ℕ
  pub who : Identity

-- a user of this name
abbrev pub person : List ℕ → Identity → Person
person name who = record { name = quoted name; who = who }

-- the requester with an id that no user has: in no group
abbrev pub stranger : ℕ → Person
stranger uid = record { name = decimal uid; who = record { uid = uid; gids = [] } }

-- uid 0, which is never evaluated, for it may do nearly everything
abbrev pub is_root : Person → Bool
is_root one = one.who.uid == 0

-- all the others, in their order
abbrev pub without_root : List Person → List Person
without_root all = filter (λ one. not (is_root one)) all
