-- A letter is reported exactly if the check of it is answered `granted`.
use Rattle.std.proofs.Common.{◌≡◌, ◌∙◌, ℕ, List, Bool, true, false, Option, Some, Ok, ap, refl, cond}
use Rattle.std.specs.FinMap as map
use Rattle.acl_names.specs.Bits.{◌∪◌, has_all}
use Rattle.acl_names.specs.Directory.{Known, requester_of}
use Rattle.acl_tree.specs.Commands.{check, granted_or_denied}
use Rattle.acl_tree.specs.Nodes.{may}
use Rattle.acl_tree.specs.Steps.{◌>>=◌, or_refused}
use Rattle.acl_tree.specs.Tree.{NodesUnderUmask}
use Rattle.acl_tree.specs.declared.faults.TreeFault.TheVariants.{NoSuchPath}
use Rattle.acl_tree.specs.declared.node.Node.{Node}
use Rattle.acl_audit.specs.Checks.{LetterIsChecked}

-- of these letters, each is there if it was put there
abbrev letters : Bool → Bool → Bool → ℕ
letters r w x = cond r 4 0 ∪ cond w 2 0 ∪ cond x 1 0

read_there : (r w x : Bool) → r ≡ has_all (letters r w x) 4
read_there true true true = refl
read_there true true false = refl
read_there true false true = refl
read_there true false false = refl
read_there false true true = refl
read_there false true false = refl
read_there false false true = refl
read_there false false false = refl

write_there : (r w x : Bool) → w ≡ has_all (letters r w x) 2
write_there true true true = refl
write_there true true false = refl
write_there true false true = refl
write_there true false false = refl
write_there false true true = refl
write_there false true false = refl
write_there false false true = refl
write_there false false false = refl

execute_there : (r w x : Bool) → x ≡ has_all (letters r w x) 1
execute_there true true true = refl
execute_there true true false = refl
execute_there true false true = refl
execute_there true false false = refl
execute_there false true true = refl
execute_there false true false = refl
execute_there false false true = refl
execute_there false false false = refl

-- a check of a node that is there is answered by its list
pub check-there : (directory : Known) (tree : NodesUnderUmask) (path : List ℕ) (node : Node) (uid perms : ℕ) → map.get tree.nodes path ≡ Some node
    → check directory tree path uid perms ≡ Ok (granted_or_denied (may node (requester_of directory uid) perms))
check-there directory tree path node uid perms there =
    ap (λ (found : Option Node). or_refused NoSuchPath found >>= (λ node. Ok (granted_or_denied (may node (requester_of directory uid) perms)))) there

pub read_is_checked : LetterIsChecked 4
read_is_checked directory tree path node uid there =
    let who = requester_of directory uid in
    check-there directory tree path node uid 4 there ∙ ap (λ (b : Bool). Ok (granted_or_denied b)) (read_there (may node who 4) (may node who 2) (may node who 1))

pub write_is_checked : LetterIsChecked 2
write_is_checked directory tree path node uid there =
    let who = requester_of directory uid in
    check-there directory tree path node uid 2 there ∙ ap (λ (b : Bool). Ok (granted_or_denied b)) (write_there (may node who 4) (may node who 2) (may node who 1))

pub execute_is_checked : LetterIsChecked 1
execute_is_checked directory tree path node uid there =
    let who = requester_of directory uid in
    check-there directory tree path node uid 1 there ∙ ap (λ (b : Bool). Ok (granted_or_denied b)) (execute_there (may node who 4) (may node who 2) (may node who 1))
