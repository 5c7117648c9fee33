use Rattle.std.proofs.Common.{◌≡◌, ◌++◌, drop}
use Rattle.acl_nfs4.specs.Inheritance.{inherited_list}
use Rattle.acl_nfs4.proofs.acl.Acl4.inherited.Given as goal

-- the entries so far, and what those to come leave, are the whole
abbrev pub invariant-loop-ace : goal.invariant-loop-ace
invariant-loop-ace l = l.draft ++ inherited_list l.kind (drop l.ace-index l.ace-items) ≡ inherited_list l.kind l.ace-items
