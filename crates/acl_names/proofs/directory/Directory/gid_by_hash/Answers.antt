use Rattle.std.proofs.Common.{◌≡◌, Some, subst, sym}
use Rattle.acl_names.specs.Directory.{Known, group_named}
use Rattle.acl_names.proofs.DirectoryLemmas.{group_shaped}
use Rattle.acl_names.proofs.directory.Directory.gid_by_hash.Goals as goal

pub returns-in-Some-clause-shaped : goal.returns-in-Some-clause-shaped
returns-in-Some-clause-shaped c =
    let known = c.args.self.now in
    let name = c.args.name.now in
    let group = c.in-Some.group.now in
    let found : group_named known name ≡ Some group =
    sym (subst (λ (other : Known). Some group ≡ group_named other name) c.self.view_is (rw c.deref.ensures.value at c.in-Some.ensures)) in
    group_shaped known (rw c.self.view_is at c.self.invariant).faultless name group found
