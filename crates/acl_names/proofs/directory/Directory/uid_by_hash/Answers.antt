use Rattle.std.proofs.Common.{◌≡◌, Some, subst, sym}
use Rattle.acl_names.specs.Directory.{Known, user_named}
use Rattle.acl_names.proofs.DirectoryLemmas.{user_shaped}
use Rattle.acl_names.proofs.directory.Directory.uid_by_hash.Goals as goal

pub returns-in-Some-clause-shaped : goal.returns-in-Some-clause-shaped
returns-in-Some-clause-shaped c =
    let known = c.args.self.now in
    let name = c.args.name.now in
    let user = c.in-Some.user.now in
    let found : user_named known name ≡ Some user =
    sym (subst (λ (other : Known). Some user ≡ user_named other name) c.self.view_is (rw c.deref.ensures.value at c.in-Some.ensures)) in
    user_shaped known (rw c.self.view_is at c.self.invariant).faultless name user found
