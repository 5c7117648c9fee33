use Rattle.std.proofs.Common.{◌≡◌, ◌==◌, ◌∷◌, [], ℕ, List, None, Some, true, refl, rules, arith, option_map, find}
use Rattle.std.proofs.lemmas.Bool.Decides.{nat_tests}
use Rattle.acl_names.specs.Directory.{AnswersAs, Known, KnownGroup, KnownUser}
use Rattle.acl_queries.specs.AclText.{nobody}
use Rattle.acl_queries.proofs.command.acl.empty_directory.Goals as goal

-- if no uid has a name there is no user, and if no gid has one there is no group
no_users : (users : List KnownUser) → ((uid : ℕ) → option_map (λ user. user.name) (find (λ user. user.uid == uid) users) ≡ None) → users ≡ []
no_users [] none = refl
no_users (user ∷ users) none =
    let here : (user.uid == user.uid) ≡ true = grind (arith, nat_tests) in
    let found : option_map (λ other. other.name) (find (λ other. other.uid == user.uid) (user ∷ users)) ≡ Some user.name = rw here refl in
    let lost = none user.uid in
    cc

no_groups : (groups : List KnownGroup) → ((gid : ℕ) → option_map (λ group. group.name) (find (λ group. group.gid == gid) groups) ≡ None) → groups ≡ []
no_groups [] none = refl
no_groups (group ∷ groups) none =
    let here : (group.gid == group.gid) ≡ true = grind (arith, nat_tests) in
    let found : option_map (λ other. other.name) (find (λ other. other.gid == group.gid) (group ∷ groups)) ≡ Some group.name = rw here refl in
    let lost = none group.gid in
    cc

pub returns-in-Ok : goal.returns-in-Ok
returns-in-Ok c =
    let known : Known = c.in-Ok.directory in
    let answers : AnswersAs known nobody = search rules in
    let users = no_users known.users answers.user_names in
    let groups = no_groups known.groups answers.group_names in
    rw (answers.domain, users, groups) refl
