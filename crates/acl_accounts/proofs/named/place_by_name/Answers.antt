use Rattle.std.proofs.Common.{◌<◌, length, sym, rules, nat_cmp}
use Rattle.std.specs.Cmp.Lexicographic.{slice_cmp}
use Rattle.std.proofs.lemmas.Fn.{always_returns_same}
use Rattle.acl_accounts.proofs.PlaceLemmas.{place_absent, place_searched}
use Rattle.acl_accounts.proofs.named.place_by_name.Goals as goal

pub returns-in-Ok : goal.returns-in-Ok
returns-in-Ok g c =
    let name_of = g.T.Named.name_of in
    let members = c.args.members.now in
    let here = c.in-Ok.ensures.position (λ member. slice_cmp nat_cmp (name_of member) c.args.name.now) (always_returns_same _ _ _ (λ a r q called. search rules)) in
    let inside : c.in-Ok.place < length members = search (rules, c.in-Ok.ensures.bound) in
    sym (place_searched name_of members c.args.name.now c.requires c.in-Ok.place inside here)

pub returns-in-Err : goal.returns-in-Err
returns-in-Err g c =
    let name_of = g.T.Named.name_of in
    let absent = c.in-Err.ensures.position (λ member. slice_cmp nat_cmp (name_of member) c.args.name.now) (always_returns_same _ _ _ (λ a r q called. search rules)) in
    sym (place_absent name_of c.args.members.now c.args.name.now c.requires c.in-Err.field-0 absent)
