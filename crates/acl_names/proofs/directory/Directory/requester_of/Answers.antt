use Rattle.std.proofs.Common.{◌∙◌, sym, ap, Some, rules}
use Rattle.std.proofs.lemmas.Option.{slice_get-get_or}
use Rattle.acl_names.proofs.DirectoryLemmas.{ready_found, none_ready}
use Rattle.acl_names.proofs.directory.Directory.requester_of.Goals as goal

pub index-requires : goal.index-requires
index-requires c =
    let found = rw (c.deref.ensures.value, c.value.ensures.value) at c.in-Some.ensures in
    let ready = ready_found c.args.self.now c.self.inside.user_places.items c.self.inside.group_places.items c.self.inside.requesters.items (rw c.self.view_is at c.self.invariant)
    c.args.uid c.in-Some.place found in
    search (rules, ready.0)

pub returns-in-Some : goal.returns-in-Some
returns-in-Some c =
    let found = rw (c.deref.ensures.value, c.value.ensures.value) at c.in-Some.ensures in
    let ready = ready_found c.args.self.now c.self.inside.user_places.items c.self.inside.group_places.items c.self.inside.requesters.items (rw c.self.view_is at c.self.invariant)
    c.args.uid c.in-Some.place found in
    ap Some c.index.ensures ∙ sym (slice_get-get_or c.self.inside.requesters.items c.in-Some.place c.index.result.now ready.0) ∙ ready.1

pub returns-in-None : goal.returns-in-None
returns-in-None c =
    let none = rw (c.deref.ensures.value, c.value.ensures.value) at c.in-None.ensures in
    sym (none_ready c.args.self.now c.self.inside.user_places.items c.self.inside.group_places.items c.self.inside.requesters.items (rw c.self.view_is at c.self.invariant)
    c.args.uid none)
