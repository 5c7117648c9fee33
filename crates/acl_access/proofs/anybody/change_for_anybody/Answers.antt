use Rattle.std.proofs.Common.{◌∙◌, List, ap}
use Rattle.std.proofs.lemmas.Result.{IfOk-weaker}
use Rattle.acl_names.specs.Requester.{Identity}
use Rattle.acl_posix.specs.Entry.{EntryValue}
use Rattle.acl_nfs4.specs.Ace.{Nfsace4}
use Rattle.acl_nfs4.specs.Who.{who_of}
use Rattle.acl_bridge.specs.Files.{File, view_acl, view_list}
use Rattle.acl_bridge.specs.Translation.{translation}
use Rattle.acl_bridge.specs.declared.any_acl.AnyAcl.TheVariants.{Posix, Nfs4}
use Rattle.acl_access.proofs.OthersLemmas.{of_lists, of_nfs4, of_nfs4_and_posix, of_posix, of_posix_and_nfs4}
use Rattle.acl_access.proofs.anybody.change_for_anybody.Goals as goal

pub returns-in-Posix-Posix : goal.returns-in-Posix-Posix
returns-in-Posix-Posix c =
    let known : List Identity = c.args.known.now in
    let before : File = view_acl c.args.before.now in
    let after : File = view_acl c.args.after.now in
    let first : List EntryValue = c.in-Posix-Posix.first.now in
    let second : List EntryValue = c.in-Posix-Posix.second.now in
    IfOk-weaker c.among.result _ _
    (λ found. of_lists known (λ (entry : EntryValue). who_of entry.tag) before after found (Posix first) (Posix second) first second
    c.entries.result.now c.entries-in-Posix-Posix.result.now (ap view_list c.in-Posix-Posix.is-0) (ap view_list c.in-Posix-Posix.is-1)
    c.entries.ensures.value c.entries-in-Posix-Posix.ensures.value
    (of_posix known before.owners after.owners first second c.entries.ensures.acl.valid c.entries-in-Posix-Posix.ensures.acl.valid found))
    c.among.ensures

pub returns-in-Nfs4-Nfs4 : goal.returns-in-Nfs4-Nfs4
returns-in-Nfs4-Nfs4 c =
    let known : List Identity = c.args.known.now in
    let before : File = view_acl c.args.before.now in
    let after : File = view_acl c.args.after.now in
    let first : List Nfsace4 = c.in-Nfs4-Nfs4.first.now in
    let second : List Nfsace4 = c.in-Nfs4-Nfs4.second.now in
    IfOk-weaker c.among-in-Nfs4-Nfs4.result _ _
    (λ found. of_lists known (λ (ace : Nfsace4). ace.who) before after found (Nfs4 first) (Nfs4 second) first second
    c.aces-in-Nfs4-Nfs4.result.now c.aces-in-Nfs4-Nfs4-2.result.now (ap view_list c.in-Nfs4-Nfs4.is-0) (ap view_list c.in-Nfs4-Nfs4.is-1)
    c.aces-in-Nfs4-Nfs4.ensures.value c.aces-in-Nfs4-Nfs4-2.ensures.value (of_nfs4 known before.owners after.owners first second found))
    c.among-in-Nfs4-Nfs4.ensures

pub returns-in_ok-as_nfs4-in-Posix-Nfs4 : goal.returns-in_ok-as_nfs4-in-Posix-Nfs4
returns-in_ok-as_nfs4-in-Posix-Nfs4 c =
    let known : List Identity = c.args.known.now in
    let before : File = view_acl c.args.before.now in
    let after : File = view_acl c.args.after.now in
    let acl : List EntryValue = c.in-Posix-Nfs4.first.now in
    let aces : List Nfsace4 = c.in-Posix-Nfs4.second.now in
    IfOk-weaker c.among-in-Posix-Nfs4.result _ _
    (λ found. of_lists known (λ (ace : Nfsace4). ace.who) before after found (Posix acl) (Nfs4 aces) (translation acl) aces
    c.aces-in-Posix-Nfs4.result.now c.aces-in-Posix-Nfs4-2.result.now (ap view_list c.in-Posix-Nfs4.is-0) (ap view_list c.in-Posix-Nfs4.is-1)
    (c.aces-in-Posix-Nfs4.ensures.value ∙ c.in_ok-as_nfs4-in-Posix-Nfs4.ensures.list) c.aces-in-Posix-Nfs4-2.ensures.value
    (of_posix_and_nfs4 known before.owners after.owners acl aces c.in_ok-as_nfs4-in-Posix-Nfs4.ensures.valid found))
    c.among-in-Posix-Nfs4.ensures

pub returns-in_ok-as_nfs4-in-Nfs4-Posix : goal.returns-in_ok-as_nfs4-in-Nfs4-Posix
returns-in_ok-as_nfs4-in-Nfs4-Posix c =
    let known : List Identity = c.args.known.now in
    let before : File = view_acl c.args.before.now in
    let after : File = view_acl c.args.after.now in
    let aces : List Nfsace4 = c.in-Nfs4-Posix.first.now in
    let acl : List EntryValue = c.in-Nfs4-Posix.second.now in
    IfOk-weaker c.among-in-Nfs4-Posix.result _ _
    (λ found. of_lists known (λ (ace : Nfsace4). ace.who) before after found (Nfs4 aces) (Posix acl) aces (translation acl)
    c.aces-in-Nfs4-Posix.result.now c.aces-in-Nfs4-Posix-3.result.now (ap view_list c.in-Nfs4-Posix.is-0) (ap view_list c.in-Nfs4-Posix.is-1)
    c.aces-in-Nfs4-Posix.ensures.value (c.aces-in-Nfs4-Posix-3.ensures.value ∙ c.in_ok-as_nfs4-in-Nfs4-Posix.ensures.list)
    (of_nfs4_and_posix known before.owners after.owners aces acl c.in_ok-as_nfs4-in-Nfs4-Posix.ensures.valid found))
    c.among-in-Nfs4-Posix.ensures
