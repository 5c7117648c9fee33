use Rattle.std.proofs.Common.{◌≡◌, ◌∙◌, subst, sym, None, string_bytes}
use Rattle.std.proofs.lemmas.Bool.{false≢true}
use Rattle.std.proofs.lemmas.List.Sorted.{length_permutation}
use Rattle.acl_names.specs.Directory.{AnswersAs, Known, fault_of}
use Rattle.acl_names.proofs.DirectoryLemmas.{answers_alike, fault_of-moved, none_from, refused_for}
use Rattle.acl_names.proofs.directory.Directory.from_parts.Goals as goal

pub returns-in-Some-clause-refused : goal.returns-in-Some-clause-refused
returns-in-Some-clause-refused c =
    let parts : Known = record { domain = string_bytes c.args.domain; users = c.args.users.items; groups = c.args.groups.items } in
    let found = rw (c.deref.ensures, c.deref-2.ensures.value, c.deref-3.ensures.value) at c.first_fault.ensures in
    refused_for parts c.in-Some.fault
    (fault_of-moved (string_bytes c.args.domain) c.args.users.items c.sort-user_keys.new.members.items c.args.groups.items c.sort-group_keys.new.members.items
    c.sort-user_keys.ensures.permutation c.sort-group_keys.ensures.permutation ∙ sym found ∙ c.in-Some.is)

pub returns-in-Ok-clause-made : goal.returns-in-Ok-clause-made
returns-in-Ok-clause-made c =
    let parts : Known = record { domain = string_bytes c.args.domain; users = c.args.users.items; groups = c.args.groups.items } in
    let found = rw (c.deref.ensures, c.deref-2.ensures.value, c.deref-3.ensures.value) at c.first_fault.ensures in
    let faultless : fault_of (record { domain = string_bytes c.args.domain; users = c.sort-user_keys.new.members.items; groups = c.sort-group_keys.new.members.items }) ≡ None =
    sym found ∙ none_from _ c.in_default.not-Some in (
      fault_of-moved (string_bytes c.args.domain) c.args.users.items c.sort-user_keys.new.members.items c.args.groups.items c.sort-group_keys.new.members.items
          c.sort-user_keys.ensures.permutation c.sort-group_keys.ensures.permutation ∙ faultless,
      subst (λ (made : Known). AnswersAs made parts) (sym c.in-Ok.ensures.lists)
          (answers_alike (string_bytes c.args.domain) c.args.users.items c.sort-user_keys.new.members.items c.args.groups.items c.sort-group_keys.new.members.items
          c.sort-user_keys.ensures.permutation c.sort-group_keys.ensures.permutation faultless),
    )

pub returns-in-Err-clause-refused : goal.returns-in-Err-clause-refused
returns-in-Err-clause-refused c =
    let found = rw (c.deref.ensures, c.deref-2.ensures.value, c.deref-3.ensures.value) at c.first_fault.ensures in
    fault_of-moved (string_bytes c.args.domain) c.args.users.items c.sort-user_keys.new.members.items c.args.groups.items c.sort-group_keys.new.members.items
    c.sort-user_keys.ensures.permutation c.sort-group_keys.ensures.permutation ∙ sym found ∙ none_from _ c.in_default.not-Some

pub returns-in-Err-clause-empty : goal.returns-in-Err-clause-empty
returns-in-Err-clause-empty c no_users no_groups =
    λ _. false≢true (c.in-Err.ensures.empty (length_permutation _ _ c.sort-user_keys.ensures.permutation ∙ no_users)
    (length_permutation _ _ c.sort-group_keys.ensures.permutation ∙ no_groups))
