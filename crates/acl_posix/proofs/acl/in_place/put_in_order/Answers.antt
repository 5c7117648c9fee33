use Rattle.std.proofs.Common.{◌≡◌, ◌∙◌, IfNone, Option, Some, None, ap, not, refl, sym}
use Rattle.acl_posix.specs.declared.acl.Invalid.{Invalid}
use Rattle.acl_posix.proofs.FaultLemmas.{fault_of-permutation}
use Rattle.acl_posix.proofs.InOrderLemmas.{in_order-canonical}
use Rattle.acl_posix.proofs.ValidityLemmas.{IsValid-from_fault_of, valid-distinct}
use Rattle.acl_posix.proofs.acl.in_place.put_in_order.Goals as goal

if_none : {A : Type 0} (found : Option Invalid) → (found ≡ None → A) → IfNone found A
if_none None holds = holds refl
if_none (Some fault) holds = tt

pub returns-clause-fault : goal.returns-clause-fault
returns-clause-fault c = c.first_fault.ensures ∙ sym (fault_of-permutation _ _ c.sort-distinct.ensures.permutation)

pub returns-clause-valid : goal.returns-clause-valid
returns-clause-valid c = if_none c.first_fault.result (λ none. IsValid-from_fault_of c.sort-distinct.new.entries (sym c.first_fault.ensures ∙ none))

pub returns-clause-list : goal.returns-clause-list
returns-clause-list c = if_none c.first_fault.result (λ none.
    let valid = IsValid-from_fault_of c.sort-distinct.new.entries (sym c.first_fault.ensures ∙ none) in
    let canonical = c.sort-distinct.ensures.canonical (c.sort-distinct.ensures.distinct ∙ ap not (valid-distinct c.sort-distinct.new.entries valid)) in
    sym (in_order-canonical c.args.entries.now c.sort-distinct.new.entries canonical c.sort-distinct.ensures.permutation))
