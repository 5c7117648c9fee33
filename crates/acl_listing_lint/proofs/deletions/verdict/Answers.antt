use Rattle.std.proofs.Common.{rules, ◌≡◌, ◌∙◌, ◌<◌, Some, ap, get_or, length, sym}
use Rattle.acl_nfs4.specs.Ace.{is_allow}
use Rattle.acl_listing_lint.specs.Deletions.{is_everyone}
use Rattle.acl_access.proofs.StandingLemmas.{first_found, none_so_far, not_allow}
use Rattle.acl_listing_lint.proofs.deletions.verdict.Goals as goal

pub returns-in-Allow : goal.returns-in-Allow
returns-in-Allow c = λ place is.
    let aces = c.args.acl.now in
    let at = c.loop-ace.ace-index in
    let ace = c.ace-item.result in
    let within : at < length aces = search rules in
    let here : get_or aces at ace ≡ ace = search rules in
    sym
    (first_found is_everyone place aces at ace within here (c.loop-ace.invariant place is)
    (sym (c.speaks.ensures place is) ∙ c.if-speaks.true)
    ∙ ap (λ kind. Some (is_allow kind)) (sym c.kind.ensures ∙ c.in-Allow.is))

pub returns-in_default : goal.returns-in_default
returns-in_default c = λ place is.
    let aces = c.args.acl.now in
    let at = c.loop-ace.ace-index in
    let ace = c.ace-item.result in
    let within : at < length aces = search rules in
    let here : get_or aces at ace ≡ ace = search rules in
    sym
    (first_found is_everyone place aces at ace within here (c.loop-ace.invariant place is)
    (sym (c.speaks.ensures place is) ∙ c.if-speaks.true)
    ∙ ap (λ allow. Some allow) (sym (not_allow ace.kind (λ allow. c.in_default.not-Allow (c.kind.ensures ∙ allow)))))

pub loop-ace-preserved : goal.loop-ace-preserved
loop-ace-preserved c = λ place is.
    let aces = c.args.acl.now in
    let at = c.loop-ace.ace-index in
    let ace = c.ace-item.result in
    let within : at < length aces = search rules in
    let here : get_or aces at ace ≡ ace = search rules in
    none_so_far is_everyone place aces at ace within here (c.loop-ace.invariant place is)
    (sym (c.speaks.ensures place is) ∙ c.if-speaks.false)
