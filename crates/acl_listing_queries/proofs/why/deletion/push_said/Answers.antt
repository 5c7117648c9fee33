use Rattle.std.proofs.Common.{◌≡◌, ◌∙◌, ◌++◌, ◌^◌, List, ap, sym, ℕ}
use Rattle.std.proofs.lemmas.List.{append_assoc}
use Rattle.std.proofs.lemmas.Result.{on_ok_weaker}
use Rattle.acl_nfs4.specs.Mask.{mask_bits}
use Rattle.acl_nfs4.specs.Who.{matches}
use Rattle.acl_queries.specs.AclText.{nobody}
use Rattle.acl_queries.specs.Reasons.{bit_line}
use Rattle.acl_bridge.specs.Files.{file_with, view_list}
use Rattle.acl_listing_queries.specs.WhyDeletion.{FileAt, said_line, said_text}
use Rattle.acl_listing_queries.specs.WhyReasons.{named_line}
use Rattle.acl_listing_queries.specs.WhySteps.{view_at}
use Rattle.acl_listing_queries.proofs.why.deletion.push_said.Goals as goal

pub returns-in_ok-push_named-in-Nfs4 : goal.returns-in_ok-push_named-in-Nfs4
returns-in_ok-push_named-in-Nfs4 c = λ place is.
    let out : List ℕ = c.args.out.now.items in
    let word : List ℕ = c.args.word.now in
    let at : FileAt = view_at c.args.at.now in
    let who = c.args.requester.now in
    let speaker : ℕ → List ℕ = λ bit. bit_line nobody (matches at.file.owners.owner at.file.owners.group who) c.in-Nfs4.acl.now bit in
    let named : List ℕ = named_line word at.path (said_line c.args.said) in
    let front : c.push_named.new.out.items ≡ out ++ named = c.in_ok-push_named-in-Nfs4.ensures ∙ ap (λ (line : List ℕ). out ++ named_line word at.path line) c.said_line.ensures in
    let text : named ++ speaker (2 ^ place) ≡ said_text word c.args.said place at who =
    ap (λ list. said_text word c.args.said place (record { path = at.path; file = file_with at.file.owners (view_list list) }) who) (sym c.in-Nfs4.is) in
    on_ok_weaker c.push_first_speaker.result
    (λ reported. reported ∙ ap (λ (front : List ℕ). front ++ speaker (mask_bits c.args.bit)) front ∙ ap (λ (bit : ℕ). (out ++ named) ++ speaker bit) is
    ∙ append_assoc out named (speaker (2 ^ place)) ∙ ap (λ (text : List ℕ). out ++ text) text) c.push_first_speaker.ensures
