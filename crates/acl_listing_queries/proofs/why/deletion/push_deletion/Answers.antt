use Rattle.std.proofs.Common.{◌≡◌, ◌∙◌, ◌++◌, ◌||◌, Bool, List, ap, ap₂, codes, false, refl, sym, true, ℕ}
use Rattle.std.specs.Prelude.{is_some}
use Rattle.std.proofs.lemmas.Result.{on_ok_weaker}
use Rattle.acl_access.specs.Deletes.{delete, delete_child, owns, said_of}
use Rattle.acl_listing_queries.specs.WhyDeletion.{FileAt, adding_text, is_open, said_text, sticky_lines}
use Rattle.acl_listing_queries.specs.WhySteps.{view_at}
use Rattle.acl_listing_queries.proofs.DeletionTextLemmas.{open_both, reasons_open, reasons_said, shut_first, shut_second}
use Rattle.acl_listing_queries.proofs.why.deletion.push_deletion.Goals.{then-is_some-via-then-is_some, then-is_some-via-else-is_some+then-is_some-2, then-above, else-above}
use Rattle.acl_listing_queries.proofs.why.deletion.push_deletion.Goals as goal

pub returns-then-is_some : goal.returns-then-is_some
returns-then-is_some c =
    let out : List ℕ = c.args.out.now.items in
    let folder : FileAt = view_at c.args.folder.now in
    let file : FileAt = view_at c.args.file.now in
    let who = c.args.requester.now in
    let said : c.standing_of-here.result.delete ≡ said_of file.file who delete = ap (λ standing. standing.delete) c.standing_of-here.ensures in
    let child : c.standing_of-above.result.delete_child ≡ said_of folder.file who delete_child = ap (λ standing. standing.delete_child) c.standing_of-above.ensures in
    let first : c.push_said.new.out.items ≡ out ++ said_text (codes "delete") (said_of file.file who delete) delete file who =
    c.in_ok-push_said.ensures delete refl ∙ ap (λ said. out ++ said_text (codes "delete") said delete file who) said in
    let second : c.push_said-2.new.out.items ≡ c.push_said.new.out.items ++ said_text (codes "delete-child") (said_of folder.file who delete_child) delete_child folder who =
    c.in_ok-push_said-2.ensures delete_child refl ∙ ap (λ said. c.push_said.new.out.items ++ said_text (codes "delete-child") said delete_child folder who) child in
    let shut : is_open folder.file file.file who ≡ false =
    elim c.then-is_some.branch [
      | then-is_some-via-then-is_some w ↦ shut_first _ _ (ap is_some (sym said) ∙ sym c.is_some.ensures ∙ w.if-is_some.true)
      | then-is_some-via-else-is_some+then-is_some-2 w ↦ shut_second _ _ (ap is_some (sym child) ∙ sym w.is_some-else-is_some.ensures ∙ w.if-is_some-2.true)
    ] in
    reasons_said c.args.sticky folder file who out c.push_said.new.out.items c.push_said-2.new.out.items first second shut

pub returns : goal.returns
returns c =
    let out : List ℕ = c.args.out.now.items in
    let folder : FileAt = view_at c.args.folder.now in
    let file : FileAt = view_at c.args.file.now in
    let who = c.args.requester.now in
    let said : c.standing_of-here.result.delete ≡ said_of file.file who delete = ap (λ standing. standing.delete) c.standing_of-here.ensures in
    let child : c.standing_of-above.result.delete_child ≡ said_of folder.file who delete_child = ap (λ standing. standing.delete_child) c.standing_of-above.ensures in
    let first : c.push_said.new.out.items ≡ out ++ said_text (codes "delete") (said_of file.file who delete) delete file who =
    c.in_ok-push_said.ensures delete refl ∙ ap (λ said. out ++ said_text (codes "delete") said delete file who) said in
    let second : c.push_said-2.new.out.items ≡ c.push_said.new.out.items ++ said_text (codes "delete-child") (said_of folder.file who delete_child) delete_child folder who =
    c.in_ok-push_said-2.ensures delete_child refl ∙ ap (λ said. c.push_said.new.out.items ++ said_text (codes "delete-child") said delete_child folder who) child in
    let third : c.push_adding.new.out.items ≡ c.push_said-2.new.out.items ++ adding_text folder who = c.in_ok-push_adding.ensures (ap (λ standing. standing.adds) c.standing_of-above.ensures) in
    let one_owns : c.if-above.push_sticky ≡ (owns folder.file who || owns file.file who) =
    elim c.if-above.branch [
      | then-above w ↦ w.push_sticky-is ∙ w.if-above.true ∙ ap (λ (b : Bool). b || c.standing_of-here.result.owns) (sym w.if-above.true)
      | else-above w ↦ w.push_sticky-is ∙ ap (λ (b : Bool). b || c.standing_of-here.result.owns) (sym w.if-above.false)
    ] ∙ ap₂ (λ (one other : Bool). one || other) (ap (λ standing. standing.owns) c.standing_of-above.ensures) (ap (λ standing. standing.owns) c.standing_of-here.ensures) in
    let open_is : is_open folder.file file.file who ≡ true =
    open_both _ _ (ap is_some (sym said) ∙ sym c.is_some.ensures ∙ c.if-is_some.false) (ap is_some (sym child) ∙ sym c.is_some-else-is_some.ensures ∙ c.if-is_some-2.false) in
    on_ok_weaker c.push_sticky.result
    (λ reported. reasons_open c.args.sticky folder file who out c.push_said.new.out.items c.push_said-2.new.out.items first second c.push_adding.new.out.items c.push_sticky.new.out.items third
    (reported ∙ ap (λ (b : Bool). c.push_adding.new.out.items ++ sticky_lines c.args.sticky b folder file) one_owns) open_is) c.push_sticky.ensures
