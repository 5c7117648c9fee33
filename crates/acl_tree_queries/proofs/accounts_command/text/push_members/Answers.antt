use Rattle.std.proofs.Common.{rules, ◌≡◌, ◌∙◌, ◌<◌, ◌++◌, ℕ, List, Bool, true, false, ap, append-nil, append_assoc, get_or, length, refl, sym, take}
use Rattle.std.specs.List.{join_with_byte}
use Rattle.acl_names.specs.Bytes.{comma}
use Rattle.acl_tree_queries.specs.AccountsText.{behind_comma, is_member, members_in}
use Rattle.acl_tree_queries.proofs.AccountsLemmas.{is_first, joined_more, member_more, member_not, not_first}
use Rattle.acl_tree_queries.proofs.accounts_command.text.push_members.Goals as goal
use Rattle.acl_tree_queries.proofs.accounts_command.text.push_members.Goals.{then-is_in+in_ok-push_member, else-is_in}

pub loop-user-init : goal.loop-user-init
loop-user-init c = record { text = sym (append-nil c.args.out.now.items); first = refl }

pub loop-user-preserved : goal.loop-user-preserved
loop-user-preserved c =
    let users = c.args.users.now in
    let at = c.loop-user.user-index in
    let user = c.user-item.result in
    let group = c.args.group.now in
    let here : get_or users at user ≡ user = search rules in
    let within : at < length users = search rules in
    let before : List (List ℕ) = members_in group (take at users) in
    let old = c.args.out.now.items in
    elim c.if-is_in.branch [
      | then-is_in+in_ok-push_member w ↦
          let is : is_member group user ≡ true = sym c.is_in.ensures ∙ w.if-is_in.true in
          let more = member_more group users at user within here is in
          let first : Bool = c.loop-user.first in
          let name_is : w.as_str.result.now ≡ user.name = search rules in
          record {
            text = ap (λ out. out.items) w.out-is ∙ w.in_ok-push_member.ensures
                ∙ ap (λ (name : List ℕ). c.loop-user.out.items ++ behind_comma first name) name_is
                ∙ ap (λ (text : List ℕ). text ++ behind_comma first user.name) c.loop-user.invariant.text
                ∙ append_assoc old (join_with_byte comma before) (behind_comma first user.name)
                ∙ ap (λ (text : List ℕ). old ++ text)
                (ap (λ (first : Bool). join_with_byte comma before ++ behind_comma first user.name) c.loop-user.invariant.first
                ∙ sym (joined_more before user.name) ∙ ap (join_with_byte comma) (sym more));
            first = w.first-is ∙ sym (ap is_first more ∙ not_first before user.name);
          }
      | else-is_in w ↦
          let is : is_member group user ≡ false = sym c.is_in.ensures ∙ w.if-is_in.false in
          let same = member_not group users at user within here is in
          record {
            text = ap (λ out. out.items) w.out-is ∙ c.loop-user.invariant.text ∙ ap (λ (names : List (List ℕ)). old ++ join_with_byte comma names) (sym same);
            first = w.first-is ∙ c.loop-user.invariant.first ∙ ap is_first (sym same);
          }
    ]
