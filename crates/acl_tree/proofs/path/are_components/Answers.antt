use Rattle.std.proofs.Common.{◌≡◌, ◌&&◌, ◌+◌, ◌∙◌, false, ap, arith, drop, take, sym, true}
use Rattle.std.specs.List.{list_all}
use Rattle.std.proofs.lemmas.List.{drop_more, take_rest}
use Rattle.std.proofs.Math.Bool.{and-true}
use Rattle.acl_names.specs.Pieces.{parts}
use Rattle.acl_tree.specs.Path.{is_component}
use Rattle.acl_tree.specs.declared.path.TheConstants.{SLASH}
use Rattle.acl_tree.proofs.ComponentLemmas.{all_path_bytes, at_end, at_other, at_slash, not_same}
use Rattle.acl_tree.proofs.path.are_components.Goals as goal

pub returns-then-end-rest : goal.returns-then-end-rest
returns-then-end-rest c =
    let rest = c.loop-rest.rest.now in
    let end = c.path_bytes_len-end in
    let whole = at_end rest end.result end.ensures.value (omega (arith, end.ensures.within, c.if-end-rest.true)) in
    c.is_component_of_path_bytes.ensures (all_path_bytes rest whole.0) ∙ sym (and-true (is_component rest)) ∙ sym whole.1 ∙ c.loop-rest.invariant

pub returns-then-rest-end-ne-SLASH : goal.returns-then-rest-end-ne-SLASH
returns-then-rest-end-ne-SLASH c =
    let rest = c.loop-rest.rest.now in
    let end = c.path_bytes_len-end in
    sym (at_other rest end.result end.ensures.value (omega (arith, c.if-end-rest.false)) (not_same _ SLASH c.if-rest-end-ne-SLASH.true)) ∙ c.loop-rest.invariant

pub returns-then-not-is_component_of_path_bytes : goal.returns-then-not-is_component_of_path_bytes
returns-then-not-is_component_of_path_bytes c =
    let rest = c.loop-rest.rest.now in
    let end = c.path_bytes_len-end in
    let slash = at_slash rest end.result end.ensures.value (omega (arith, c.if-end-rest.false)) c.if-rest-end-ne-SLASH.false in
    let component : is_component (take end.result rest)
    ≡ false = sym (c.is_component_of_path_bytes-in-loop-rest.ensures
    (all_path_bytes (take end.result rest) slash.0)) ∙ c.if-not-is_component_of_path_bytes.true in
    sym (slash.1 ∙ ap (λ b. b && list_all is_component (parts SLASH (drop (end.result + 1) rest))) component) ∙ c.loop-rest.invariant

pub loop-rest-preserved : goal.loop-rest-preserved
loop-rest-preserved c =
    let rest = c.loop-rest.rest.now in
    let end = c.path_bytes_len-end in
    let slash = at_slash rest end.result end.ensures.value (omega (arith, c.if-end-rest.false)) c.if-rest-end-ne-SLASH.false in
    let component : is_component (take end.result rest)
    ≡ true = sym (c.is_component_of_path_bytes-in-loop-rest.ensures
    (all_path_bytes (take end.result rest) slash.0)) ∙ c.if-not-is_component_of_path_bytes.false in
    rw (take_rest, take_rest, drop_more rest end.result 0 (omega (arith, c.if-end-rest.false)))
    (sym (slash.1 ∙ ap (λ b. b && list_all is_component (parts SLASH (drop (end.result + 1) rest)))
    component) ∙ c.loop-rest.invariant)
