use Rattle.std.proofs.Common.{◌∙◌, sym, ap, bytes_eq, string_bytes}
use Rattle.std.specs.List.{list_any}
use Rattle.acl_names.proofs.AnyLemmas.{list_any-map}
use Rattle.acl_tree_queries.proofs.accounts_command.text.is_in.Goals as goal

pub returns : goal.returns
returns c =
    rw (← c.user.view_is) (c.is_among.ensures ∙ ap (list_any _) c.deref.ensures.value
    ∙ sym (list_any-map (λ name. bytes_eq name c.args.group.now) string_bytes c.user.inside.groups.items))
