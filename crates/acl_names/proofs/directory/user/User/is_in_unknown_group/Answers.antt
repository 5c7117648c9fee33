use Rattle.std.proofs.Common.{◌∙◌, sym, ap, is_none, find, bytes_eq, string_bytes}
use Rattle.std.specs.List.{list_any}
use Rattle.acl_names.proofs.AnyLemmas.{list_any-map}
use Rattle.acl_names.proofs.directory.user.User.is_in_unknown_group.Goals as goal

pub returns : goal.returns
returns c =
    rw (← c.self.view_is) (c.lacks_group.ensures ∙ ap (list_any _) c.deref.ensures.value
    ∙ sym (list_any-map (λ name. is_none (find (λ group. bytes_eq group.name name) c.args.groups.now)) string_bytes c.self.inside.groups.items))
