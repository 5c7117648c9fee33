use Rattle.std.proofs.Common.{◌∙◌, sym, ap, bytes_eq, string_bytes}
use Rattle.acl_names.specs.Ascending.{repeats}
use Rattle.acl_names.proofs.MapLemmas.{repeats-map}
use Rattle.acl_names.proofs.directory.user.User.repeats_group.Goals as goal

pub returns : goal.returns
returns c =
    rw (← c.self.view_is) (c.repeats_text.ensures ∙ ap (repeats bytes_eq string_bytes) c.deref.ensures.value
    ∙ sym (repeats-map bytes_eq string_bytes c.self.inside.groups.items))
