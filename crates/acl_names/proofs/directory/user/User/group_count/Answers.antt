use Rattle.std.proofs.Common.{◌≡◌, ◌∙◌, sym, length, rules, string_bytes}
use Rattle.std.proofs.lemmas.List.{length-map}
use Rattle.acl_names.proofs.directory.user.User.group_count.Goals as goal

pub returns : goal.returns
returns c =
    let counted : c.len.result ≡ length c.self.inside.groups.items = search rules in
    rw (← c.self.view_is) (counted ∙ sym (length-map c.self.inside.groups.items string_bytes))
