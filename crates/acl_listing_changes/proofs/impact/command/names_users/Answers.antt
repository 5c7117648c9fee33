use Rattle.std.proofs.Common.{◌≡◌, ◌∙◌, Option, Some, None, ap, is_some, option_map, refl}
use Rattle.acl_listing_changes.proofs.impact.command.names_users.Goals as goal

some_shown : {X Y : Type 0} (f : X → Y) (found : Option X) → is_some found ≡ is_some (option_map f found)
some_shown f None = refl
some_shown f (Some item) = refl

pub returns : goal.returns
returns c = c.is_some.ensures ∙ some_shown _ c.user_fields.result ∙ ap is_some c.user_fields.ensures
