-- Private steps, which no public clause cites: what a text writes in a directory's domain.
use Rattle.std.specs.Prelude.{ℕ, List, [], ◌∷◌, ◌&&◌, Result, Ok, Err, if◌then◌else◌, bytes_eq}
use Rattle.acl_names.specs.Ids.{Written, Name, written_id, has_domain_shape, has_name_shape}
use Rattle.acl_names.specs.Steps.{or_fault}
use Rattle.acl_names.specs.declared.directory.resolve.NameFault.{NameFault}
use Rattle.acl_names.specs.declared.directory.resolve.NameFault.TheVariants.{Malformed, Unknown}

-- by the parts between each '@': an id, or a name without this domain; one in another is unknown
abbrev pub written_here : List ℕ → List (List ℕ) → Result Written NameFault
written_here here (id ∷ []) = or_fault Malformed (written_id id)
written_here here (name ∷ domain ∷ []) = if has_name_shape name && has_domain_shape domain
    then (if bytes_eq domain here then Ok (Name name) else Err Unknown) else Err Malformed
written_here here _ = Err Malformed
