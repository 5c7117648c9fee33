-- The path of a command.
use Rattle.std.specs.Prelude.{◌≡◌, ℕ, true, List, Option, Some, None, IfSome}
use Rattle.acl_tree.specs.Path.{is_path}
use Rattle.acl_tree.specs.declared.request.Request.{Request}
use Rattle.acl_tree.specs.declared.request.Request.TheVariants as request

-- the path that a command names; a line that isn't a command names none
abbrev pub path_of : Request → Option (List ℕ)
path_of (request.Get path) = Some path
path_of (request.SetAccess path acl) = Some path
path_of (request.SetDefault path default) = Some path
path_of (request.SetNfs4 path acl) = Some path
path_of (request.Chmod path mode) = Some path
path_of (request.Create kind path owner mode) = Some path
path_of (request.Check path uid perms) = Some path
path_of (request.Check4 path uid mask) = Some path
path_of (request.Translate path) = Some path
path_of (request.Bad fault) = None

-- what it names is a path, as the bytes of every `Path` are
abbrev pub NamesAPath : Request → Type 0
NamesAPath request = IfSome (path_of request) (λ path. is_path path ≡ true)
