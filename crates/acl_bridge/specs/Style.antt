-- The two styles of access control list.
use Rattle.std.specs.Prelude.{ℕ, List, Option, Some, None, codes, if◌then◌else◌, bytes_eq}
use Rattle.acl_bridge.specs.declared.style.Style.{Style}
use Rattle.acl_bridge.specs.declared.style.Style.TheVariants.{Posix, Nfs4}

-- the style with this name: `posix` or `nfs4`
abbrev pub style_of : List ℕ → Option Style
style_of name =
    if bytes_eq name (codes "posix") then Some Posix
    else (if bytes_eq name (codes "nfs4") then Some Nfs4 else None)
