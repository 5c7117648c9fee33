-- Where in a setup a fault is, as it is reported.
use Rattle.std.specs.Prelude.{ℕ, List, [], ◌∷◌, ◌++◌, codes, decimal}
use Rattle.acl_names.specs.Bytes.{colon, hyphen}
use Rattle.acl_setup.specs.declared.fault.SetupError.{SetupError}
use Rattle.acl_setup.specs.declared.fault.SetupError.TheVariants.{NotToml, BadField, Parts}
use Rattle.acl_setup.specs.declared.fault.SetupError.TheVariants.{Memory}
use Rattle.acl_setup.specs.declared.key.Key.{Key}
use Rattle.acl_setup.specs.declared.key.Key.TheVariants as at
use Rattle.acl_setup.specs.declared.spot.Spot.{Spot}

-- an index, between what stands before it and what stands behind it
abbrev pub indexed : List ℕ → ℕ → List ℕ → List ℕ
indexed before index behind = before ++ decimal index ++ behind

-- a key as TOML writes it
abbrev pub key_text : Key → List ℕ
key_text at.Domain = codes "domain"
key_text at.Umask = codes "umask"
key_text at.Root = codes "root"
key_text at.RootOwner = codes "root.owner"
key_text at.RootGroup = codes "root.group"
key_text at.RootMode = codes "root.mode"
key_text at.RootStyle = codes "root.style"
key_text at.Users = codes "user"
key_text (at.User index) = indexed (codes "user[") index (codes "]")
key_text (at.UserName index) = indexed (codes "user[") index (codes "].name")
key_text (at.UserUid index) = indexed (codes "user[") index (codes "].uid")
key_text (at.UserGroups index) = indexed (codes "user[") index (codes "].groups")
key_text (at.UserGroup index item) =
    indexed (codes "user[") index (codes "].groups") ++ indexed (codes "[") item (codes "]")
key_text at.Groups = codes "group"
key_text (at.Group index) = indexed (codes "group[") index (codes "]")
key_text (at.GroupName index) = indexed (codes "group[") index (codes "].name")
key_text (at.GroupGid index) = indexed (codes "group[") index (codes "].gid")

-- `LINE:COLUMN`
abbrev pub spot_text : Spot → List ℕ
spot_text spot = decimal spot.line ++ colon ∷ decimal spot.column

-- the place of a fault: the spot in a text that is no document, and else the key
abbrev pub setup_place : SetupError → List ℕ
setup_place (NotToml spot) = spot_text spot
setup_place (BadField key) = key_text key
setup_place (Parts fault key) = key_text key
setup_place Memory = hyphen ∷ []
