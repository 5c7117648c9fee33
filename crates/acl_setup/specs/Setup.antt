-- What a setup says, as a function of its table, or the first key at which it says nothing.
use Rattle.std.specs.Prelude.{ℕ, List, Result, Ok, codes}
use Rattle.toml.specs.Data.{Data, Members, as_table}
use Rattle.acl_names.specs.Directory.{Known, KnownGroup, KnownUser}
use Rattle.acl_names.specs.Steps.{◌>>=◌, or_fault}
use Rattle.acl_bridge.specs.declared.style.Style.{Style}
use Rattle.acl_posix.specs.Mode.{Classes}
use Rattle.acl_setup.specs.Readings.{items_at}
use Rattle.acl_setup.specs.SetupTable.{id_at, mode_at, style_at, table_at, text_at, texts_at}
use Rattle.acl_setup.specs.declared.key.Key.{Key}
use Rattle.acl_setup.specs.declared.key.Key.TheVariants as at

-- the root directory
pub record Root : Type 0 where
  pub owner : List ℕ
  pub group : List ℕ
  pub mode : Classes
  pub style : Style

pub record Setup : Type 0 where
  pub umask : Classes
  pub root : Root
  pub known : Known

-- owner = "..", group = "..", mode = "OOO", style = "posix" or "nfs4"
unfoldable pub root_in : Members → Result Root Key
root_in table = do
  owner ← or_fault at.RootOwner (text_at (codes "owner") table)
  group ← or_fault at.RootGroup (text_at (codes "group") table)
  mode ← or_fault at.RootMode (mode_at (codes "mode") table)
  style ← or_fault at.RootStyle (style_at (codes "style") table)
  Ok (record { owner = owner; group = group; mode = mode; style = style })

-- of the table `user[index]`: name = "..", uid = N, groups = ["..", ..]
unfoldable pub user_in : ℕ → Data → Result KnownUser Key
user_in index value = do
  table ← or_fault (at.User index) (as_table value)
  name ← or_fault (at.UserName index) (text_at (codes "name") table)
  uid ← or_fault (at.UserUid index) (id_at (codes "uid") table)
  groups ← or_fault (at.UserGroups index) (texts_at (codes "groups") table)
  Ok (record { name = name; uid = uid; groups = groups })

-- of the table `group[index]`: name = "..", gid = N
unfoldable pub group_in : ℕ → Data → Result KnownGroup Key
group_in index value = do
  table ← or_fault (at.Group index) (as_table value)
  name ← or_fault (at.GroupName index) (text_at (codes "name") table)
  gid ← or_fault (at.GroupGid index) (id_at (codes "gid") table)
  Ok (record { name = name; gid = gid })

-- domain = "..", umask = "OOO", [root], any number of [[user]] and of [[group]]; other keys play no
-- part
unfoldable pub setup_in : Members → Result Setup Key
setup_in table = do
  domain ← or_fault at.Domain (text_at (codes "domain") table)
  umask ← or_fault at.Umask (mode_at (codes "umask") table)
  root ← or_fault at.Root (table_at (codes "root") table) >>= root_in
  users ← items_at user_in at.Users (codes "user") table
  groups ← items_at group_in at.Groups (codes "group") table
  Ok (record {
    umask = umask;
    root = root;
    known = record {
      domain = domain;
      users = users;
      groups = groups;
    };
  })
