-- What the structs of a setup's reader stand for.
use Rattle.std.specs.Prelude.{ℕ, List, String, Vec, map, string_bytes}
use Rattle.std.specs.declared.alloc.Global.{Global}
use Rattle.acl_setup.specs.Setup as setup
use Rattle.acl_setup.specs.declared.fields.Root.{Root}
use Rattle.acl_setup.specs.declared.fields.Setup.{Setup}

abbrev pub texts_shown : Vec (String Global) Global → List (List ℕ)
texts_shown texts = map string_bytes texts.items

abbrev pub root_shown : Root → setup.Root
root_shown root = record {
  owner = string_bytes root.owner;
  group = string_bytes root.group;
  mode = root.mode;
  style = root.style;
}

abbrev pub setup_shown : Setup → setup.Setup
setup_shown setup = record {
  umask = setup.umask;
  root = root_shown setup.root;
  known = record {
    domain = string_bytes setup.domain;
    users = setup.users.items;
    groups = setup.groups.items;
  };
}
