-- A directory of nobody.
use Rattle.std.proofs.Common.{[], refl, codes}
use Rattle.acl_names.specs.Directory.{Known}
use Rattle.acl_wire.specs.Text.{IsNobody}

abbrev pub none : Known
none = record { domain = codes "local"; users = []; groups = [] }

pub none-IsNobody : IsNobody none
none-IsNobody = record {
  domain = refl;
  uids = λ _. refl;
  gids = λ _. refl;
  user_names = λ _. refl;
  group_names = λ _. refl;
  first_groups = λ _. refl;
  requesters = λ _. refl;
}
