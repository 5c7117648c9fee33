-- What the lists of two files, of either style, grant differently.
use Rattle.std.specs.Prelude.{◌⊎◌, ℕ, List, [], Option, MatchOption}
use Rattle.std.specs.List.{AllByRecursion}
use Rattle.acl_nfs4.specs.Comparison.{DecideAlike, IsDifference}
use Rattle.acl_nfs4.specs.Mask.{all_masks, mode_bits}
use Rattle.acl_nfs4.specs.declared.comparison.Difference.{Difference}
use Rattle.acl_bridge.specs.Comparison.{GrantAlikeToAll, IsFirstDifference, permission_bits}
use Rattle.acl_bridge.specs.Comparison.{whole_requests}
use Rattle.acl_bridge.specs.Files.{File, decider_of, may}
use Rattle.acl_bridge.specs.declared.any_acl.AnyAcl.{AnyAcl}
use Rattle.acl_bridge.specs.declared.any_acl.AnyAcl.TheVariants.{Posix, Nfs4}

-- the bits in which lists are compared: all of them between NFSv4 lists, one for each permission
-- between POSIX lists, and those of a file mode if the styles differ
abbrev pub bits_between : AnyAcl → AnyAcl → ℕ
bits_between (Nfs4 before) (Nfs4 after) = all_masks
bits_between (Posix before) (Posix after) = permission_bits
bits_between _ _ = mode_bits

-- the requests of several permissions in which they are compared, too: between POSIX lists only
abbrev pub requests_between : AnyAcl → AnyAcl → List ℕ
requests_between (Posix before) (Posix after) = whole_requests
requests_between _ _ = []

module _ (before after : File) where
  -- both grant each of the bits to the same requesters
  abbrev pub BitsAlike : Type 0
  BitsAlike = DecideAlike (decider_of before) (decider_of after)
      (bits_between before.list after.list)

  -- and each of the requests
  abbrev pub RequestsAlike : Type 0
  RequestsAlike = AllByRecursion (GrantAlikeToAll (may before) (may after))
      (requests_between before.list after.list)

  -- both grant every requester the same, of whatever uid and groups
  abbrev pub AreAlike : Type 0
  AreAlike = BitsAlike × RequestsAlike

  -- someone loses or gains this: bits, or if all of these stay the same a whole request
  abbrev pub Differ : Difference → Type 0
  Differ difference =
      IsDifference (decider_of before) (decider_of after) (bits_between before.list after.list)
      difference
      ⊎ (BitsAlike × IsFirstDifference (may before) (may after)
      (requests_between before.list after.list) difference)

  -- the result of a search among everyone: nobody, if the lists are alike; or somebody
  abbrev pub Finds : Option Difference → Type 0
  Finds found = MatchOption found AreAlike Differ
