-- The test of a mask.
use Rattle.std.specs.Prelude.{◌^◌, ◌<◌, ◌↔◌, ℕ, IsTrue, List}
use Rattle.acl_names.specs.Requester.{Identity}
use Rattle.acl_nfs4.specs.Ace.{Nfsace4}
use Rattle.acl_nfs4.specs.Evaluation.{Grants, grants4}
use Rattle.acl_nfs4.specs.Who.{matches}

-- the test of a mask of 32 bits decides whether a list grants it
abbrev pub MasksAreDecided : Type 0
MasksAreDecided =
    (acl : List Nfsace4) (owner group : ℕ) (requester : Identity) (mask : ℕ) → mask < 2 ^ 32
    → IsTrue (grants4 acl owner group requester mask)
    ↔ Grants (matches owner group requester) acl mask
