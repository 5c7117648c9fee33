-- What the readers of NFSv4 lists say of a text, as what a block says.
use Rattle.std.proofs.Common.{◌≡◌, ℕ, List, Result, Ok, Err, ap, refl}
use Rattle.acl_names.specs.ListText.{IsFaultOf, Spells}
use Rattle.acl_names.specs.Pieces.{pieces}
use Rattle.acl_names.specs.Steps.{◌>>=◌, map_fault}
use Rattle.acl_names.proofs.ReadListLemmas.{read-fault, read-many, read-spelt}
use Rattle.acl_posix.specs.declared.acl_text.AclFault.{AclFault}
use Rattle.acl_posix.specs.declared.acl_text.AclFault.TheVariants.{TooMany}
use Rattle.acl_nfs4.specs.Ace.{Nfsace4}
use Rattle.acl_nfs4.specs.ReadFault.{list_fault}
use Rattle.acl_nfs4.specs.declared.acl.AceFault.{AceFault}
use Rattle.acl_nfs4.specs.declared.acl.AceFault.TheVariants as ace
use Rattle.acl_nfs4.specs.declared.limits.TheConstants.{MAX_ACES}
use Rattle.acl_nfs4.specs.declared.reading.PieceFault.{PieceFault}
use Rattle.acl_listings.specs.BlockLists.{nfs4_by, piece_fault}
use Rattle.acl_listings.specs.Faults.{ReadsAs, aces_fault}
use Rattle.acl_listings.specs.declared.fault.BlockFault.TheVariants.{Acl}
use Rattle.acl_listings.specs.declared.lists.Lists.TheVariants.{Nfs4}

module _ (said : List ℕ → Result Nfsace4 PieceFault) (words : List ℕ) where
  abbrev reported : List ℕ → Result Nfsace4 AclFault
  reported text = map_fault piece_fault (said text)

  reported_ok : (piece : List ℕ) (ace : Nfsace4) → said piece ≡ Ok ace → reported piece ≡ Ok ace
  reported_ok piece ace is = ap (map_fault piece_fault) is

  -- a text that spells entries
  pub nfs4_read : (aces : List Nfsace4) → Spells said MAX_ACES words aces → nfs4_by said (pieces words) ≡ Ok (Nfs4 aces)
  nfs4_read aces spelt =
      ap (λ read. map_fault (λ fault. Acl fault) read >>= (λ aces. Ok (Nfs4 aces))) (read-spelt said reported TooMany MAX_ACES words reported_ok aces spelt)

  -- and one that is refused
  pub nfs4_unread : (fault : AceFault) → IsFaultOf said MAX_ACES words (list_fault fault) → ReadsAs (nfs4_by said (pieces words)) (Err (aces_fault fault))
  nfs4_unread ace.Syntax is = rw (read-fault said reported TooMany MAX_ACES words reported_ok _ _ is (λ piece is. ap (map_fault piece_fault) is)) refl
  nfs4_unread ace.UnknownName is = rw (read-fault said reported TooMany MAX_ACES words reported_ok _ _ is (λ piece is. ap (map_fault piece_fault) is)) refl
  nfs4_unread ace.InheritOnly is = rw (read-fault said reported TooMany MAX_ACES words reported_ok _ _ is (λ piece is. ap (map_fault piece_fault) is)) refl
  nfs4_unread ace.TooMany is = rw (read-many said reported TooMany MAX_ACES words reported_ok is) refl
  nfs4_unread ace.Memory is = tt
