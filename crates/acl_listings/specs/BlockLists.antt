-- The lists of a block, in the form of its first entry.
use Rattle.std.specs.Prelude.{ℕ, List, Result, Ok}
use Rattle.acl_names.specs.Names.{Names}
use Rattle.acl_names.specs.Pieces.{pieces}
use Rattle.acl_names.specs.ReadList.{at_most_read}
use Rattle.acl_names.specs.Steps.{◌>>=◌, map_fault}
use Rattle.acl_posix.specs.declared.acl_text.AclFault.{AclFault}
use Rattle.acl_posix.specs.declared.acl_text.AclFault.TheVariants.{BadAcl, UnknownName, TooMany}
use Rattle.acl_nfs4.specs.Ace.{Nfsace4}
use Rattle.acl_nfs4.specs.NamedAces.{ace_by}
use Rattle.acl_nfs4.specs.declared.limits.TheConstants.{MAX_ACES}
use Rattle.acl_nfs4.specs.declared.reading.PieceFault.{PieceFault}
use Rattle.acl_nfs4.specs.declared.reading.PieceFault.TheVariants as piece
use Rattle.acl_forms.specs.Forms.{form_of}
use Rattle.acl_forms.specs.FormText.{entry_by}
use Rattle.acl_forms.specs.declared.form.Form.{Form}
use Rattle.acl_forms.specs.declared.form.Form.TheVariants as form
use Rattle.acl_listings.specs.Access.{posix_by}
use Rattle.acl_listings.specs.declared.fault.BlockFault.{BlockFault}
use Rattle.acl_listings.specs.declared.fault.BlockFault.TheVariants.{Acl}
use Rattle.acl_listings.specs.declared.lists.Lists.{Lists}
use Rattle.acl_listings.specs.declared.lists.Lists.TheVariants.{Nfs4}

-- the fault of a piece that isn't an NFSv4 entry; one without any effect isn't one
abbrev pub piece_fault : PieceFault → AclFault
piece_fault piece.Syntax = BadAcl
piece_fault piece.UnknownName = UnknownName
piece_fault piece.InheritOnly = BadAcl

-- the entries that pieces mean, at most 128
abbrev pub aces_by : (List ℕ → Result Nfsace4 PieceFault) → List (List ℕ)
    → Result (List Nfsace4) AclFault
aces_by said texts = at_most_read TooMany MAX_ACES (λ text. map_fault piece_fault (said text)) texts

-- the NFSv4 list that they are
abbrev pub nfs4_by : (List ℕ → Result Nfsace4 PieceFault) → List (List ℕ)
    → Result Lists BlockFault
nfs4_by said texts = do
  aces ← map_fault (λ fault. Acl fault) (aces_by said texts)
  Ok (Nfs4 aces)

-- the lists of a block whose entries are of this form
abbrev pub lists_in : Form → Names → List ℕ → Result Lists BlockFault
lists_in form.Posix names list = posix_by names list
lists_in form.Nfs4 names list = nfs4_by (ace_by names) (pieces list)
lists_in form.Freebsd names list = nfs4_by (entry_by names) (pieces list)

abbrev pub lists_by : Names → List ℕ → Result Lists BlockFault
lists_by names list = lists_in (form_of list) names list
