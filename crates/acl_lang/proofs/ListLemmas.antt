-- What the readers of lists say of a text, as what a line's field says.
use Rattle.std.proofs.Common.{◌≡◌, ℕ, List, Ok, Err, Result, ap}
use Rattle.acl_names.specs.Directory.{Known}
use Rattle.acl_names.specs.ListText.{Spells}
use Rattle.acl_names.specs.Steps.{map_fault}
use Rattle.acl_nfs4.specs.Ace.{Nfsace4}
use Rattle.acl_nfs4.specs.AceText.{piece_value}
use Rattle.acl_nfs4.specs.ReadFault as aces_fault
use Rattle.acl_nfs4.specs.declared.acl.AceFault.{AceFault}
use Rattle.acl_nfs4.specs.declared.acl.AceFault.TheVariants as ace
use Rattle.acl_posix.specs.AclText as posix
use Rattle.acl_posix.specs.declared.acl_text.AclFault.{AclFault}
use Rattle.acl_posix.specs.declared.acl_text.ReadAclFault.{ReadAclFault}
use Rattle.acl_posix.specs.declared.acl_text.ReadAclFault.TheVariants as read
use Rattle.acl_tree.specs.declared.faults.LineFault.TheVariants.{TooMany}
use Rattle.acl_lang.specs.Fields.{aces_of, as_ace}
use Rattle.acl_names.proofs.ReadListLemmas.{read-fault, read-many, read-spelt}
use Rattle.acl_nfs4.specs.declared.limits.TheConstants.{MAX_ACES}
use Rattle.acl_lang.specs.Refusals.{Asked, ReadsAs, aces_refusal, acl_line_fault, acl_refusal}

-- a call that reads no list refuses the line for what it reports for the text
pub Reads-acl : {A : Type 0} (spelt : Result A AclFault) (fault : ReadAclFault) → posix.ReadsAs spelt (Err fault) → ReadsAs (map_fault acl_line_fault spelt) (Err (acl_refusal fault))
Reads-acl spelt (read.Acl fault) is = ap (map_fault acl_line_fault) is
Reads-acl spelt read.Memory is = tt

module _ (known : Known) (text : List ℕ) where
  -- a piece, as the field has it

  abbrev ace_in : List ℕ → Asked Nfsace4
  ace_in piece = as_ace (piece_value known piece)

  ace_in-ok : (piece : List ℕ) (ace : Nfsace4) → piece_value known piece ≡ Ok ace → ace_in piece ≡ Ok ace
  ace_in-ok piece ace is = ap as_ace is

  pub aces_of-spelt : (aces : List Nfsace4) → Spells (piece_value known) MAX_ACES text aces → aces_of known text ≡ Ok aces
  aces_of-spelt = read-spelt (piece_value known) ace_in TooMany MAX_ACES text ace_in-ok

  pub aces_of-refused : (fault : AceFault) → aces_fault.IsTextFault known text fault → ReadsAs (aces_of known text) (Err (aces_refusal fault))
  aces_of-refused ace.Syntax is = read-fault (piece_value known) ace_in TooMany MAX_ACES text ace_in-ok _ _ is (λ piece is. ap as_ace is)
  aces_of-refused ace.UnknownName is = read-fault (piece_value known) ace_in TooMany MAX_ACES text ace_in-ok _ _ is (λ piece is. ap as_ace is)
  aces_of-refused ace.TooMany is = read-many (piece_value known) ace_in TooMany MAX_ACES text ace_in-ok is
  aces_of-refused ace.InheritOnly is = read-fault (piece_value known) ace_in TooMany MAX_ACES text ace_in-ok _ _ is (λ piece is. ap as_ace is)
  aces_of-refused ace.Memory is = tt
