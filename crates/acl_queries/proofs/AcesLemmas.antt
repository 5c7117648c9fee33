-- What the reader of NFSv4 entries says of a text, as what the field reads.
use Rattle.std.proofs.Common.{◌≡◌, List, Ok, ap, Result}
use Rattle.clap.specs.Words.{Text}
use Rattle.acl_names.specs.ListText.{IsFaultOf, Spells}
use Rattle.acl_names.proofs.ReadListLemmas.{read-fault, read-many, read-spelt}
use Rattle.acl_nfs4.specs.Ace.{Nfsace4}
use Rattle.acl_nfs4.specs.AceText.{piece_value}
use Rattle.acl_nfs4.specs.ReadFault.{list_fault}
use Rattle.acl_nfs4.specs.declared.acl.AceFault.{AceFault}
use Rattle.acl_nfs4.specs.declared.acl.AceFault.TheVariants as aces
use Rattle.acl_nfs4.specs.declared.limits.TheConstants.{MAX_ACES}
use Rattle.acl_posix.specs.declared.acl_text.AclFault.TheVariants as acl
use Rattle.acl_queries.specs.AclText.{nobody}
use Rattle.acl_queries.specs.ListField.{aces_of, as_ace, failure_of_aces}
use Rattle.acl_cli.specs.Failures.{ExplainsText}
use Rattle.acl_cli.specs.declared.field_fault.FieldFault.{FieldFault}
use Rattle.acl_cli.specs.declared.field_fault.FieldFault.TheVariants.{Acl}

-- what a piece says, as the field has it
abbrev pub ace_field : Text → Result Nfsace4 FieldFault
ace_field piece = as_ace (piece_value nobody piece)

ace_field-ok : (piece : Text) (ace : Nfsace4) → piece_value nobody piece ≡ Ok ace → ace_field piece ≡ Ok ace
ace_field-ok piece ace is = ap as_ace is

-- what is spelt is read
pub aces_of-spelt : (text : Text) (entries : List Nfsace4) → Spells (piece_value nobody) MAX_ACES text entries → aces_of text ≡ Ok entries
aces_of-spelt text = read-spelt (piece_value nobody) ace_field (Acl acl.TooMany) MAX_ACES text ace_field-ok

-- a text that is refused doesn't read
pub Explains-aces : (text : Text) (fault : AceFault) → IsFaultOf (piece_value nobody) MAX_ACES text (list_fault fault)
    → ExplainsText (aces_of text) (failure_of_aces fault)
Explains-aces text aces.Syntax is = read-fault (piece_value nobody) ace_field (Acl acl.TooMany) MAX_ACES text ace_field-ok _ _ is (λ piece is. ap as_ace is)
Explains-aces text aces.UnknownName is = read-fault (piece_value nobody) ace_field (Acl acl.TooMany) MAX_ACES text ace_field-ok _ _ is (λ piece is. ap as_ace is)
Explains-aces text aces.InheritOnly is = read-fault (piece_value nobody) ace_field (Acl acl.TooMany) MAX_ACES text ace_field-ok _ _ is (λ piece is. ap as_ace is)
Explains-aces text aces.TooMany is = read-many (piece_value nobody) ace_field (Acl acl.TooMany) MAX_ACES text ace_field-ok is
Explains-aces text aces.Memory is = tt
