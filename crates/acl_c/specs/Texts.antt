-- What calls put for a text.
use Rattle.std.specs.Prelude.{◌≡◌, ◌⊎◌, ℕ, ℤ, List}
use Rattle.acl_names.specs.Directory.{Known}
use Rattle.acl_names.specs.ListText.{Spells}
use Rattle.acl_names.specs.Pieces.{pieces}
use Rattle.acl_nfs4.specs.Ace.{Nfsace4}
use Rattle.acl_nfs4.specs.AceText.{piece_value}
use Rattle.acl_nfs4.specs.ReadFault.{IsTextFault}
use Rattle.acl_nfs4.specs.declared.acl.AceFault.{AceFault}
use Rattle.acl_nfs4.specs.declared.limits.TheConstants.{MAX_ACES}
use Rattle.acl_posix.specs.AclText.{acl_of}
use Rattle.acl_wire.specs.RawAcesWriting.{raws_of}
use Rattle.acl_wire.specs.Text.{IsNobody}
use Rattle.acl_wire.specs.Xattr.{xattr_of}
use Rattle.acl_wire.specs.declared.raw_ace.RawAce.{RawAce}
use Rattle.acl_c.specs.Answers.{Puts, PutsAnswer, PutsNothing}
use Rattle.acl_c.specs.Status.{ace_fault_number, text_number}

abbrev pub itself : {A : Type 0} → List A → List A
itself items = items

-- a call puts the bytes of the POSIX list that a text spells where nobody has a name
abbrev pub PutsAclOfText : List ℕ → ℤ → List ℕ → List ℕ → ℕ → ℕ → Type 0
PutsAclOfText text reported old new old_count new_count = (known : Known) × IsNobody known
    × PutsAnswer text_number xattr_of (acl_of known
    (pieces text)) reported old new old_count new_count

-- a call puts the entries of the NFSv4 list that a text spells where nobody has a name
abbrev pub PutsAcesOfText : List ℕ → ℤ → List RawAce → List RawAce → ℕ → ℕ → Type 0
PutsAcesOfText text reported old new old_count new_count = (known : Known) × IsNobody known
    × (((aces : List Nfsace4) × Spells (piece_value known) MAX_ACES text aces
    × Puts (raws_of aces) reported old new new_count)
    ⊎ ((fault : AceFault) × IsTextFault known text fault × (reported ≡ ace_fault_number fault)
    × PutsNothing old new old_count new_count))
