-- The shapes of entries, field by field.
use Rattle.std.specs.Prelude.{◌≡◌, ◌⊎◌, ℕ, Bool, true, false, List, ◌∷◌, ◌++◌, Option, Some, codes}
use Rattle.acl_names.specs.Bytes.{at_sign}
use Rattle.acl_names.specs.Bits.{has}
use Rattle.acl_names.specs.Directory.{Known, uid_of, gid_of}
use Rattle.acl_names.specs.Ids.{decimal_value, has_domain_shape, has_name_shape}
use Rattle.acl_names.specs.Letters.{letters_of}
use Rattle.acl_nfs4.specs.Ace.{Nfsace4, flags_for, is_idle}
use Rattle.acl_nfs4.specs.AceFields.{AceFields, fields_of}
use Rattle.acl_nfs4.specs.Flags.{identifier_group}
use Rattle.acl_nfs4.specs.Letters.{flag_table, mask_table}
use Rattle.acl_nfs4.specs.PrintedText.{type_text}
use Rattle.acl_nfs4.specs.declared.who.Who.{Who}
use Rattle.acl_nfs4.specs.declared.who.Who.TheVariants.{Owner, Group, Everyone, User, NamedGroup}

-- a name, alone or in the directory's domain
abbrev pub WritesName : Known → List ℕ → List ℕ → Type 0
WritesName known text name =
    (has_name_shape name ≡ true) × ((text ≡ name)
    ⊎ ((text ≡ name ++ at_sign ∷ known.domain) × (has_domain_shape known.domain ≡ true)))

-- a decimal of this id, or the name of the user or group that has it
abbrev pub WritesId : Known → (List ℕ → Option ℕ) → List ℕ → ℕ → Type 0
WritesId known id_of text id = (decimal_value text ≡ Some id)
    ⊎ ((name : List ℕ) × WritesName known text name × (id_of name ≡ Some id))

-- how each who is written: a name or a decimal is a group's if the flags have g, and else a user's
abbrev pub IsWho : Known → Bool → List ℕ → Who → Type 0
IsWho known is_group text Owner = text ≡ codes "OWNER@"
IsWho known is_group text Group = text ≡ codes "GROUP@"
IsWho known is_group text Everyone = text ≡ codes "EVERYONE@"
IsWho known is_group text (User uid) = (is_group ≡ false) × WritesId known (uid_of known) text uid
IsWho known is_group text (NamedGroup gid) = (is_group ≡ true)
    × WritesId known (gid_of known) text gid

-- the piece writes this entry, whether or not it has an effect
pub record WritesAce (known : Known) (piece : List ℕ) (ace : Nfsace4) : Type 0 where
  pub fields : AceFields
  pub flags : ℕ
  pub cut : fields_of piece ≡ Some fields
  pub kind_is : fields.kind ≡ type_text ace.kind
  pub flags_are : letters_of flag_table fields.flags ≡ Some flags
  pub who_is : IsWho known (has flags identifier_group) fields.who ace.who
  pub mask_is : letters_of mask_table fields.letters ≡ Some ace.mask
  -- the flag g is kept with a named group, and dropped otherwise
  pub flags_kept : ace.flags ≡ flags_for ace.who flags

-- the piece has the shape of an entry, and this entry is its value: it has an effect on the file
-- itself or on what inherits it
pub record HasShape (known : Known) (piece : List ℕ) (ace : Nfsace4) : Type 0 where
  pub written : WritesAce known piece ace
  pub has_effect : is_idle ace ≡ false
