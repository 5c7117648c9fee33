-- The shapes of entries of the freebsd form, field by field.
use Rattle.std.specs.Prelude.{◌≡◌, ◌⊎◌, ◌≤◌, ℕ, true, false, List, Option, Some, None, codes}
use Rattle.acl_names.specs.Bits.{◌∩◌}
use Rattle.acl_names.specs.Ids.{Written, Number, Name, decimal_value, has_name_shape}
use Rattle.acl_names.specs.Names.{Names}
use Rattle.acl_names.specs.declared.limits.TheConstants.{MAX_ID}
use Rattle.acl_nfs4.specs.Ace.{Nfsace4, flags_for, is_idle}
use Rattle.acl_nfs4.specs.Flags.{all_flags}
use Rattle.acl_nfs4.specs.declared.who.Who.{Who}
use Rattle.acl_nfs4.specs.declared.who.Who.TheVariants.{Owner, Group, Everyone, User, NamedGroup}
use Rattle.acl_forms.specs.FormText.{FormFields, fields_of}
use Rattle.acl_forms.specs.Marks.{marks_of, mark_table, perm_table}
use Rattle.acl_forms.specs.PrintedForm.{type_text}

-- this id, or the name of the user or group that has it
abbrev pub WritesId : (List ℕ → Option Written) → (List ℕ → Option ℕ) → List ℕ → ℕ → Type 0
WritesId written_in id_of text id = ((written_in text ≡ Some (Number id)) × (id ≤ MAX_ID))
    ⊎ ((name : List ℕ) × (written_in text ≡ Some (Name name)) × (id_of name ≡ Some id))

-- as a directory writes it: a decimal of this id, or the name of the user or group that has it
abbrev pub WritesIdPlainly : (List ℕ → Option ℕ) → List ℕ → ℕ → Type 0
WritesIdPlainly id_of text id = (decimal_value text ≡ Some id)
    ⊎ ((has_name_shape text ≡ true) × (id_of text ≡ Some id))

-- how each who is written: by a tag alone, or by one with a name
abbrev pub IsTag : Names → List ℕ → Option (List ℕ) → Who → Type 0
IsTag names tag name Owner = (tag ≡ codes "owner@") × (name ≡ None)
IsTag names tag name Group = (tag ≡ codes "group@") × (name ≡ None)
IsTag names tag name Everyone = (tag ≡ codes "everyone@") × (name ≡ None)
IsTag names tag name (User uid) = (tag ≡ codes "user")
    × ((text : List ℕ) × (name ≡ Some text) × WritesId names.written names.uid text uid)
IsTag names tag name (NamedGroup gid) = (tag ≡ codes "group")
    × ((text : List ℕ) × (name ≡ Some text) × WritesId names.written names.gid text gid)

-- the piece writes this entry, whether or not it has an effect
pub record WritesEntry (names : Names) (piece : List ℕ) (ace : Nfsace4) : Type 0 where
  pub fields : FormFields
  pub flags : ℕ
  pub cut : fields_of piece ≡ Some fields
  pub who_is : IsTag names fields.tag fields.name ace.who
  pub mask_is : marks_of perm_table fields.perms ≡ Some ace.mask
  pub flags_are : marks_of mark_table fields.flags ≡ Some flags
  pub kind_is : fields.kind ≡ type_text ace.kind
  -- the flag of a group is kept with a named group, and that of an inherited entry never
  pub flags_kept : ace.flags ≡ flags_for ace.who (flags ∩ all_flags)

-- the piece has the shape of an entry, and this entry is its value: it has an effect on the file
-- itself or on what inherits it
pub record HasFormShape (names : Names) (piece : List ℕ) (ace : Nfsace4) : Type 0 where
  pub written : WritesEntry names piece ace
  pub has_effect : is_idle ace ≡ false
