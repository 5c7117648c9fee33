-- What a piece of the freebsd form says that is read: an entry with an effect.
use Rattle.std.proofs.Common.{◌≡◌, ℕ, false, List, Some, Ok, sym, ap, subst, ◌∙◌}
use Rattle.acl_names.specs.Names.{Names}
use Rattle.acl_names.specs.Steps.{or_fault}
use Rattle.acl_names.proofs.StepLemmas.{bind_ok, given}
use Rattle.acl_nfs4.specs.Ace.{Nfsace4, IsAce, ace_of, is_idle}
use Rattle.acl_nfs4.specs.AceFields.{refuse_idle}
use Rattle.acl_nfs4.specs.declared.ace.AceType.{AceType}
use Rattle.acl_nfs4.specs.declared.reading.PieceFault.TheVariants.{Syntax}
use Rattle.acl_nfs4.specs.declared.who.Who.{Who}
use Rattle.acl_nfs4.proofs.AceLemmas.{IsAce-ace_of}
use Rattle.acl_nfs4.proofs.ReadLemmas.{refuse_idle_ok}
use Rattle.acl_forms.specs.FormText.{FormFields, entry_by, fields_of, type_of, who_by}
use Rattle.acl_forms.specs.Marks.{marks_of, mark_table, perm_table}

-- the parts of a piece that writes an entry
pub record Parts (names : Names) (piece : List ℕ) (ace : Nfsace4) : Type 0 where
  pub fields : FormFields
  pub mask : ℕ
  pub flags : ℕ
  pub kind : AceType
  pub who : Who
  pub cut : fields_of piece ≡ Some fields
  pub mask_is : marks_of perm_table fields.perms ≡ Some mask
  pub flags_are : marks_of mark_table fields.flags ≡ Some flags
  pub kind_is : type_of fields.kind ≡ Some kind
  pub who_is : who_by names fields.tag fields.name ≡ Ok who
  pub made : ace_of kind flags who mask ≡ ace

pub parts_of : (names : Names) (piece : List ℕ) (ace : Nfsace4) → entry_by names piece ≡ Ok ace → Parts names piece ace × (is_idle ace ≡ false)
unfolding entry_by
parts_of names piece ace e =
    let cut = bind_ok (or_fault Syntax (fields_of piece)) _ ace e in
    let mask = bind_ok (or_fault Syntax (marks_of perm_table cut.0.perms)) _ ace cut.2 in
    let flags = bind_ok (or_fault Syntax (marks_of mark_table cut.0.flags)) _ ace mask.2 in
    let kind = bind_ok (or_fault Syntax (type_of cut.0.kind)) _ ace flags.2 in
    let who = bind_ok (who_by names cut.0.tag cut.0.name) _ ace kind.2 in
    let last = refuse_idle_ok ace (ace_of kind.0 flags.0 who.0 mask.0) who.2 in (
      record {
        fields = cut.0;
        mask = mask.0;
        flags = flags.0;
        kind = kind.0;
        who = who.0;
        cut = given Syntax (fields_of piece) cut.0 cut.1;
        mask_is = given Syntax (marks_of perm_table cut.0.perms) mask.0 mask.1;
        flags_are = given Syntax (marks_of mark_table cut.0.flags) flags.0 flags.1;
        kind_is = given Syntax (type_of cut.0.kind) kind.0 kind.1;
        who_is = who.1;
        made = last.0;
      },
      ap is_idle (sym last.0) ∙ last.1,
    )

-- an entry that is written is said if it has an effect
pub value_of_parts : (names : Names) (piece : List ℕ) (ace : Nfsace4) → Parts names piece ace → entry_by names piece ≡ refuse_idle ace
unfolding entry_by
value_of_parts names piece ace parts = rw (parts.cut, parts.mask_is, parts.flags_are, parts.kind_is, parts.who_is) (ap refuse_idle parts.made)

pub entry_read : (names : Names) (piece : List ℕ) (ace : Nfsace4) → entry_by names piece ≡ Ok ace → IsAce ace × (is_idle ace ≡ false)
entry_read names piece ace e =
    let (parts, effective) = parts_of names piece ace e in
    (subst IsAce parts.made (IsAce-ace_of parts.kind parts.flags parts.who parts.mask), effective)
