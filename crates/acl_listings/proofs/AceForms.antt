-- The forms in which NFSv4 entries are printed with their ids in decimal, and read by any names.
use Rattle.std.proofs.Common.{◌≡◌, ◌∙◌, ℕ, true, cond, List, [], ◌∷◌, Result, Ok, ap, arith, length-append, refl}
use Rattle.std.specs.List.{AllByRecursion, join_with_byte}
use Rattle.acl_names.specs.Bytes.{colon}
use Rattle.acl_names.specs.Letters.{letters_text}
use Rattle.acl_names.specs.Names.{Names}
use Rattle.acl_names.specs.Pieces.{pieces}
use Rattle.acl_names.specs.Plain.{IsField}
use Rattle.acl_names.proofs.Fields.{fields_again, joined_plain}
use Rattle.acl_names.proofs.PlainJoined.{IsPlainPiece}
use Rattle.acl_nfs4.specs.Ace.{Nfsace4}
use Rattle.acl_nfs4.specs.AceFields as nfs4
use Rattle.acl_nfs4.specs.Letters.{flag_table, mask_table}
use Rattle.acl_nfs4.specs.NamedAces.{ReadNumbers, ace_by}
use Rattle.acl_nfs4.specs.PrintedText.{short_ace, short_who, type_text}
use Rattle.acl_nfs4.specs.Who.{HasId}
use Rattle.acl_nfs4.specs.declared.ace.AceType.{AceType}
use Rattle.acl_nfs4.specs.declared.ace.AceType.TheVariants as kind
use Rattle.acl_nfs4.specs.declared.reading.PieceFault.{PieceFault}
use Rattle.acl_nfs4.proofs.LetterLemmas.{flags-field, mask-field}
use Rattle.acl_nfs4.proofs.NamedAgain.{short_again, short_field}
use Rattle.acl_nfs4.proofs.ReadLemmas.{IsRead}
use Rattle.acl_nfs4.proofs.RoundTrip.{type_field}
use Rattle.acl_forms.specs.Forms.{form_of_piece, is_type}
use Rattle.acl_forms.specs.FormText.{entry_by}
use Rattle.acl_forms.specs.ShortForm.{short_entry}
use Rattle.acl_forms.specs.declared.form.Form.{Form}
use Rattle.acl_forms.specs.declared.form.Form.TheVariants as form
use Rattle.acl_forms.specs.declared.printing.Places.{Places}
use Rattle.acl_forms.proofs.EntryFields.{form_by, form_of_cut}
use Rattle.acl_forms.proofs.ShortAgain as freebsd
use Rattle.acl_listings.specs.BlockLists.{lists_in, nfs4_by}

-- what is printed of an entry is a piece of a form, by whose reader it is read again
pub record IsAceForm (names : Names) (print : Nfsace4 → List ℕ) : Type 0 where
  pub form : Form
  pub said : List ℕ → Result Nfsace4 PieceFault
  pub lists_are : (list : List ℕ) → lists_in form names list ≡ nfs4_by said (pieces list)
  pub again : (ace : Nfsace4) → IsRead ace → HasId ace.who → said (print ace) ≡ Ok ace
  pub piece : (ace : Nfsace4) → HasId ace.who → IsPlainPiece (print ace)
  pub form_is : (ace : Nfsace4) → HasId ace.who → form_of_piece (print ace) ≡ form

-- ---- that of nfs4

type_is : (kind : AceType) → is_type (nfs4.type_of (type_text kind)) ≡ true
type_is kind.Allow = refl
type_is kind.Deny = refl
type_is kind.Audit = refl
type_is kind.Alarm = refl

module _ (ace : Nfsace4) (has_id : HasId ace.who) where
  abbrev behind : List (List ℕ)
  behind = letters_text flag_table ace.flags ∷ short_who ace.who ∷ letters_text mask_table ace.mask ∷ []

  are_fields : AllByRecursion IsField (type_text ace.kind ∷ behind)
  are_fields = (type_field ace.kind, (flags-field ace.flags, (short_field ace.who has_id, (mask-field ace.mask, tt))))

  short_piece : IsPlainPiece (short_ace ace)
  short_piece = (omega (arith, length-append (type_text ace.kind) (colon ∷ join_with_byte colon behind)), joined_plain (type_text ace.kind) behind are_fields)

  short_form : form_of_piece (short_ace ace) ≡ form.Nfs4
  short_form =
      form_of_cut (short_ace ace) (type_text ace.kind) behind (fields_again (type_text ace.kind) behind are_fields)
      ∙ ap (λ typed. cond typed form.Nfs4 (form_by [] (letters_text mask_table ace.mask))) (type_is ace.kind)

pub nfs4_form : (names : Names) → ReadNumbers names → IsAceForm names short_ace
nfs4_form names numbers = record {
  form = form.Nfs4;
  said = ace_by names;
  lists_are = λ list. refl;
  again = λ ace is has_id. short_again names numbers ace is has_id;
  piece = λ ace has_id. short_piece ace has_id;
  form_is = λ ace has_id. short_form ace has_id;
}

-- ---- that of FreeBSD

pub freebsd_form : (names : Names) → ReadNumbers names → (places : Places) → IsAceForm names (short_entry places)
freebsd_form names numbers places = record {
  form = form.Freebsd;
  said = entry_by names;
  lists_are = λ list. refl;
  again = λ ace is has_id. freebsd.short_again places ace has_id names numbers is;
  piece = λ ace has_id. freebsd.short_piece places ace has_id;
  form_is = λ ace has_id. freebsd.short_form places ace has_id;
}
