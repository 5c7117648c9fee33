-- An entry that is printed with its ids in decimal is read again, by whatever names.
use Rattle.std.proofs.Common.{◌≡◌, Ok, ap, decimal, refl}
use Rattle.acl_names.specs.Names.{Names}
use Rattle.acl_names.proofs.PlainJoined.{IsPlainPiece}
use Rattle.acl_nfs4.specs.Ace.{Nfsace4}
use Rattle.acl_nfs4.specs.NamedAces.{ReadNumbers, who_with}
use Rattle.acl_nfs4.specs.Who.{HasId}
use Rattle.acl_nfs4.specs.declared.who.Who.{Who}
use Rattle.acl_nfs4.specs.declared.who.Who.TheVariants.{Owner, Group, Everyone, User, NamedGroup}
use Rattle.acl_nfs4.proofs.ReadLemmas.{IsRead}
use Rattle.acl_nfs4.proofs.RoundTrip.{decimal_field}
use Rattle.acl_forms.specs.Forms.{form_of_piece}
use Rattle.acl_forms.specs.FormText.{entry_by, who_by}
use Rattle.acl_forms.specs.ShortForm.{short_entry}
use Rattle.acl_forms.specs.declared.form.Form.TheVariants.{Freebsd}
use Rattle.acl_forms.specs.declared.printing.Places.{Places}
use Rattle.acl_forms.proofs.EntryFields.{HasField, name_of, printed_form, printed_piece, printed_said, tag_of}

decimal_is : (who : Who) → HasId who → HasField decimal decimal who
decimal_is Owner has_id = tt
decimal_is Group has_id = tt
decimal_is Everyone has_id = tt
decimal_is (User uid) has_id = decimal_field uid has_id
decimal_is (NamedGroup gid) has_id = decimal_field gid has_id

who_again : (names : Names) → ReadNumbers names → (who : Who) → HasId who → who_by names (tag_of who) (name_of decimal decimal who) ≡ Ok who
who_again names numbers Owner has_id = refl
who_again names numbers Group has_id = refl
who_again names numbers Everyone has_id = refl
who_again names numbers (User uid) has_id = ap (who_with (λ id. User id)) (numbers.uids uid has_id)
who_again names numbers (NamedGroup gid) has_id = ap (who_with (λ id. NamedGroup id)) (numbers.gids gid has_id)

module _ (places : Places) (ace : Nfsace4) (has_id : HasId ace.who) where
  pub short_piece : IsPlainPiece (short_entry places ace)
  short_piece = printed_piece decimal decimal places ace (decimal_is ace.who has_id)

  pub short_form : form_of_piece (short_entry places ace) ≡ Freebsd
  short_form = printed_form decimal decimal places ace (decimal_is ace.who has_id)

  pub short_again : (names : Names) → ReadNumbers names → IsRead ace → entry_by names (short_entry places ace) ≡ Ok ace
  short_again names numbers is = printed_said decimal decimal places ace (decimal_is ace.who has_id) names is (who_again names numbers ace.who has_id)
