-- The printed text of a list spells its entries.
use Rattle.std.proofs.Common.{◌≡◌, ℕ, List, Ok, ap, refl}
use Rattle.acl_names.specs.Directory.{Known, NamesReadBack, uid_of, gid_of, user_name, group_name}
use Rattle.acl_names.specs.Ids.{id_text}
use Rattle.acl_names.specs.ListText.{Spells}
use Rattle.acl_names.specs.Names.{names_of}
use Rattle.acl_names.proofs.Fields.{id_field}
use Rattle.acl_names.proofs.IdTexts.{resolved_again}
use Rattle.acl_nfs4.specs.Ace.{Nfsace4}
use Rattle.acl_nfs4.specs.Acl.{AreAces}
use Rattle.acl_nfs4.specs.NamedAces.{who_with}
use Rattle.acl_nfs4.specs.PrintedText.{HaveIds}
use Rattle.acl_nfs4.specs.Who.{HasId}
use Rattle.acl_nfs4.specs.declared.limits.TheConstants.{MAX_ACES}
use Rattle.acl_nfs4.specs.declared.who.Who.{Who}
use Rattle.acl_nfs4.specs.declared.who.Who.TheVariants.{Owner, Group, Everyone, User, NamedGroup}
use Rattle.acl_nfs4.proofs.RoundTrip.{lines_spell}
use Rattle.acl_forms.specs.FormText.{entry_by, who_by}
use Rattle.acl_forms.specs.PrintedForm.{entries_text, entry_text}
use Rattle.acl_forms.specs.declared.printing.Places.{Places}
use Rattle.acl_forms.proofs.EntryFields.{HasField, name_of, printed_piece, printed_said, tag_of}

module _ (known : Known) (apart : NamesReadBack known) where
  abbrev user : ℕ → List ℕ
  user = id_text (user_name known)

  abbrev group : ℕ → List ℕ
  group = id_text (group_name known)

  -- a who, as its tag is printed
  named : (who : Who) → HasId who → HasField user group who
  named Owner has_id = tt
  named Group has_id = tt
  named Everyone has_id = tt
  named (User uid) has_id = (id_field (uid_of known) (user_name known) uid apart.users has_id).0
  named (NamedGroup gid) has_id = (id_field (gid_of known) (group_name known) gid apart.groups has_id).0

  who_again : (who : Who) → HasId who → who_by (names_of known) (tag_of who) (name_of user group who) ≡ Ok who
  who_again Owner has_id = refl
  who_again Group has_id = refl
  who_again Everyone has_id = refl
  who_again (User uid) has_id = ap (who_with (λ id. User id)) (resolved_again (uid_of known) (user_name known) uid apart.users has_id)
  who_again (NamedGroup gid) has_id = ap (who_with (λ id. NamedGroup id)) (resolved_again (gid_of known) (group_name known) gid apart.groups has_id)

  pub entries_spelt : (places : Places) (aces : List Nfsace4) → AreAces aces → HaveIds aces → Spells (entry_by (names_of known)) MAX_ACES (entries_text places known aces) aces
  entries_spelt places = lines_spell (entry_by (names_of known)) (entry_text places known) (λ ace is.
      let field = named ace.who is.has_id in
      (printed_said user group places ace field (names_of known) is.read (who_again ace.who is.has_id), printed_piece user group places ace field))
