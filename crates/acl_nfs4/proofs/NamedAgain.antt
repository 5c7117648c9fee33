-- An entry that is printed with its ids in decimal is read again, by whatever names.
use Rattle.std.proofs.Common.{◌≡◌, ◌≤◌, ℕ, List, None, Ok, ap₂, codes, decimal, inl, map, refl}
use Rattle.std.specs.List.{All}
use Rattle.acl_names.specs.Directory.{Known, gid_of, uid_of}
use Rattle.acl_names.specs.Ids.{Number, written_id}
use Rattle.acl_names.specs.ListText.{Spells}
use Rattle.acl_names.specs.Names.{Names}
use Rattle.acl_names.specs.Plain.{IsField}
use Rattle.acl_names.specs.declared.limits.TheConstants.{MAX_ID}
use Rattle.acl_names.proofs.Fields.{tested_field}
use Rattle.acl_names.proofs.IdTexts.{decimal_read, written_decimal}
use Rattle.acl_names.proofs.PlainJoined.{IsPlainPiece}
use Rattle.acl_nfs4.specs.Ace.{Nfsace4}
use Rattle.acl_nfs4.specs.AceText.{names_in_domain, piece_value}
use Rattle.acl_nfs4.specs.Acl.{AreAces}
use Rattle.acl_nfs4.specs.NamedAces.{ReadNumbers, ace_by, special_or, special_who, who_by, who_with}
use Rattle.acl_nfs4.specs.PrintedText.{HaveIds, short_ace, short_text, short_who}
use Rattle.acl_nfs4.specs.Who.{HasId, is_named_group}
use Rattle.acl_nfs4.specs.declared.limits.TheConstants.{MAX_ACES}
use Rattle.acl_nfs4.specs.declared.who.Who.{Who}
use Rattle.acl_nfs4.specs.declared.who.Who.TheVariants.{Owner, Group, Everyone, User, NamedGroup}
use Rattle.acl_nfs4.proofs.DomainLemmas.{id_read, special_none}
use Rattle.acl_nfs4.proofs.ReadLemmas.{IsRead}
use Rattle.acl_nfs4.proofs.RoundTrip.{IsPrinted, IsWritten, decimal_field, fields_again_as, joined_pieces, joined_spell}

pub short_field : (who : Who) → HasId who → IsField (short_who who)
short_field Owner has_id = tested_field (codes "OWNER@") refl
short_field Group has_id = tested_field (codes "GROUP@") refl
short_field Everyone has_id = tested_field (codes "EVERYONE@") refl
short_field (User uid) has_id = decimal_field uid has_id
short_field (NamedGroup gid) has_id = decimal_field gid has_id

-- a decimal is no special identifier, which is no id
decimal_is_none : (id : ℕ) → id ≤ MAX_ID → special_who (decimal id) ≡ None
decimal_is_none id small = special_none written_id (decimal id) (Number id) (written_decimal id small) refl refl refl

module _ (names : Names) (numbers : ReadNumbers names) where
  who_again : (who : Who) → HasId who → who_by names (is_named_group who) (short_who who) ≡ Ok who
  who_again Owner has_id = refl
  who_again Group has_id = refl
  who_again Everyone has_id = refl
  who_again (User uid) has_id =
      ap₂ (λ special found. special_or special (who_with (λ id. User id) found)) (decimal_is_none uid has_id) (numbers.uids uid has_id)
  who_again (NamedGroup gid) has_id =
      ap₂ (λ special found. special_or special (who_with (λ id. NamedGroup id) found)) (decimal_is_none gid has_id) (numbers.gids gid has_id)

  short_written : (who : Who) → HasId who → IsWritten names (short_who who) who
  short_written who has_id = record { field = short_field who has_id; reads = who_again who has_id }

  short_ace_again : (ace : Nfsace4) → IsPrinted ace → (ace_by names (short_ace ace) ≡ Ok ace) × IsPlainPiece (short_ace ace)
  short_ace_again = fields_again_as names short_who short_written

  pub short_again : (ace : Nfsace4) → IsRead ace → HasId ace.who → ace_by names (short_ace ace) ≡ Ok ace
  short_again ace is has_id = (short_ace_again ace (record { read = is; has_id = has_id })).0

numbers_in_domain : (known : Known) → ReadNumbers (names_in_domain known)
numbers_in_domain known = record {
  uids = λ uid small. id_read known (uid_of known) (decimal uid) uid (inl (decimal_read uid small));
  gids = λ gid small. id_read known (gid_of known) (decimal gid) gid (inl (decimal_read gid small));
}

module _ (known : Known) where
  again : (ace : Nfsace4) → IsPrinted ace → (piece_value known (short_ace ace) ≡ Ok ace) × IsPlainPiece (short_ace ace)
  again = short_ace_again (names_in_domain known) (numbers_in_domain known)

  pub short_pieces : (aces : List Nfsace4) → AreAces aces → HaveIds aces → All IsPlainPiece (map short_ace aces)
  short_pieces = joined_pieces (piece_value known) short_ace again

  pub short_spells : (aces : List Nfsace4) → AreAces aces → HaveIds aces → Spells (piece_value known) MAX_ACES (short_text aces) aces
  short_spells = joined_spell (piece_value known) short_ace again
