-- The printed text of a list spells its entries.
use Rattle.std.proofs.Common.{◌≡◌, ℕ, ◌≤◌, ◌<◌, Bool, true, false, not, ◌&&◌, ◌||◌, List, [], ◌∷◌, ◌++◌}
use Rattle.std.proofs.Common.{length, map, Option, Some, None, Result, Ok, refl, sym, ap, ◌∙◌, inl, inr}
use Rattle.std.proofs.Common.{arith, codes, decimal, length-append, eqb-true}
use Rattle.std.specs.List.{All, AllByRecursion, flat_map, join_with_byte}
use Rattle.std.specs.Char.{is_ascii_digit}
use Rattle.std.proofs.lemmas.Bool.Decides.{nat_tests}
use Rattle.std.proofs.lemmas.List.Elements.{All-nil, All-head, All-tail, All-cons, All-append, All-weaker}
use Rattle.acl_names.specs.declared.limits.TheConstants.{MAX_ID}
use Rattle.acl_names.specs.Bytes.{colon, comma, newline, at_sign}
use Rattle.acl_names.specs.Bits.{has, without, ◌∩◌}
use Rattle.acl_names.specs.Directory.{Known, NamesReadBack, uid_of, gid_of, user_name, group_name}
use Rattle.acl_names.specs.Ids.{ReadBack, stands_in_domain, continues_name}
use Rattle.acl_names.specs.Letters.{letters_text}
use Rattle.acl_names.specs.ListText.{PiecesSay, Spells}
use Rattle.acl_names.specs.Names.{Names}
use Rattle.acl_names.specs.Plain.{is_field_byte, IsField, IsPlain}
use Rattle.acl_names.proofs.BitSets.{has-and, has-or, has-without, has-zero, same_bits}
use Rattle.acl_names.proofs.Fields.{fields_again, joined_plain, tested_field, name_byte_in_field, digit_in_field}
use Rattle.acl_names.proofs.IdTexts.{decimal_read}
use Rattle.acl_names.proofs.LettersAgain.{letters_again}
use Rattle.acl_names.proofs.PlainJoined.{IsPlainPiece, pieces_of_joined}
use Rattle.acl_names.proofs.PlainLines.{IsMark, nothing, pieces_of_lines}
use Rattle.acl_nfs4.specs.Ace.{Nfsace4, IsAce, ace_of, flags_for}
use Rattle.acl_nfs4.specs.AceFields.{as_fields, type_of}
use Rattle.acl_nfs4.specs.AceShapes.{WritesId}
use Rattle.acl_nfs4.specs.AceText.{names_in_domain, piece_value}
use Rattle.acl_nfs4.specs.Acl.{AreAces}
use Rattle.acl_nfs4.specs.Flags.{identifier_group}
use Rattle.acl_nfs4.specs.Letters.{flag_table, mask_table}
use Rattle.acl_nfs4.specs.NamedAces.{ace_by, who_by}
use Rattle.acl_nfs4.specs.PrintedText.{type_text, named_text, who_text, ace_text, aces_text, fields_text, HaveIds}
use Rattle.acl_nfs4.specs.Who.{HasId, flags_of_who, is_named_group}
use Rattle.acl_nfs4.specs.declared.limits.TheConstants.{MAX_ACES}
use Rattle.acl_nfs4.specs.declared.ace.AceType.{AceType}
use Rattle.acl_nfs4.specs.declared.ace.AceType.TheVariants.{Allow, Deny, Audit, Alarm}
use Rattle.acl_nfs4.specs.declared.who.Who.{Who}
use Rattle.acl_nfs4.specs.declared.who.Who.TheVariants.{Owner, Group, Everyone, User, NamedGroup}
use Rattle.acl_nfs4.proofs.DomainLemmas.{decimal_bytes, domain_bytes, name_bytes, named_read}
use Rattle.acl_nfs4.proofs.LetterLemmas.{flag_table_is, mask_table_is, flags-field, mask-field}
use Rattle.acl_nfs4.proofs.ReadLemmas.{IsRead, value_of_parts, refuse_idle_said}
use Rattle.acl_nfs4.proofs.MaskBits.{contains-one, lacks-one}

-- ---- bytes of fields

pub type_field : (kind : AceType) → IsField (type_text kind)
type_field Allow = tested_field (codes "A") refl
type_field Deny = tested_field (codes "D") refl
type_field Audit = tested_field (codes "U") refl
type_field Alarm = tested_field (codes "L") refl

domain_byte_in_field : (byte : ℕ) → stands_in_domain byte ≡ true → is_field_byte byte ≡ true
domain_byte_in_field byte is = grind (arith, nat_tests)

-- ---- an entry's flags and mask are those of its parts

-- the group flag stands if it is to stand
pub flags_for-same : (who : Who) (flags : ℕ) → has flags identifier_group ≡ is_named_group who → flags_for who flags ≡ flags
flags_for-same who flags stands = same_bits _ _ (λ k.
    has-or (without flags 64) (flags_of_who who) k
    ∙ ap (λ b. b || has (flags_of_who who) k) (has-without flags 64 k)
    ∙ by_who who stands k)
  where
    alone : (k : ℕ) → flags ∩ 64 ≡ 0 → ((has flags k && not (has 64 k)) || has 0 k) ≡ has flags k
    alone k none =
        ap (λ b. (has flags k && not (has 64 k)) || b) (has-zero k)
        ∙ apart (has flags k) (has 64 k) (sym (has-and flags 64 k) ∙ ap (λ (set : ℕ). has set k) none ∙ has-zero k)
      where
        apart : (f g : Bool) → (f && g) ≡ false → ((f && not g) || false) ≡ f
        apart true true e = sym e
        apart true false e = refl
        apart false g e = refl

    there : (k : ℕ) → flags ∩ 64 ≡ 64 → ((has flags k && not (has 64 k)) || has 64 k) ≡ has flags k
    there k whole = go (has flags k) (has 64 k) (sym (has-and flags 64 k) ∙ ap (λ (set : ℕ). has set k) whole)
      where
        go : (f g : Bool) → (f && g) ≡ g → ((f && not g) || g) ≡ f
        go true true e = refl
        go true false e = refl
        go false true e = sym e
        go false false e = refl

    by_who : (who : Who) → has flags identifier_group ≡ is_named_group who → (k : ℕ)
        → ((has flags k && not (has 64 k)) || has (flags_of_who who) k) ≡ has flags k
    by_who Owner e k = alone k (lacks-one flags 6 e)
    by_who Group e k = alone k (lacks-one flags 6 e)
    by_who Everyone e k = alone k (lacks-one flags 6 e)
    by_who (User uid) e k = alone k (lacks-one flags 6 e)
    by_who (NamedGroup gid) e k = there k (eqb-true (flags ∩ 64) 64 (contains-one flags 6 ∙ e))

pub ace_of-same : (ace : Nfsace4) → IsAce ace → ace_of ace.kind ace.flags ace.who ace.mask ≡ ace
ace_of-same ace is = λ i. record {
  kind = ace.kind;
  flags = (ap (flags_for ace.who) is.known_flags ∙ flags_for-same ace.who ace.flags is.group_flag) i;
  who = ace.who;
  mask = is.known_mask i;
}

-- ---- an entry, by its who as it is written

pub type_again : (kind : AceType) → type_of (type_text kind) ≡ Some kind
type_again Allow = refl
type_again Deny = refl
type_again Audit = refl
type_again Alarm = refl

pub decimal_field : (id : ℕ) → id ≤ MAX_ID → IsField (decimal id)
decimal_field id small = All-weaker (λ byte. is_ascii_digit byte ≡ true) (λ byte. is_field_byte byte ≡ true) digit_in_field (decimal id) (decimal_bytes id small)

-- what is printed is an entry of a list whose id is within its range
pub record IsPrinted (ace : Nfsace4) : Type 0 where
  pub read : IsRead ace
  pub has_id : HasId ace.who

pub are_printed : (aces : List Nfsace4) → AreAces aces → HaveIds aces → All IsPrinted aces
are_printed aces are have = λ k d inside. record {
  read = record { is_ace = are.each k d inside; effective = are.effective k d inside };
  has_id = have k d inside;
}

-- a list of entries, each of which is printed as a plain piece that says it
module _ {F : Type 0} (value_of : List ℕ → Result Nfsace4 F) (text_of : Nfsace4 → List ℕ)
    (again : (ace : Nfsace4) → IsPrinted ace → (value_of (text_of ace) ≡ Ok ace) × IsPlainPiece (text_of ace)) where
  each_again : (aces : List Nfsace4) → All IsPrinted aces → PiecesSay value_of (map text_of aces) aces
  each_again [] are = refl
  each_again (ace ∷ aces) are = rw ((again ace (All-head IsPrinted ace aces are)).0, each_again aces (All-tail IsPrinted ace aces are)) refl

  each_piece : (aces : List Nfsace4) → All IsPrinted aces → All IsPlainPiece (map text_of aces)
  each_piece [] are = All-nil IsPlainPiece
  each_piece (ace ∷ aces) are =
      All-cons IsPlainPiece (text_of ace) (map text_of aces) (again ace (All-head IsPrinted ace aces are)).1 (each_piece aces (All-tail IsPrinted ace aces are))

  abbrev IsLine : Nfsace4 → Type 0
  IsLine ace = (0 < length (text_of ace)) × IsPlain (text_of ace) × IsMark []

  line_is : (ace : Nfsace4) → IsPrinted ace → IsLine ace
  line_is ace is = let piece = (again ace is).1 in (piece.0, piece.1, nothing)

  -- one a line
  pub lines_spell : (aces : List Nfsace4) → AreAces aces → HaveIds aces → Spells value_of MAX_ACES (flat_map (λ ace. text_of ace ++ newline ∷ []) aces) aces
  lines_spell aces are have =
      let printed = are_printed aces are have in
      record {
        said = ap (map value_of) (pieces_of_lines text_of (λ _. []) aces (All-weaker IsPrinted IsLine line_is aces printed)) ∙ each_again aces printed;
        within = are.within;
      }

  -- with a comma between any two
  pub joined_pieces : (aces : List Nfsace4) → AreAces aces → HaveIds aces → All IsPlainPiece (map text_of aces)
  joined_pieces aces are have = each_piece aces (are_printed aces are have)

  pub joined_spell : (aces : List Nfsace4) → AreAces aces → HaveIds aces → Spells value_of MAX_ACES (join_with_byte comma (map text_of aces)) aces
  joined_spell aces are have = record {
    said = ap (map value_of) (pieces_of_joined (map text_of aces) (joined_pieces aces are have)) ∙ each_again aces (are_printed aces are have);
    within = are.within;
  }

module _ (names : Names) where
  -- a field that is read as this who, by the flag that it asks for
  pub record IsWritten (text : List ℕ) (who : Who) : Type 0 where
    pub field : IsField text
    pub reads : who_by names (is_named_group who) text ≡ Ok who

  module _ (text_of : Who → List ℕ) (are_written : (who : Who) → HasId who → IsWritten (text_of who) who) where
    fields_are : (ace : Nfsace4) → HasId ace.who
        → AllByRecursion IsField (type_text ace.kind ∷ letters_text flag_table ace.flags ∷ text_of ace.who ∷ letters_text mask_table ace.mask ∷ [])
    fields_are ace has_id = (type_field ace.kind, (flags-field ace.flags, ((are_written ace.who has_id).field, (mask-field ace.mask, tt))))

    -- an entry is a plain piece, and read again
    pub fields_again_as : (ace : Nfsace4) → IsPrinted ace → (ace_by names (fields_text (text_of ace.who) ace) ≡ Ok ace) × IsPlainPiece (fields_text (text_of ace.who) ace)
    fields_again_as ace is =
        let rest = letters_text flag_table ace.flags ∷ text_of ace.who ∷ letters_text mask_table ace.mask ∷ [] in
        let are = fields_are ace is.has_id in (
          value_of_parts names (fields_text (text_of ace.who) ace) ace
              (record {
                shape = record {
                  fields = record {
                    kind = type_text ace.kind;
                    flags = letters_text flag_table ace.flags;
                    who = text_of ace.who;
                    letters = letters_text mask_table ace.mask;
                  };
                  kind = ace.kind;
                  flags = ace.flags;
                  mask = ace.mask;
                  cut = ap as_fields (fields_again (type_text ace.kind) rest are);
                  kind_is = type_again ace.kind;
                  flags_are = letters_again flag_table ace.flags flag_table_is is.read.is_ace.known_flags;
                  mask_is = letters_again mask_table ace.mask mask_table_is is.read.is_ace.known_mask;
                };
                who = ace.who;
                who_is = ap (λ b. who_by names b (text_of ace.who)) is.read.is_ace.group_flag ∙ (are_written ace.who is.has_id).reads;
                made = ace_of-same ace is.read.is_ace;
              })
              ∙ refuse_idle_said ace is.read.effective,
          (omega (arith, length-append (type_text ace.kind) (colon ∷ join_with_byte colon rest)), joined_plain (type_text ace.kind) rest are),
        )

module _ (known : Known) (apart : NamesReadBack known) where
  -- ---- the who

  named_field : (id_of : List ℕ → Option ℕ) (name_of : ℕ → Option (List ℕ)) (id : ℕ) → ReadBack id_of name_of → id ≤ MAX_ID
      → IsField (named_text (name_of id) known.domain id)
  named_field id_of name_of id back small = go (name_of id) refl
    where
      go : (name : Option (List ℕ)) → name_of id ≡ name → IsField (named_text name known.domain id)
      go None e = decimal_field id small
      go (Some name) e =
          All-append (λ byte. is_field_byte byte ≡ true) name (at_sign ∷ known.domain)
          (All-weaker (λ byte. continues_name byte ≡ true) (λ byte. is_field_byte byte ≡ true) name_byte_in_field name (name_bytes name (back id name e).0))
          (All-cons (λ byte. is_field_byte byte ≡ true) at_sign known.domain refl
          (All-weaker (λ byte. stands_in_domain byte ≡ true) (λ byte. is_field_byte byte ≡ true) domain_byte_in_field known.domain (domain_bytes known.domain apart.domain)))

  who_field : (who : Who) → HasId who → IsField (who_text known who)
  who_field Owner has_id = tested_field (codes "OWNER@") refl
  who_field Group has_id = tested_field (codes "GROUP@") refl
  who_field Everyone has_id = tested_field (codes "EVERYONE@") refl
  who_field (User uid) has_id = named_field (uid_of known) (user_name known) uid apart.users has_id
  who_field (NamedGroup gid) has_id = named_field (gid_of known) (group_name known) gid apart.groups has_id

  named_writes : (id_of : List ℕ → Option ℕ) (name_of : ℕ → Option (List ℕ)) (id : ℕ) → ReadBack id_of name_of → id ≤ MAX_ID
      → WritesId known id_of (named_text (name_of id) known.domain id) id
  named_writes id_of name_of id back small = go (name_of id) refl
    where
      go : (name : Option (List ℕ)) → name_of id ≡ name → WritesId known id_of (named_text name known.domain id) id
      go None e = inl (decimal_read id small)
      go (Some name) e = let is = back id name e in inr (name, (is.0, inr (refl, apart.domain)), is.1)

  who_again : (who : Who) → HasId who → who_by (names_in_domain known) (is_named_group who) (who_text known who) ≡ Ok who
  who_again Owner has_id = refl
  who_again Group has_id = refl
  who_again Everyone has_id = refl
  who_again (User uid) has_id =
      named_read known (λ uid. User uid) (uid_of known) (who_text known (User uid)) uid (named_writes (uid_of known) (user_name known) uid apart.users has_id)
  who_again (NamedGroup gid) has_id =
      named_read known (λ gid. NamedGroup gid) (gid_of known) (who_text known (NamedGroup gid)) gid (named_writes (gid_of known) (group_name known) gid apart.groups has_id)

  -- ---- the entry

  are_written : (who : Who) → HasId who → IsWritten (names_in_domain known) (who_text known who) who
  are_written who has_id = record { field = who_field who has_id; reads = who_again who has_id }

  -- ---- the list

  pub aces_spelt : (aces : List Nfsace4) → AreAces aces → HaveIds aces → Spells (piece_value known) MAX_ACES (aces_text known aces) aces
  aces_spelt = lines_spell (piece_value known) (ace_text known) (fields_again_as (names_in_domain known) (who_text known) are_written)
