-- What the reader's function answers is what the shapes say.
use Rattle.std.proofs.Common.{◌≡◌, ℕ, Bool, true, false, cond, ◌↔◌, List, Option, Some, None, Result, Ok, Err, refl, sym, ap, subst, ◌∙◌, codes, bytes_eq}
use Rattle.std.proofs.lemmas.Slice.Eq.{bytes_eq-Decides}
use Rattle.acl_names.specs.declared.directory.resolve.NameFault.{NameFault}
use Rattle.acl_names.specs.declared.directory.resolve.NameFault.TheVariants.{Malformed, Unknown}
use Rattle.acl_names.specs.Bits.{has}
use Rattle.acl_names.specs.Directory.{Known, uid_of, gid_of}
use Rattle.acl_names.specs.Names.{resolved}
use Rattle.acl_nfs4.specs.Ace.{Nfsace4, flags_for}
use Rattle.acl_nfs4.specs.AceFields.{type_of, refuse_idle}
use Rattle.acl_nfs4.specs.AceShapes.{IsWho, WritesAce, HasShape}
use Rattle.acl_nfs4.specs.AceText.{id_in, names_in_domain, piece_value, written_who}
use Rattle.acl_nfs4.specs.Flags.{identifier_group}
use Rattle.acl_nfs4.specs.NamedAces.{named_who, special_or, special_who, who_by, who_with}
use Rattle.acl_nfs4.specs.PrintedText.{type_text}
use Rattle.acl_nfs4.specs.declared.ace.AceType.{AceType}
use Rattle.acl_nfs4.specs.declared.ace.AceType.TheVariants.{Allow, Deny, Audit, Alarm}
use Rattle.acl_nfs4.specs.declared.who.Who.{Who}
use Rattle.acl_nfs4.specs.declared.who.Who.TheVariants.{Owner, Group, Everyone, User, NamedGroup}
use Rattle.acl_nfs4.proofs.DomainLemmas.{id_says, named_read}
use Rattle.acl_nfs4.proofs.LetterLemmas.{flags-known, mask-known}
use Rattle.acl_nfs4.proofs.ReadLemmas.{Parts, parts_of, value_of_parts, refuse_idle_said}
use Rattle.acl_nfs4.proofs.RoundTrip.{type_again}

same_bytes : (a b : List ℕ) → bytes_eq a b ≡ true → a ≡ b
same_bytes a b e = (bytes_eq-Decides a b).0 e

-- ---- the type

-- a text of one of four words is the word of its type
pub word_of_type : (word : AceType → List ℕ) (text : List ℕ) (kind : AceType)
    → cond (bytes_eq text (word Allow)) (Some Allow)
    (cond (bytes_eq text (word Deny)) (Some Deny) (cond (bytes_eq text (word Audit)) (Some Audit) (cond (bytes_eq text (word Alarm)) (Some Alarm) None)))
    ≡ Some kind → text ≡ word kind
word_of_type word text kind e = go (bytes_eq text (word Allow)) refl (bytes_eq text (word Deny)) refl (bytes_eq text (word Audit)) refl (bytes_eq text (word Alarm)) refl e
  where
    is : (this : AceType) → bytes_eq text (word this) ≡ true → this ≡ kind → text ≡ word kind
    is this same e = same_bytes text (word this) same ∙ ap word e

    go : (a : Bool) → bytes_eq text (word Allow) ≡ a → (d : Bool) → bytes_eq text (word Deny) ≡ d
        → (u : Bool) → bytes_eq text (word Audit) ≡ u → (l : Bool) → bytes_eq text (word Alarm) ≡ l
        → cond a (Some Allow) (cond d (Some Deny) (cond u (Some Audit) (cond l (Some Alarm) None))) ≡ Some kind → text ≡ word kind
    go true ea d ed u eu l el e = is Allow ea (cc)
    go false ea true ed u eu l el e = is Deny ed (cc)
    go false ea false ed true eu l el e = is Audit eu (cc)
    go false ea false ed false eu true el e = is Alarm el (cc)
    go false ea false ed false eu false el e = absurd (cc)

-- ---- the who

-- a text of one of three words is the word of its special identifier
pub word_of_special : (owner group everyone text : List ℕ) (P : Who → Type 0) (who : Who)
    → (text ≡ owner → P Owner) → (text ≡ group → P Group) → (text ≡ everyone → P Everyone)
    → cond (bytes_eq text owner) (Some Owner) (cond (bytes_eq text group) (Some Group) (cond (bytes_eq text everyone) (Some Everyone) None)) ≡ Some who → P who
word_of_special owner group everyone text P who is_owner is_group is_everyone e = go (bytes_eq text owner) refl (bytes_eq text group) refl (bytes_eq text everyone) refl e
  where
    of : (this : Who) → this ≡ who → P this → P who
    of this same is = subst P same is

    go : (o : Bool) → bytes_eq text owner ≡ o → (g : Bool) → bytes_eq text group ≡ g → (v : Bool) → bytes_eq text everyone ≡ v
        → cond o (Some Owner) (cond g (Some Group) (cond v (Some Everyone) None)) ≡ Some who → P who
    go true eo g eg v ev e = of Owner (cc) (is_owner (same_bytes text owner eo))
    go false eo true eg v ev e = of Group (cc) (is_group (same_bytes text group eg))
    go false eo false eg true ev e = of Everyone (cc) (is_everyone (same_bytes text everyone ev))
    go false eo false eg false ev e = absurd (cc)

-- whoever has the id that is found
pub found_says : (who_of : ℕ → Who) (found : Result ℕ NameFault) (who : Who) → who_with who_of found ≡ Ok who → (id : ℕ) × (found ≡ Ok id) × (who_of id ≡ who)
found_says who_of (Ok id) who e = (id, refl, cc)
found_says who_of (Err Malformed) who e = absurd (cc)
found_says who_of (Err Unknown) who e = absurd (cc)

module _ (known : Known) where
  named_says : (is_group : Bool) (text : List ℕ) (who : Who) → named_who (names_in_domain known) is_group text ≡ Ok who → IsWho known is_group text who
  named_says true text who e =
      let (gid, is, same) = found_says (λ gid. NamedGroup gid) (resolved written_who (id_in (gid_of known) known.domain) text) who e in
      subst (IsWho known true text) same (refl, id_says known (gid_of known) text gid is)
  named_says false text who e =
      let (uid, is, same) = found_says (λ uid. User uid) (resolved written_who (id_in (uid_of known) known.domain) text) who e in
      subst (IsWho known false text) same (refl, id_says known (uid_of known) text uid is)

  who_says : (is_group : Bool) (text : List ℕ) (who : Who) → who_by (names_in_domain known) is_group text ≡ Ok who → IsWho known is_group text who
  who_says is_group text who e = go (special_who text) refl e
    where
      go : (special : Option Who) → special_who text ≡ special → special_or special (named_who (names_in_domain known) is_group text) ≡ Ok who → IsWho known is_group text who
      go None is e = named_says is_group text who e
      go (Some one) is e =
          let same : one ≡ who = cc in
          word_of_special (codes "OWNER@") (codes "GROUP@") (codes "EVERYONE@") text (IsWho known is_group text) who (λ is. is) (λ is. is) (λ is. is) (is ∙ ap Some same)

  who_read : (is_group : Bool) (text : List ℕ) (who : Who) → IsWho known is_group text who → who_by (names_in_domain known) is_group text ≡ Ok who
  who_read is_group text Owner e = ap (who_by (names_in_domain known) is_group) e
  who_read is_group text Group e = ap (who_by (names_in_domain known) is_group) e
  who_read is_group text Everyone e = ap (who_by (names_in_domain known) is_group) e
  who_read true text (User uid) (is, writes) = absurd (cc)
  who_read false text (User uid) (is, writes) = named_read known (λ uid. User uid) (uid_of known) text uid writes
  who_read true text (NamedGroup gid) (is, writes) = named_read known (λ gid. NamedGroup gid) (gid_of known) text gid writes
  who_read false text (NamedGroup gid) (is, writes) = absurd (cc)

  -- ---- the piece

  -- a piece of these parts writes the entry
  pub ace_of_parts : (piece : List ℕ) (ace : Nfsace4) → Parts (names_in_domain known) piece ace → WritesAce known piece ace
  ace_of_parts piece ace parts =
      let shape = parts.shape in
      let is_group = has shape.flags identifier_group in
      let flags_in = flags-known shape.fields.flags shape.flags (sym shape.flags_are) in
      let mask_in = mask-known shape.fields.letters shape.mask (sym shape.mask_is) in
      record {
        fields = shape.fields;
        flags = shape.flags;
        cut = shape.cut;
        kind_is = word_of_type type_text shape.fields.kind shape.kind shape.kind_is ∙ ap (λ (a : Nfsace4). type_text a.kind) parts.made;
        flags_are = shape.flags_are;
        who_is = subst (IsWho known is_group shape.fields.who) (ap (λ (a : Nfsace4). a.who) parts.made) (who_says is_group shape.fields.who parts.who parts.who_is);
        mask_is = shape.mask_is ∙ ap Some (sym mask_in ∙ ap (λ (a : Nfsace4). a.mask) parts.made);
        flags_kept = sym (ap (λ (a : Nfsace4). a.flags) parts.made) ∙ ap (flags_for parts.who) flags_in
            ∙ ap (λ (w : Who). flags_for w shape.flags) (ap (λ (a : Nfsace4). a.who) parts.made);
      }

  -- and the other way round: what it says is the entry if it has an effect
  pub value_of_written : (piece : List ℕ) (ace : Nfsace4) → WritesAce known piece ace → piece_value known piece ≡ refuse_idle ace
  value_of_written piece ace shape =
      value_of_parts (names_in_domain known) piece ace
      (record {
        shape = record {
          fields = shape.fields;
          kind = ace.kind;
          flags = shape.flags;
          mask = ace.mask;
          cut = shape.cut;
          kind_is = ap type_of shape.kind_is ∙ type_again ace.kind;
          flags_are = shape.flags_are;
          mask_is = shape.mask_is;
        };
        who = ace.who;
        who_is = who_read (has shape.flags identifier_group) shape.fields.who ace.who shape.who_is;
        made = λ i. record {
          kind = ace.kind;
          flags = (ap (flags_for ace.who) (flags-known shape.fields.flags shape.flags (sym shape.flags_are)) ∙ sym shape.flags_kept) i;
          who = ace.who;
          mask = mask-known shape.fields.letters ace.mask (sym shape.mask_is) i;
        };
      })

  shape_of_value : (piece : List ℕ) (ace : Nfsace4) → piece_value known piece ≡ Ok ace → HasShape known piece ace
  shape_of_value piece ace e =
      let parts = parts_of (names_in_domain known) piece ace e in
      record { written = ace_of_parts piece ace parts.0; has_effect = parts.1 }

  value_of_shape : (piece : List ℕ) (ace : Nfsace4) → HasShape known piece ace → piece_value known piece ≡ Ok ace
  value_of_shape piece ace shape = value_of_written piece ace shape.written ∙ refuse_idle_said ace shape.has_effect

  pub value_is_shape : (piece : List ℕ) (ace : Nfsace4) → (piece_value known piece ≡ Ok ace) ↔ HasShape known piece ace
  value_is_shape piece ace = (shape_of_value piece ace, value_of_shape piece ace)
