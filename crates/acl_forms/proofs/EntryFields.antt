-- What is printed of an entry, however its id is written, is cut into its fields, which make it.
use Rattle.std.proofs.Common.{◌≡◌, ◌∙◌, ℕ, Bool, true, false, cond, not, ◌&&◌, List, [], ◌∷◌, ◌++◌, Option, Some, None, Ok, ap, ap₂, arith, bit_or, codes, length-append, map, refl, sym}
use Rattle.std.specs.Prelude.{option_to_list}
use Rattle.std.specs.List.{AllByRecursion, join_with_byte}
use Rattle.std.proofs.lemmas.Bool.{and_parts}
use Rattle.acl_names.specs.Bits.{has, without, ◌∩◌}
use Rattle.acl_names.specs.Bytes.{colon}
use Rattle.acl_names.specs.Names.{Names}
use Rattle.acl_names.specs.Pieces.{parts, trim, trimmed_parts}
use Rattle.acl_names.specs.Plain.{IsField, IsPlain}
use Rattle.acl_names.proofs.BitSets.{has-and, has-without, same_bits}
use Rattle.acl_names.proofs.Fields.{fields_again, joined_plain, tested_field}
use Rattle.acl_names.proofs.PlainJoined.{IsPlainPiece}
use Rattle.acl_nfs4.specs.Ace.{Nfsace4, IsAce, ace_of, flags_for}
use Rattle.acl_nfs4.specs.AceFields as nfs4
use Rattle.acl_nfs4.specs.AceFields.{refuse_idle}
use Rattle.acl_nfs4.specs.Flags.{all_flags, identifier_group}
use Rattle.acl_nfs4.specs.Who.{flags_of_who, is_named_group}
use Rattle.acl_nfs4.specs.declared.ace.AceType.{AceType}
use Rattle.acl_nfs4.specs.declared.ace.AceType.TheVariants.{Allow, Deny, Audit, Alarm}
use Rattle.acl_nfs4.specs.declared.who.Who.{Who}
use Rattle.acl_nfs4.specs.declared.who.Who.TheVariants.{Owner, Group, Everyone, User, NamedGroup}
use Rattle.acl_nfs4.proofs.AceLemmas.{within-from, within-has}
use Rattle.acl_nfs4.proofs.ReadLemmas.{IsRead, refuse_idle_said}
use Rattle.acl_nfs4.proofs.RoundTrip.{flags_for-same}
use Rattle.acl_forms.specs.FormText.{FormFields, as_fields, entry_by, fields_of, type_of, who_by}
use Rattle.acl_forms.specs.Forms.{form_of_fields, form_of_piece, is_type, last_or}
use Rattle.acl_forms.specs.Marks.{mark_table, perm_table}
use Rattle.acl_forms.specs.PrintedForm.{fields_text, marks_of_flags, marks_text, tag_by, type_text}
use Rattle.acl_forms.specs.declared.form.Form.{Form}
use Rattle.acl_forms.specs.declared.form.Form.TheVariants as form
use Rattle.acl_forms.specs.declared.printing.Places.{Places}
use Rattle.acl_forms.proofs.MarksAgain.{marks-field, marks_again, mark_letters, mark_no_hyphen, mark_table_is, perm_letters, perm_no_hyphen, perm_table_is}

-- ---- an entry's flags are those of its marks and its who

-- what is said of one bit: in the flags, among all flags, and the flag of a group
kept_bit : (f a s : Bool) → (f && a) ≡ f → (((f && (a && not s)) && a) && not s) ≡ (f && not s)
kept_bit true true true e = refl
kept_bit true true false e = refl
kept_bit true false s e = absurd (cc)
kept_bit false a s e = refl

marks_bit : (k : ℕ) → has 0x3F k ≡ (has all_flags k && not (has 64 k))
unfolding without
marks_bit k = has-without all_flags 64 k

marks_kept : (flags : ℕ) → flags ∩ all_flags ≡ flags → without (marks_of_flags flags ∩ all_flags) 64 ≡ without flags 64
marks_kept flags within = same_bits _ _ (λ k.
    has-without (marks_of_flags flags ∩ all_flags) 64 k
    ∙ ap (λ b. b && not (has 64 k)) (has-and (marks_of_flags flags) all_flags k ∙ ap (λ b. b && has all_flags k) (has-and flags 0x3F k ∙ ap (λ b. has flags k && b) (marks_bit k)))
    ∙ kept_bit (has flags k) (has all_flags k) (has 64 k) (sym (has-and flags all_flags k) ∙ ap (λ (set : ℕ). has set k) within)
    ∙ sym (has-without flags 64 k))

flags_again : (who : Who) (flags : ℕ) → flags ∩ all_flags ≡ flags → has flags identifier_group ≡ is_named_group who
    → flags_for who (marks_of_flags flags ∩ all_flags) ≡ flags
flags_again who flags within stands =
    ap (λ (set : ℕ). bit_or set (flags_of_who who)) (marks_kept flags within) ∙ flags_for-same who flags stands

made_again : (ace : Nfsace4) → IsAce ace → ace_of ace.kind (marks_of_flags ace.flags) ace.who ace.mask ≡ ace
made_again ace is = λ i. record {
  kind = ace.kind;
  flags = flags_again ace.who ace.flags is.known_flags is.group_flag i;
  who = ace.who;
  mask = is.known_mask i;
}

marks_within : (flags : ℕ) → marks_of_flags flags ∩ 0xBF ≡ marks_of_flags flags
marks_within flags =
    within-from (marks_of_flags flags) 0xBF
    (λ k e. within-has 0x3F 0xBF k refl (and_parts (has flags k) (has 0x3F k) (sym (has-and flags 0x3F k) ∙ e)).1)

-- ---- its fields

type_field : (kind : AceType) → IsField (type_text kind)
type_field Allow = tested_field (codes "allow") refl
type_field Deny = tested_field (codes "deny") refl
type_field Audit = tested_field (codes "audit") refl
type_field Alarm = tested_field (codes "alarm") refl

pub type_again : (kind : AceType) → type_of (type_text kind) ≡ Some kind
type_again Allow = refl
type_again Deny = refl
type_again Audit = refl
type_again Alarm = refl

type_is : (kind : AceType) → is_type (type_of (type_text kind)) ≡ true
type_is kind = ap is_type (type_again kind)

-- the tag of a who, and the name behind it as it is written
abbrev pub tag_of : Who → List ℕ
tag_of Owner = codes "owner@"
tag_of Group = codes "group@"
tag_of Everyone = codes "everyone@"
tag_of (User uid) = codes "user"
tag_of (NamedGroup gid) = codes "group"

abbrev pub name_of : (ℕ → List ℕ) → (ℕ → List ℕ) → Who → Option (List ℕ)
name_of user group (User uid) = Some (user uid)
name_of user group (NamedGroup gid) = Some (group gid)
name_of user group _ = None

-- that name is a field
abbrev pub HasField : (ℕ → List ℕ) → (ℕ → List ℕ) → Who → Type 0
HasField user group (User uid) = IsField (user uid)
HasField user group (NamedGroup gid) = IsField (group gid)
HasField user group _ = Unit {0}

-- no tag is the type of an entry of nfs4
tag_no_type : (who : Who) → is_type (nfs4.type_of (tag_of who)) ≡ false
tag_no_type Owner = refl
tag_no_type Group = refl
tag_no_type Everyone = refl
tag_no_type (User uid) = refl
tag_no_type (NamedGroup gid) = refl

-- a plain text is cut into these fields
record IsCut (text : List ℕ) (fields : List (List ℕ)) : Type 0 where
  pub cut : trimmed_parts colon text ≡ fields
  pub plain : IsPlain text

joined_cut : (first : List ℕ) (fields : List (List ℕ)) → AllByRecursion IsField (first ∷ fields) → IsCut (join_with_byte colon (first ∷ fields)) (first ∷ fields)
joined_cut first fields are = record { cut = fields_again first fields are; plain = joined_plain first fields are }

-- the form of a piece is reported by its first and its last field
abbrev pub form_by : List ℕ → List ℕ → Form
form_by first last = cond (is_type (nfs4.type_of first)) form.Nfs4 (cond (is_type (type_of last)) form.Freebsd form.Posix)

last_trimmed : (last : List ℕ) (more : List (List ℕ)) → trim (last_or last more) ≡ last_or (trim last) (map trim more)
last_trimmed last [] = refl
last_trimmed last (field ∷ more) = last_trimmed field more

form_of_trimmed : (each : List (List ℕ)) (first : List ℕ) (more : List (List ℕ)) → map trim each ≡ first ∷ more → form_of_fields each ≡ form_by first (last_or first more)
form_of_trimmed [] first more is = cc
form_of_trimmed (field ∷ each) first more is =
    let same : trim field ≡ first = cc in
    let rest : map trim each ≡ more = cc in
    ap (form_by (trim field)) (last_trimmed field each) ∙ ap₂ (λ a others. form_by a (last_or a others)) same rest

pub form_of_cut : (text first : List ℕ) (more : List (List ℕ)) → trimmed_parts colon text ≡ first ∷ more → form_of_piece text ≡ form_by first (last_or first more)
form_of_cut text first more is = form_of_trimmed (parts colon text) first more is

module _ (user group : ℕ → List ℕ) where
  abbrev behind : Who → List ℕ → List ℕ → List ℕ → List (List ℕ)
  behind who perms flags kind = option_to_list (name_of user group who) ++ (perms ∷ flags ∷ kind ∷ [])

  tag_cut : (who : Who) → HasField user group who → (perms flags kind : List ℕ) → IsField perms → IsField flags → IsField kind
      → IsCut (join_with_byte colon (tag_by user group who ∷ perms ∷ flags ∷ kind ∷ [])) (tag_of who ∷ behind who perms flags kind)
  tag_cut Owner named perms flags kind p f k =
      joined_cut (codes "owner@") (perms ∷ flags ∷ kind ∷ []) (tested_field (codes "owner@") refl, (p, (f, (k, tt))))
  tag_cut Group named perms flags kind p f k =
      joined_cut (codes "group@") (perms ∷ flags ∷ kind ∷ []) (tested_field (codes "group@") refl, (p, (f, (k, tt))))
  tag_cut Everyone named perms flags kind p f k =
      joined_cut (codes "everyone@") (perms ∷ flags ∷ kind ∷ []) (tested_field (codes "everyone@") refl, (p, (f, (k, tt))))
  tag_cut (User uid) named perms flags kind p f k =
      joined_cut (codes "user") (user uid ∷ perms ∷ flags ∷ kind ∷ []) (tested_field (codes "user") refl, (named, (p, (f, (k, tt)))))
  tag_cut (NamedGroup gid) named perms flags kind p f k =
      joined_cut (codes "group") (group gid ∷ perms ∷ flags ∷ kind ∷ []) (tested_field (codes "group") refl, (named, (p, (f, (k, tt)))))

  tag_fields : (who : Who) (perms flags kind : List ℕ)
      → as_fields (tag_of who ∷ behind who perms flags kind) ≡ Some (record { tag = tag_of who; name = name_of user group who; perms = perms; flags = flags; kind = kind })
  tag_fields Owner perms flags kind = refl
  tag_fields Group perms flags kind = refl
  tag_fields Everyone perms flags kind = refl
  tag_fields (User uid) perms flags kind = refl
  tag_fields (NamedGroup gid) perms flags kind = refl

  tag_last : (who : Who) (perms flags kind : List ℕ) → last_or (tag_of who) (behind who perms flags kind) ≡ kind
  tag_last Owner perms flags kind = refl
  tag_last Group perms flags kind = refl
  tag_last Everyone perms flags kind = refl
  tag_last (User uid) perms flags kind = refl
  tag_last (NamedGroup gid) perms flags kind = refl

  module _ (places : Places) (ace : Nfsace4) (named : HasField user group ace.who) where
    abbrev text : List ℕ
    text = fields_text places (tag_by user group ace.who) ace

    abbrev perms : List ℕ
    perms = marks_text places perm_table ace.mask

    abbrev flags : List ℕ
    flags = marks_text places mark_table (marks_of_flags ace.flags)

    abbrev kind : List ℕ
    kind = type_text ace.kind

    abbrev printed_fields : FormFields
    printed_fields = record { tag = tag_of ace.who; name = name_of user group ace.who; perms = perms; flags = flags; kind = kind }

    text_cut : IsCut text (tag_of ace.who ∷ behind ace.who perms flags kind)
    text_cut =
        tag_cut ace.who named perms flags kind (marks-field places perm_table ace.mask perm_letters) (marks-field places mark_table (marks_of_flags ace.flags) mark_letters)
        (type_field ace.kind)

    printed_cut : fields_of text ≡ Some printed_fields
    printed_cut = ap as_fields text_cut.cut ∙ tag_fields ace.who perms flags kind

    pub printed_piece : IsPlainPiece text
    printed_piece = (omega (arith, length-append (tag_by user group ace.who) (colon ∷ join_with_byte colon (perms ∷ flags ∷ kind ∷ []))), text_cut.plain)

    pub printed_form : form_of_piece text ≡ form.Freebsd
    printed_form =
        form_of_cut text (tag_of ace.who) (behind ace.who perms flags kind) text_cut.cut
        ∙ ap (form_by (tag_of ace.who)) (tag_last ace.who perms flags kind)
        ∙ ap₂ (λ first last. cond first form.Nfs4 (cond last form.Freebsd form.Posix)) (tag_no_type ace.who) (type_is ace.kind)

    -- and says the entry, if its tag means whom it names
    pub printed_said : (names : Names) → IsRead ace → who_by names (tag_of ace.who) (name_of user group ace.who) ≡ Ok ace.who → entry_by names text ≡ Ok ace
    unfolding entry_by
    printed_said names is who_is =
        rw (
          printed_cut,
          marks_again places perm_table ace.mask perm_table_is perm_no_hyphen is.is_ace.known_mask,
          marks_again places mark_table (marks_of_flags ace.flags) mark_table_is mark_no_hyphen (marks_within ace.flags),
          type_again ace.kind,
          who_is,
        ) (ap refuse_idle (made_again ace is.is_ace))
        ∙ refuse_idle_said ace is.effective
