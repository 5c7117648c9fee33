-- The entries of a POSIX list have the form of one.
use Rattle.std.proofs.Common.{◌≡◌, ◌∙◌, ℕ, Bool, true, false, cond, List, [], ◌∷◌, Some, None, Ok, ap, ap₂, refl, sym, codes, bytes_eq, map, is_some}
use Rattle.std.proofs.lemmas.Bool.{true≢false}
use Rattle.std.proofs.lemmas.Slice.Eq.{bytes_eq-Decides}
use Rattle.acl_names.specs.Bytes.{colon}
use Rattle.acl_names.specs.ListText.{PiecesSay}
use Rattle.acl_names.specs.Names.{Names}
use Rattle.acl_names.specs.Pieces.{parts, trim}
use Rattle.acl_names.specs.Steps.{or_fault}
use Rattle.acl_names.proofs.StepLemmas.{bind_ok, given}
use Rattle.acl_posix.specs.Entry.{EntryValue}
use Rattle.acl_posix.specs.EntryText.{Fields, as_fields, entry_by, fields_of, tag_word}
use Rattle.acl_posix.specs.PermsText.{perms_of_text}
use Rattle.acl_posix.specs.declared.reading.PieceFault.TheVariants.{Syntax}
use Rattle.acl_nfs4.specs.AceFields as nfs4
use Rattle.acl_nfs4.specs.declared.ace.AceType.TheVariants as kind
use Rattle.acl_forms.specs.FormText as freebsd
use Rattle.acl_forms.specs.Forms.{form_of_fields, form_of_piece, form_of_pieces, is_type}
use Rattle.acl_forms.specs.declared.form.Form.TheVariants.{Posix, Nfs4, Freebsd}

-- the word of a tag is no type of an NFSv4 entry
word_no_type : (text : List ℕ) → is_some (tag_word text) ≡ true → is_type (nfs4.type_of text) ≡ false
word_no_type text is =
    go (bytes_eq text (codes "A")) refl (bytes_eq text (codes "D")) refl (bytes_eq text (codes "U")) refl (bytes_eq text (codes "L")) refl
  where
    other : (letter : List ℕ) → bytes_eq text letter ≡ true → tag_word letter ≡ None → ⊥
    other letter same none = true≢false (sym is ∙ ap (λ t. is_some (tag_word t)) ((bytes_eq-Decides text letter).0 same) ∙ ap is_some none)

    go : (a : Bool) → bytes_eq text (codes "A") ≡ a → (d : Bool) → bytes_eq text (codes "D") ≡ d
        → (u : Bool) → bytes_eq text (codes "U") ≡ u → (l : Bool) → bytes_eq text (codes "L") ≡ l
        → is_type (cond a (Some kind.Allow) (cond d (Some kind.Deny) (cond u (Some kind.Audit) (cond l (Some kind.Alarm) None)))) ≡ false
    go true ea d ed u eu l el = absurd (other (codes "A") ea refl)
    go false ea true ed u eu l el = absurd (other (codes "D") ed refl)
    go false ea false ed true eu l el = absurd (other (codes "U") eu refl)
    go false ea false ed false eu true el = absurd (other (codes "L") el refl)
    go false ea false ed false eu false el = refl

-- nor are permissions the type of one of FreeBSD's
perms_no_type : (text : List ℕ) (perms : ℕ) → perms_of_text text ≡ Some perms → is_type (freebsd.type_of text) ≡ false
unfolding perms_of_text
perms_no_type text perms is =
    go (bytes_eq text (codes "allow")) refl (bytes_eq text (codes "deny")) refl (bytes_eq text (codes "audit")) refl (bytes_eq text (codes "alarm")) refl
  where
    other : (word : List ℕ) → bytes_eq text word ≡ true → perms_of_text word ≡ None → ⊥
    other word same none = let e : None ≡ Some perms = sym none ∙ ap perms_of_text (sym ((bytes_eq-Decides text word).0 same)) ∙ is in cc

    go : (a : Bool) → bytes_eq text (codes "allow") ≡ a → (d : Bool) → bytes_eq text (codes "deny") ≡ d
        → (u : Bool) → bytes_eq text (codes "audit") ≡ u → (l : Bool) → bytes_eq text (codes "alarm") ≡ l
        → is_type (cond a (Some kind.Allow) (cond d (Some kind.Deny) (cond u (Some kind.Audit) (cond l (Some kind.Alarm) None)))) ≡ false
    go true ea d ed u eu l el = absurd (other (codes "allow") ea refl)
    go false ea true ed u eu l el = absurd (other (codes "deny") ed refl)
    go false ea false ed true eu l el = absurd (other (codes "audit") eu refl)
    go false ea false ed false eu true el = absurd (other (codes "alarm") el refl)
    go false ea false ed false eu false el = refl

neither : (a b : Bool) → a ≡ false → b ≡ false → cond a Nfs4 (cond b Freebsd Posix) ≡ Posix
neither a b first last = ap₂ (λ x y. cond x Nfs4 (cond y Freebsd Posix)) first last

-- what is read of fields
pub record Read (names : Names) (each : List (List ℕ)) : Type 0 where
  pub fields : Fields
  pub perms : ℕ
  pub cut : as_fields (map trim each) ≡ Some fields
  pub word_is : is_some (tag_word fields.tag) ≡ true
  pub perms_are : perms_of_text fields.perms ≡ Some perms

pub read_of : (names : Names) (piece : List ℕ) (entry : EntryValue) → entry_by names piece ≡ Ok entry → Read names (parts colon piece)
unfolding entry_by
read_of names piece entry is =
    let cut = bind_ok (or_fault Syntax (fields_of piece)) _ entry is in
    let word = bind_ok (or_fault Syntax (tag_word cut.0.tag)) _ entry cut.2 in
    let perms = bind_ok (or_fault Syntax (perms_of_text cut.0.perms)) _ entry word.2 in
    record {
      fields = cut.0;
      perms = perms.0;
      cut = given Syntax (fields_of piece) cut.0 cut.1;
      word_is = ap is_some (given Syntax (tag_word cut.0.tag) word.0 word.1);
      perms_are = given Syntax (perms_of_text cut.0.perms) perms.0 perms.1;
    }

form_of_read : (names : Names) (each : List (List ℕ)) → Read names each → form_of_fields each ≡ Posix
form_of_read names [] read = refl
form_of_read names (a ∷ []) read = let none : None ≡ Some read.fields = read.cut in cc
form_of_read names (a ∷ b ∷ []) read =
    let two : Some (record { tag = trim a; qualifier = None; perms = trim b }) ≡ Some read.fields = read.cut in
    let fields : record { tag = trim a; qualifier = None; perms = trim b } ≡ read.fields = cc in
    neither _ _ (word_no_type (trim a) (ap (λ (f : Fields). is_some (tag_word f.tag)) fields ∙ read.word_is))
    (perms_no_type (trim b) read.perms (ap (λ (f : Fields). perms_of_text f.perms) fields ∙ read.perms_are))
form_of_read names (a ∷ b ∷ c ∷ []) read =
    let three : Some (record { tag = trim a; qualifier = Some (trim b); perms = trim c }) ≡ Some read.fields = read.cut in
    let fields : record { tag = trim a; qualifier = Some (trim b); perms = trim c } ≡ read.fields = cc in
    neither _ _ (word_no_type (trim a) (ap (λ (f : Fields). is_some (tag_word f.tag)) fields ∙ read.word_is))
    (perms_no_type (trim c) read.perms (ap (λ (f : Fields). perms_of_text f.perms) fields ∙ read.perms_are))
form_of_read names (a ∷ b ∷ c ∷ d ∷ more) read = let none : None ≡ Some read.fields = read.cut in cc

form_posix : (names : Names) (piece : List ℕ) (entry : EntryValue) → entry_by names piece ≡ Ok entry → form_of_piece piece ≡ Posix
form_posix names piece entry is = form_of_read names (parts colon piece) (read_of names piece entry is)

-- pieces that say entries
pub form_said : (names : Names) (texts : List (List ℕ)) (entries : List EntryValue) → PiecesSay (entry_by names) texts entries → form_of_pieces texts ≡ Posix
form_said names [] entries said = refl
form_said names (text ∷ texts) [] said = cc
form_said names (text ∷ texts) (entry ∷ entries) said =
    let first : entry_by names text ≡ Ok entry = cc in
    form_posix names text entry first
