-- What is read has known permissions.
use Rattle.std.proofs.Common.{◌≡◌, ℕ, Bool, true, false, List, [], ◌∷◌, map, Some, Result, Ok, None, refl, subst, lit<, cond}
use Rattle.std.proofs.lemmas.List.Elements.{All-nil, All-cons}
use Rattle.acl_names.specs.Bytes.{letter_r, letter_w, letter_x}
use Rattle.acl_names.specs.Names.{Names}
use Rattle.acl_names.specs.Letters.{occurs}
use Rattle.acl_names.specs.ListText.{PiecesSay}
use Rattle.acl_posix.specs.Entry.{EntryValue, HavePermissions}
use Rattle.acl_posix.specs.EntryText.{Fields, entry_by, fields_of, tag_by, tag_word}
use Rattle.acl_posix.specs.Perms.{IsPermissions}
use Rattle.acl_posix.specs.PermsText.{is_perms_text, perms_of_text, perms_with, three_letters}
use Rattle.acl_names.specs.Steps.{◌>>=◌, or_fault}
use Rattle.acl_posix.specs.declared.entry.Tag.{Tag}
use Rattle.acl_posix.specs.declared.reading.PieceFault.{PieceFault}
use Rattle.acl_posix.specs.declared.reading.PieceFault.TheVariants.{Syntax}
use Rattle.acl_posix.specs.declared.reading.TagWord.{TagWord}
use Rattle.acl_names.proofs.StepLemmas.{bind_ok, given}

pub perms_with-IsPermissions : (read write execute : Bool) → IsPermissions (perms_with read write execute)
perms_with-IsPermissions true true true = lit< tt
perms_with-IsPermissions true true false = lit< tt
perms_with-IsPermissions true false true = lit< tt
perms_with-IsPermissions true false false = lit< tt
perms_with-IsPermissions false true true = lit< tt
perms_with-IsPermissions false true false = lit< tt
perms_with-IsPermissions false false true = lit< tt
perms_with-IsPermissions false false false = lit< tt

-- printed letters say the permissions that they stand for
pub three_letters-read : (read write execute : Bool) → perms_of_text (three_letters read write execute) ≡ Some (perms_with read write execute)
unfolding perms_of_text
three_letters-read true true true = refl
three_letters-read true true false = refl
three_letters-read true false true = refl
three_letters-read true false false = refl
three_letters-read false true true = refl
three_letters-read false true false = refl
three_letters-read false false true = refl
three_letters-read false false false = refl

pub perms_of_text-IsPermissions : (text : List ℕ) (perms : ℕ) → perms_of_text text ≡ Some perms → IsPermissions perms
unfolding perms_of_text
perms_of_text-IsPermissions text perms is = go (is_perms_text text) is
  where
    go : (b : Bool) → cond b (Some (perms_with (occurs letter_r text) (occurs letter_w text) (occurs letter_x text))) None ≡ Some perms → IsPermissions perms
    go true same =
        let these : perms_with (occurs letter_r text) (occurs letter_w text) (occurs letter_x text) ≡ perms = cc in
        subst IsPermissions these (perms_with-IsPermissions (occurs letter_r text) (occurs letter_w text) (occurs letter_x text))
    go false none = absurd (cc)

abbrev ok : EntryValue → Result EntryValue PieceFault
ok entry = Ok entry

-- an entry that a piece says has known permissions
perms_read : (names : Names) (piece : List ℕ) (entry : EntryValue) → entry_by names piece ≡ Ok entry → IsPermissions entry.perms
unfolding entry_by
perms_read names piece entry e =
    let end : ℕ → Tag → Result EntryValue PieceFault = λ p t. Ok (record { tag = t; perms = p }) in
    let with_perms : Fields → TagWord → ℕ → Result EntryValue PieceFault = λ f w p. tag_by names w f.qualifier >>= end p in
    let with_word : Fields → TagWord → Result EntryValue PieceFault = λ f w. or_fault Syntax (perms_of_text f.perms) >>= with_perms f w in
    let with_fields : Fields → Result EntryValue PieceFault = λ f. or_fault Syntax (tag_word f.tag) >>= with_word f in
    let fields = bind_ok (or_fault Syntax (fields_of piece)) with_fields entry e in
    let word = bind_ok (or_fault Syntax (tag_word fields.0.tag)) (with_word fields.0) entry fields.2 in
    let perms = bind_ok (or_fault Syntax (perms_of_text fields.0.perms)) (with_perms fields.0 word.0) entry word.2 in
    let tag = bind_ok (tag_by names word.0 fields.0.qualifier) (end perms.0) entry perms.2 in
    let made : EntryValue = record { tag = tag.0; perms = perms.0 } in
    let whole : ok made ≡ ok entry = tag.2 in
    let same : made ≡ entry = cc in
    subst (λ (en : EntryValue). IsPermissions en.perms) same
    (perms_of_text-IsPermissions fields.0.perms perms.0 (given Syntax (perms_of_text fields.0.perms) perms.0 perms.1))

-- entries that pieces say have known permissions
pub HavePermissions-Say : (names : Names) (texts : List (List ℕ)) (entries : List EntryValue) → PiecesSay (entry_by names) texts entries → HavePermissions entries
HavePermissions-Say names texts [] said = All-nil (λ (entry : EntryValue). IsPermissions entry.perms)
HavePermissions-Say names [] (entry ∷ entries) said = absurd (cc)
HavePermissions-Say names (text ∷ texts) (entry ∷ entries) said =
    let first : entry_by names text ≡ ok entry = cc in
    let rest : map (entry_by names) texts ≡ map ok entries = cc in
    All-cons (λ (e : EntryValue). IsPermissions e.perms) entry entries
    (perms_read names text entry first) (HavePermissions-Say names texts entries rest)
