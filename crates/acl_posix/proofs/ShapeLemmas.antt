-- What the reader's function answers is what the shapes say.
use Rattle.std.proofs.Common.{◌≡◌, ℕ, Bool, true, false, cond, List, [], ◌∷◌, Option, Some, None}
use Rattle.std.proofs.Common.{option_and_then, Result, Ok, ◌<◌, ◌&&◌, nat_le, length, refl, sym, ap, subst}
use Rattle.std.proofs.Common.{◌∙◌, inl, inr, codes, arith}
use Rattle.std.specs.Char.{is_ascii_digit}
use Rattle.std.specs.List.{list_all}
use Rattle.std.specs.Str.{bytes_eq}
use Rattle.std.specs.Str.Parse.{digits_value}
use Rattle.std.proofs.lemmas.Slice.Eq.{bytes_eq-Decides}
use Rattle.std.proofs.lemmas.Option.{cond_some}
use Rattle.std.proofs.lemmas.Bool.{or_cases}
use Rattle.acl_names.specs.declared.limits.TheConstants.{MAX_DIGITS, MAX_ID}
use Rattle.acl_names.specs.Directory.{Known, uid_of, gid_of}
use Rattle.acl_names.specs.Ids.{is_decimal, written_id, number_or_name, decimal_value, has_name_shape, id_of_written}
use Rattle.acl_names.specs.Names.{names_of}
use Rattle.acl_names.proofs.IdTexts.{and_second, written_name}
use Rattle.acl_names.proofs.StepLemmas.{bind_ok, given, written_by}
use Rattle.acl_posix.proofs.RoundTrip.{qualified_by, user_tag, group_tag, read_parts}
use Rattle.acl_names.specs.Steps.{◌>>=◌, or_fault}
use Rattle.acl_posix.specs.PermsText.{perms_of_text}
use Rattle.acl_posix.specs.EntryText.{Fields, fields_of, is_word, tag_word, tag_of, tag_with_id, entry_by, entry_of}
use Rattle.acl_posix.specs.Shapes.{IsWord, WritesId, IsTagged, HasShape}
use Rattle.acl_posix.specs.Entry.{EntryValue}
use Rattle.acl_posix.specs.declared.entry.Tag.{Tag}
use Rattle.acl_posix.specs.declared.entry.Tag.TheVariants.{UserObj, User, GroupObj, Group, Mask, Other}
use Rattle.acl_posix.specs.declared.reading.PieceFault.{PieceFault}
use Rattle.acl_posix.specs.declared.reading.PieceFault.TheVariants.{Syntax, UnknownName}
use Rattle.acl_posix.specs.declared.reading.TagWord.{TagWord}
use Rattle.acl_posix.specs.declared.reading.TagWord.TheVariants as word

abbrev ok_tag : Tag → Result Tag PieceFault
ok_tag tag = Ok tag

same_oks : (x y : Tag) → ok_tag x ≡ ok_tag y → x ≡ y
same_oks x y e = cc

abbrev ok_entry : EntryValue → Result EntryValue PieceFault
ok_entry entry = Ok entry

same_entries : (x y : EntryValue) → ok_entry x ≡ ok_entry y → x ≡ y
same_entries x y e = cc

qualified_says : (tag : ℕ → Tag) (id_of : List ℕ → Option ℕ) (text : List ℕ) (t : Tag) → tag_with_id written_id tag id_of text ≡ Ok t → (id : ℕ) × WritesId id_of text id × (tag id ≡ t)
qualified_says tag id_of text t e =
    let first = bind_ok (or_fault Syntax (written_id text)) (λ w. or_fault UnknownName (id_of_written id_of w) >>= (λ id. Ok (tag id))) t e in
    let second = bind_ok (or_fault UnknownName (id_of_written id_of first.0)) (λ id. Ok (tag id)) t first.2 in (
      second.0,
      written_by id_of text (decimal_value text) first.0 second.0
          (given Syntax (written_id text) first.0 first.1)
          (given UnknownName (id_of_written id_of first.0) second.0 second.1),
      same_oks (tag second.0) t second.2,
    )

-- the word of a tag word
abbrev IsWordOf : TagWord → List ℕ → Type 0
IsWordOf word.User = IsWord (codes "user") (codes "u")
IsWordOf word.Group = IsWord (codes "group") (codes "g")
IsWordOf word.Mask = IsWord (codes "mask") (codes "m")
IsWordOf word.Other = IsWord (codes "other") (codes "o")

is_word_says : (w l text : List ℕ) → is_word w l text ≡ true → IsWord w l text
is_word_says w l text e = elim (or_cases (bytes_eq text w) (bytes_eq text l) e) [ inl a ↦ inl ((bytes_eq-Decides text w).0 a) | inr b ↦ inr ((bytes_eq-Decides text l).0 b) ]

abbrev Picks : Bool → Bool → Bool → Bool → TagWord → Type 0
Picks u g m o word.User = u ≡ true
Picks u g m o word.Group = g ≡ true
Picks u g m o word.Mask = m ≡ true
Picks u g m o word.Other = o ≡ true

picked : (u g m o : Bool) (w : TagWord) → cond u (Some word.User) (cond g (Some word.Group) (cond m (Some word.Mask) (cond o (Some word.Other) None))) ≡ Some w → Picks u g m o w
picked true g m o w e = let is : word.User ≡ w = cc in subst (Picks true g m o) is refl
picked false true m o w e = let is : word.Group ≡ w = cc in subst (Picks false true m o) is refl
picked false false true o w e = let is : word.Mask ≡ w = cc in subst (Picks false false true o) is refl
picked false false false true w e = let is : word.Other ≡ w = cc in subst (Picks false false false true) is refl
picked false false false false w e = cc

word_says : (text : List ℕ) (w : TagWord) → tag_word text ≡ Some w → IsWordOf w text
word_says text w e = by_word w (picked (is_word (codes "user") (codes "u") text)
    (is_word (codes "group") (codes "g") text) (is_word (codes "mask") (codes "m") text)
    (is_word (codes "other") (codes "o") text) w e)
  where
    by_word : (w : TagWord) → Picks (is_word (codes "user") (codes "u") text)
        (is_word (codes "group") (codes "g") text) (is_word (codes "mask") (codes "m") text)
        (is_word (codes "other") (codes "o") text) w → IsWordOf w text
    by_word word.User p = is_word_says (codes "user") (codes "u") text p
    by_word word.Group p = is_word_says (codes "group") (codes "g") text p
    by_word word.Mask p = is_word_says (codes "mask") (codes "m") text p
    by_word word.Other p = is_word_says (codes "other") (codes "o") text p

tag_says : (known : Known) (text : List ℕ) (w : TagWord) (qualifier : Option (List ℕ)) (tag : Tag) → IsWordOf w text → tag_of known w qualifier ≡ Ok tag → IsTagged known text qualifier tag
tag_says known text word.User None tag is e = cc
tag_says known text word.User (Some []) tag is e = subst (IsTagged known text (Some [])) (same_oks UserObj tag e) (is, refl)
tag_says known text word.User (Some (b ∷ bs)) tag is e =
    let says = qualified_says (λ uid. User uid) (uid_of known) (b ∷ bs) tag e in
    subst (IsTagged known text (Some (b ∷ bs))) says.2 (is, (b ∷ bs, refl, says.1))
tag_says known text word.Group None tag is e = cc
tag_says known text word.Group (Some []) tag is e = subst (IsTagged known text (Some [])) (same_oks GroupObj tag e) (is, refl)
tag_says known text word.Group (Some (b ∷ bs)) tag is e =
    let says = qualified_says (λ gid. Group gid) (gid_of known) (b ∷ bs) tag e in
    subst (IsTagged known text (Some (b ∷ bs))) says.2 (is, (b ∷ bs, refl, says.1))
tag_says known text word.Mask None tag is e = subst (IsTagged known text None) (same_oks Mask tag e) (is, inl refl)
tag_says known text word.Mask (Some []) tag is e = subst (IsTagged known text (Some [])) (same_oks Mask tag e) (is, inr refl)
tag_says known text word.Mask (Some (b ∷ bs)) tag is e = cc
tag_says known text word.Other None tag is e = subst (IsTagged known text None) (same_oks Other tag e) (is, inl refl)
tag_says known text word.Other (Some []) tag is e = subst (IsTagged known text (Some [])) (same_oks Other tag e) (is, inr refl)
tag_says known text word.Other (Some (b ∷ bs)) tag is e = cc

-- what is read has a shape
pub shape_of_read : (known : Known) (piece : List ℕ) (entry : EntryValue) → entry_of known piece ≡ Ok entry → HasShape known piece entry
unfolding entry_by
shape_of_read known piece entry e =
    let end : ℕ → Tag → Result EntryValue PieceFault = λ p t. Ok (record { tag = t; perms = p }) in
    let with_perms : Fields → TagWord → ℕ → Result EntryValue PieceFault = λ f w p. tag_of known w f.qualifier >>= end p in
    let with_word : Fields → TagWord → Result EntryValue PieceFault = λ f w. or_fault Syntax (perms_of_text f.perms) >>= with_perms f w in
    let with_fields : Fields → Result EntryValue PieceFault = λ f. or_fault Syntax (tag_word f.tag) >>= with_word f in
    let fields = bind_ok (or_fault Syntax (fields_of piece)) with_fields entry e in
    let word = bind_ok (or_fault Syntax (tag_word fields.0.tag)) (with_word fields.0) entry fields.2 in
    let perms = bind_ok (or_fault Syntax (perms_of_text fields.0.perms)) (with_perms fields.0 word.0) entry word.2 in
    let tag = bind_ok (tag_of known word.0 fields.0.qualifier) (end perms.0) entry perms.2 in
    let made : EntryValue = record { tag = tag.0; perms = perms.0 } in
    let whole : made ≡ entry = same_entries made entry tag.2 in
    let said : IsWordOf word.0 fields.0.tag = word_says fields.0.tag word.0 (given Syntax (tag_word fields.0.tag) word.0 word.1) in
    record {
      fields = fields.0;
      cut = given Syntax (fields_of piece) fields.0 fields.1;
      tagged = subst (λ (en : EntryValue). IsTagged known fields.0.tag fields.0.qualifier en.tag) whole (tag_says known fields.0.tag word.0 fields.0.qualifier tag.0 said tag.1);
      allowed = given Syntax (perms_of_text fields.0.perms) perms.0 perms.1 ∙ ap (λ (en : EntryValue). Some en.perms) whole;
    }

-- ---- the way back
word_read : (text : List ℕ) (w : TagWord) → IsWordOf w text → tag_word text ≡ Some w
word_read text word.User is = elim is [ inl e ↦ ap tag_word e | inr e ↦ ap tag_word e ]
word_read text word.Group is = elim is [ inl e ↦ ap tag_word e | inr e ↦ ap tag_word e ]
word_read text word.Mask is = elim is [ inl e ↦ ap tag_word e | inr e ↦ ap tag_word e ]
word_read text word.Other is = elim is [ inl e ↦ ap tag_word e | inr e ↦ ap tag_word e ]

-- a decimal is within the range of ids
pub decimal_within : (text : List ℕ) (id : ℕ) → decimal_value text ≡ Some id → nat_le id MAX_ID ≡ true
decimal_within text id e =
    let read = cond_some (is_decimal text) (digits_value 10 text) id e in
    let few = list_all is_ascii_digit text && nat_le 1 (length text) && nat_le (length text) MAX_DIGITS in
    ap (λ n. nat_le n MAX_ID) (sym read.1) ∙ and_second few (nat_le (digits_value 10 text) MAX_ID) read.0

id_read : (id_of : List ℕ → Option ℕ) (text : List ℕ) (id : ℕ) → WritesId id_of text id → option_and_then (id_of_written id_of) (written_id text) ≡ Some id
id_read id_of text id (inl e) =
    ap (λ number. option_and_then (id_of_written id_of) (number_or_name number text)) e ∙ ap (λ t. cond t (Some id) None) (decimal_within text id e)
id_read id_of text id (inr is) = ap (option_and_then (id_of_written id_of)) (written_name text is.0) ∙ is.1

id_some : (id_of : List ℕ → Option ℕ) (text : List ℕ) (id : ℕ) → WritesId id_of text id → 0 < length text
id_some id_of [] id (inl e) = cc
id_some id_of [] id (inr is) = let e : has_name_shape [] ≡ true = is.0 in cc
id_some id_of (b ∷ bs) id writes = omega arith

qualified_read : (tag : ℕ → Tag) (id_of : List ℕ → Option ℕ) (text : List ℕ) (id : ℕ) → WritesId id_of text id → tag_with_id written_id tag id_of text ≡ Ok (tag id)
qualified_read tag id_of text id writes = qualified_by tag id_of id (written_id text) (id_read id_of text id writes)

-- a piece of a shape is read
pub read_of_shape : (known : Known) (piece : List ℕ) (entry : EntryValue) → HasShape known piece entry → entry_of known piece ≡ Ok entry
read_of_shape known piece entry shape = by_tag entry.tag shape.tagged
  where
    by_tag : (tag : Tag) → IsTagged known shape.fields.tag shape.fields.qualifier tag → entry_of known piece ≡ Ok (record { tag = tag; perms = entry.perms })
    by_tag UserObj is = read_parts (names_of known) piece shape.fields word.User entry.perms UserObj shape.cut (word_read shape.fields.tag word.User is.0) shape.allowed (ap (tag_of known word.User) is.1)
    by_tag GroupObj is = read_parts (names_of known) piece shape.fields word.Group entry.perms GroupObj shape.cut (word_read shape.fields.tag word.Group is.0) shape.allowed (ap (tag_of known word.Group) is.1)
    by_tag (User uid) is = read_parts (names_of known) piece shape.fields word.User entry.perms (User uid) shape.cut (word_read shape.fields.tag word.User is.0) shape.allowed
        (ap (tag_of known word.User) is.1.1 ∙ user_tag (names_of known) is.1.0 (id_some (uid_of known) is.1.0 uid is.1.2) ∙ qualified_read (λ uid. User uid) (uid_of known) is.1.0 uid is.1.2)
    by_tag (Group gid) is = read_parts (names_of known) piece shape.fields word.Group entry.perms (Group gid) shape.cut (word_read shape.fields.tag word.Group is.0) shape.allowed
        (ap (tag_of known word.Group) is.1.1 ∙ group_tag (names_of known) is.1.0 (id_some (gid_of known) is.1.0 gid is.1.2) ∙ qualified_read (λ gid. Group gid) (gid_of known) is.1.0 gid is.1.2)
    by_tag Mask is = read_parts (names_of known) piece shape.fields word.Mask entry.perms Mask shape.cut (word_read shape.fields.tag word.Mask is.0) shape.allowed
        (elim is.1 [ inl e ↦ ap (tag_of known word.Mask) e | inr e ↦ ap (tag_of known word.Mask) e ])
    by_tag Other is = read_parts (names_of known) piece shape.fields word.Other entry.perms Other shape.cut (word_read shape.fields.tag word.Other is.0) shape.allowed
        (elim is.1 [ inl e ↦ ap (tag_of known word.Other) e | inr e ↦ ap (tag_of known word.Other) e ])
