-- Which fault a piece has that is no entry.
use Rattle.std.proofs.Common.{◌≡◌, ◌≢◌, ◌↔◌, ℕ, true, cond, nat_le, List, [], ◌∷◌, Option, Some, None, Result, Ok, Err, codes, refl, sym, ap, subst, ◌∙◌}
use Rattle.std.proofs.lemmas.Slice.Eq.{bytes_eq-Decides}
use Rattle.std.proofs.lemmas.Option.{cond_some}
use Rattle.acl_names.specs.declared.limits.TheConstants.{MAX_ID}
use Rattle.acl_names.specs.Directory.{Known, uid_of, gid_of, fault_of}
use Rattle.acl_names.specs.Ids.{Written, Number, Name, written_id, number_or_name, decimal_value, has_name_shape, has_domain_shape, id_of_written}
use Rattle.acl_names.specs.Names.{names_of}
use Rattle.acl_names.specs.Steps.{◌>>=◌, or_fault}
use Rattle.acl_names.proofs.StepLemmas.{given}
use Rattle.acl_posix.specs.Entry.{EntryValue}
use Rattle.acl_posix.specs.EntryText.{Fields, fields_of, tag_word, tag_of, tag_with_id, entry_by, entry_of}
use Rattle.acl_posix.specs.Faults.{IsEntry, HasUnknownName, HasNoShape}
use Rattle.acl_posix.specs.PermsText.{perms_of_text}
use Rattle.acl_posix.specs.declared.entry.Tag.{Tag}
use Rattle.acl_posix.specs.declared.entry.Tag.TheVariants.{User, Group}
use Rattle.acl_posix.specs.declared.reading.PieceFault.{PieceFault}
use Rattle.acl_posix.specs.declared.reading.PieceFault.TheVariants.{Syntax, UnknownName}
use Rattle.acl_posix.specs.declared.reading.TagWord.{TagWord}
use Rattle.acl_posix.specs.declared.reading.TagWord.TheVariants as word
use Rattle.acl_posix.proofs.RoundTrip.{read_parts}
use Rattle.acl_posix.proofs.ShapeLemmas.{shape_of_read, read_of_shape, decimal_within}
use Rattle.acl_posix.proofs.StepFaults.{same_fault, fault_behind, other_fault, fault_before}

abbrev WithoutName : PieceFault → Type 0
WithoutName Syntax = Unit {0}
WithoutName UnknownName = ⊥

apart : Syntax ≢ UnknownName
apart e = subst WithoutName e tt

apart_back : UnknownName ≢ Syntax
apart_back e = apart (sym e)

-- ---- Syntax is the same whatever names are known

-- a look-up has no fault but that a name is unknown
found_is_shaped : (tag : ℕ → Tag) (found : Option ℕ) → (or_fault UnknownName found >>= (λ id. Ok (tag id))) ≢ Err Syntax
found_is_shaped tag found = λ e. other_fault UnknownName Syntax apart_back found (fault_before Syntax (or_fault UnknownName found) tag e)

qualified_misshapen : (tag : ℕ → Tag) (id_of other_of : List ℕ → Option ℕ) (text : List ℕ) → tag_with_id written_id tag id_of text ≡ Err Syntax → tag_with_id written_id tag other_of text ≡ Err Syntax
qualified_misshapen tag id_of other_of text =
    same_fault Syntax (or_fault Syntax (written_id text)) _ _ (λ w e. absurd (found_is_shaped tag (id_of_written id_of w) e))

tag_misshapen : (known other : Known) (w : TagWord) (qualifier : Option (List ℕ)) → tag_of known w qualifier ≡ Err Syntax → tag_of other w qualifier ≡ Err Syntax
tag_misshapen known other word.User None e = e
tag_misshapen known other word.User (Some []) e = cc
tag_misshapen known other word.User (Some (b ∷ bs)) e = qualified_misshapen (λ uid. User uid) (uid_of known) (uid_of other) (b ∷ bs) e
tag_misshapen known other word.Group None e = e
tag_misshapen known other word.Group (Some []) e = cc
tag_misshapen known other word.Group (Some (b ∷ bs)) e = qualified_misshapen (λ gid. Group gid) (gid_of known) (gid_of other) (b ∷ bs) e
tag_misshapen known other word.Mask None e = cc
tag_misshapen known other word.Mask (Some []) e = cc
tag_misshapen known other word.Mask (Some (b ∷ bs)) e = e
tag_misshapen known other word.Other None e = cc
tag_misshapen known other word.Other (Some []) e = cc
tag_misshapen known other word.Other (Some (b ∷ bs)) e = e

-- the steps of a piece, each with those after it
abbrev after_perms : Known → Fields → TagWord → ℕ → Result EntryValue PieceFault
after_perms known fields w perms = tag_of known w fields.qualifier >>= (λ t. Ok (record { tag = t; perms = perms }))

abbrev after_word : Known → Fields → TagWord → Result EntryValue PieceFault
after_word known fields w = or_fault Syntax (perms_of_text fields.perms) >>= after_perms known fields w

abbrev after_fields : Known → Fields → Result EntryValue PieceFault
after_fields known fields = or_fault Syntax (tag_word fields.tag) >>= after_word known fields

misshapen_anywhere : (known other : Known) (piece : List ℕ) → entry_of known piece ≡ Err Syntax → entry_of other piece ≡ Err Syntax
unfolding entry_by
misshapen_anywhere known other piece =
    same_fault Syntax (or_fault Syntax (fields_of piece)) (after_fields known) (after_fields other)
    (λ fields. same_fault Syntax (or_fault Syntax (tag_word fields.tag)) (after_word known fields) (after_word other fields)
    (λ w. same_fault Syntax (or_fault Syntax (perms_of_text fields.perms)) (after_perms known fields w) (after_perms other fields w)
    (λ perms e. let end : Tag → EntryValue = λ t. record { tag = t; perms = perms } in
    ap (λ r. r >>= (λ t. Ok (end t))) (tag_misshapen known other w fields.qualifier (fault_before Syntax (tag_of known w fields.qualifier) end e)))))

-- ---- a name that is unknown is known elsewhere

-- a directory of one user and one group, both of this name
abbrev pub knowing : List ℕ → List ℕ → Known
knowing domain name = record { domain = domain; users = record { name = name; uid = 0; groups = [] } ∷ []; groups = record { name = name; gid = 0 } ∷ [] }

pub knowing_faultless : (domain name : List ℕ) → has_domain_shape domain ≡ true → has_name_shape name ≡ true → fault_of (knowing domain name) ≡ None
knowing_faultless domain name domain_shaped shaped = rw (domain_shaped, shaped, (bytes_eq-Decides name name).1 refl) refl

pub knows_user : (domain name : List ℕ) → uid_of (knowing domain name) name ≡ Some 0
knows_user domain name = rw ((bytes_eq-Decides name name).1 refl) refl

pub knows_group : (domain name : List ℕ) → gid_of (knowing domain name) name ≡ Some 0
knows_group domain name = rw ((bytes_eq-Decides name name).1 refl) refl

-- what is written and isn't found is a name
pub unfound_name : (id_of : List ℕ → Option ℕ) (text : List ℕ) (w : Written) → written_id text ≡ Some w → id_of_written id_of w ≡ None
    → (has_name_shape text ≡ true) × (w ≡ Name text)
unfound_name id_of text w e lost = go (decimal_value text) refl e
  where
    go : (number : Option ℕ) → decimal_value text ≡ number → number_or_name number text ≡ Some w → (has_name_shape text ≡ true) × (w ≡ Name text)
    go (Some n) is e =
        let number : Number n ≡ w = cc in
        let none : cond (nat_le n MAX_ID) (Some n) None ≡ None = ap (id_of_written id_of) number ∙ lost in
        let some : cond (nat_le n MAX_ID) (Some n) None ≡ Some n = ap (λ b. cond b (Some n) None) (decimal_within text n is) in
        cc
    go None is e = let choice = cond_some (has_name_shape text) (Name text) w e in (choice.0, sym choice.1)

-- a qualifier whose name is unknown is one where the name is known
qualified_elsewhere : (tag : ℕ → Tag) (id_of other_of : List ℕ → Option ℕ) (text : List ℕ) → tag_with_id written_id tag id_of text ≡ Err UnknownName → other_of text ≡ Some 0
    → (has_name_shape text ≡ true) × (tag_with_id written_id tag other_of text ≡ Ok (tag 0))
qualified_elsewhere tag id_of other_of text e found =
    let written = fault_behind UnknownName (or_fault Syntax (written_id text)) _ (other_fault Syntax UnknownName apart (written_id text)) e in
    let is : written_id text ≡ Some written.0 = given Syntax (written_id text) written.0 written.1 in
    let lost = is_lost (id_of_written id_of written.0) (fault_before UnknownName (or_fault UnknownName (id_of_written id_of written.0)) tag written.2) in
    let name = unfound_name id_of text written.0 is lost in
    (name.0, rw (is, name.1, found) refl)
  where
    is_lost : (found : Option ℕ) → or_fault UnknownName found ≡ Err UnknownName → found ≡ None
    is_lost None e = refl
    is_lost (Some n) e = cc

-- the tag that a word and a qualifier say in a faultless directory
record SaysTag (w : TagWord) (qualifier : Option (List ℕ)) : Type 0 where
  pub known : Known
  pub faultless : fault_of known ≡ None
  pub tag : Tag
  pub said : tag_of known w qualifier ≡ Ok tag

tag_elsewhere : (known : Known) (w : TagWord) (qualifier : Option (List ℕ)) → tag_of known w qualifier ≡ Err UnknownName → SaysTag w qualifier
tag_elsewhere known word.User None e = cc
tag_elsewhere known word.User (Some []) e = cc
tag_elsewhere known word.User (Some (b ∷ bs)) e =
    let says = qualified_elsewhere (λ uid. User uid) (uid_of known) (uid_of (knowing (codes "a") (b ∷ bs))) (b ∷ bs) e (knows_user (codes "a") (b ∷ bs)) in
    record { known = knowing (codes "a") (b ∷ bs); faultless = knowing_faultless (codes "a") (b ∷ bs) refl says.0; tag = User 0; said = says.1 }
tag_elsewhere known word.Group None e = cc
tag_elsewhere known word.Group (Some []) e = cc
tag_elsewhere known word.Group (Some (b ∷ bs)) e =
    let says = qualified_elsewhere (λ gid. Group gid) (gid_of known) (gid_of (knowing (codes "a") (b ∷ bs))) (b ∷ bs) e (knows_group (codes "a") (b ∷ bs)) in
    record { known = knowing (codes "a") (b ∷ bs); faultless = knowing_faultless (codes "a") (b ∷ bs) refl says.0; tag = Group 0; said = says.1 }
tag_elsewhere known word.Mask None e = cc
tag_elsewhere known word.Mask (Some []) e = cc
tag_elsewhere known word.Mask (Some (b ∷ bs)) e = cc
tag_elsewhere known word.Other None e = cc
tag_elsewhere known word.Other (Some []) e = cc
tag_elsewhere known word.Other (Some (b ∷ bs)) e = cc

entry_elsewhere : (known : Known) (piece : List ℕ) → entry_of known piece ≡ Err UnknownName → (other : Known) × (fault_of other ≡ None) × IsEntry other piece
unfolding entry_by
entry_elsewhere known piece e =
    let fields = fault_behind UnknownName (or_fault Syntax (fields_of piece)) (after_fields known) (other_fault Syntax UnknownName apart (fields_of piece)) e in
    let word = fault_behind UnknownName (or_fault Syntax (tag_word fields.0.tag)) (after_word known fields.0) (other_fault Syntax UnknownName apart (tag_word fields.0.tag)) fields.2 in
    let perms = fault_behind UnknownName (or_fault Syntax (perms_of_text fields.0.perms))
    (after_perms known fields.0 word.0) (other_fault Syntax UnknownName apart
    (perms_of_text fields.0.perms)) word.2 in
    let end : Tag → EntryValue = λ t. record { tag = t; perms = perms.0 } in
    let says = tag_elsewhere known word.0 fields.0.qualifier (fault_before UnknownName (tag_of known word.0 fields.0.qualifier) end perms.2) in
    let cut = given Syntax (fields_of piece) fields.0 fields.1 in
    let named = given Syntax (tag_word fields.0.tag) word.0 word.1 in
    let allowed = given Syntax (perms_of_text fields.0.perms) perms.0 perms.1 in
    (says.known, says.faultless, (end says.tag, shape_of_read says.known piece (end says.tag) (read_parts (names_of says.known) piece fields.0 word.0 perms.0 says.tag cut named allowed says.said)))

-- ---- the laws

no_entry : (known : Known) (piece : List ℕ) (fault : PieceFault) → entry_of known piece ≡ Err fault → ¬ IsEntry known piece
no_entry known piece fault e (entry, shape) = let read : entry_of known piece ≡ Ok entry = read_of_shape known piece entry shape in cc

-- what is no entry has one of the faults
by_fault : (known : Known) (piece : List ℕ) → ¬ IsEntry known piece → (fault : PieceFault) × (entry_of known piece ≡ Err fault)
by_fault known piece none = go (entry_of known piece) refl
  where
    go : (r : Result EntryValue PieceFault) → entry_of known piece ≡ r → (fault : PieceFault) × (entry_of known piece ≡ Err fault)
    go (Ok entry) e = absurd (none (entry, shape_of_read known piece entry e))
    go (Err fault) e = (fault, e)

pub unknown_name : (known : Known) (piece : List ℕ) → (entry_of known piece ≡ Err UnknownName) ↔ HasUnknownName known piece
unknown_name known piece = (λ e. (no_entry known piece UnknownName e, entry_elsewhere known piece e), back)
  where
    of_fault : (fault : PieceFault) → entry_of known piece ≡ Err fault → (other : Known) × (fault_of other ≡ None) × IsEntry other piece → entry_of known piece ≡ Err UnknownName
    of_fault UnknownName e elsewhere = e
    of_fault Syntax e (other, faultless, entry) = absurd (no_entry other piece Syntax (misshapen_anywhere known other piece e) entry)

    back : HasUnknownName known piece → entry_of known piece ≡ Err UnknownName
    back (none, elsewhere) = let fault = by_fault known piece none in of_fault fault.0 fault.1 elsewhere

pub no_shape : (known : Known) (piece : List ℕ) → (entry_of known piece ≡ Err Syntax) ↔ HasNoShape piece
no_shape known piece = (λ e other. no_entry other piece Syntax (misshapen_anywhere known other piece e), back)
  where
    of_fault : (fault : PieceFault) → entry_of known piece ≡ Err fault → HasNoShape piece → entry_of known piece ≡ Err Syntax
    of_fault Syntax e none = e
    of_fault UnknownName e none = let elsewhere = entry_elsewhere known piece e in absurd (none elsewhere.0 elsewhere.2)

    back : HasNoShape piece → entry_of known piece ≡ Err Syntax
    back none = let fault = by_fault known piece (none known) in of_fault fault.0 fault.1 none
