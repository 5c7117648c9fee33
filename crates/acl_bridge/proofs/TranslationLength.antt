-- How many entries a translation has.
use Rattle.std.proofs.Common.{◌≡◌, ℕ, ◌+◌, ◌*◌, ◌≤◌, Bool, true, false, cond, ◌==◌, refl, List, [], ◌∷◌, length, length-append, arith, inl, inr, flat_map}
use Rattle.std.proofs.lemmas.Bool.{cases_Bool, or_parts}
use Rattle.std.proofs.lemmas.List.Concat.{length-flat_map}
use Rattle.acl_names.proofs.Counting.{count_by-cons}
use Rattle.acl_posix.specs.Access.{effective_perms}
use Rattle.acl_posix.specs.Canonical.{IsAcl}
use Rattle.acl_posix.specs.Entry.{EntryValue, same_tag, is_named}
use Rattle.acl_posix.specs.Validity.{count_of, names_someone}
use Rattle.acl_posix.specs.declared.entry.Tag.{Tag}
use Rattle.acl_posix.specs.declared.entry.Tag.TheVariants.{UserObj, User, GroupObj, Group, Mask, Other}
use Rattle.acl_nfs4.specs.Ace.{Nfsace4, plain_ace, unless_empty}
use Rattle.acl_nfs4.specs.Mask.{mask_of, rest_of}
use Rattle.acl_nfs4.specs.Who.{who_of}
use Rattle.acl_nfs4.specs.declared.ace.AceType.{AceType}
use Rattle.acl_nfs4.specs.declared.ace.AceType.TheVariants.{Allow, Deny}
use Rattle.acl_nfs4.specs.declared.who.Who.{Who}
use Rattle.acl_bridge.specs.Translation.{is_in, in_class, aces_for, aces_of_entry, aces_of_pass, passes, translation}
use Rattle.acl_bridge.specs.declared.passes.Class.{Class}
use Rattle.acl_bridge.specs.declared.passes.Class.TheVariants.{Owner, Users, Groups, Others}
use Rattle.acl_bridge.specs.declared.passes.Part.{Part}
use Rattle.acl_bridge.specs.declared.passes.Part.TheVariants.{Allowed, Denied, Settled}
use Rattle.acl_bridge.specs.TranslationLaws.{most_translated}

-- ---- how many entries are made of how many

length-unless_empty : (ace : Nfsace4) → length (unless_empty ace) ≤ 1
unfolding unless_empty
length-unless_empty ace = elim (ace.mask == 0) as (λ b. length (cond b [] (ace ∷ [])) ≤ 1) [ true ↦ omega arith | false ↦ omega arith ]

pub length-plain : (kind : AceType) (who : Who) (mask : ℕ) → length (plain_ace kind who mask) ≤ 1
length-plain kind who mask = length-unless_empty _

length-flat_map-most : {X Y : Type 0} (most : ℕ) (f : X → List Y) → ((x : X) → length (f x) ≤ most) → (xs : List X)
    → length (flat_map f xs) ≤ most * length xs
length-flat_map-most most f each [] = omega arith
length-flat_map-most most f each (x ∷ xs) =
    omega (arith, length-append (f x) (flat_map f xs), each x, length-flat_map-most most f each xs)

-- how many entries a pass makes of one at most
abbrev most_of : Part → ℕ
most_of Settled = 2
most_of _ = 1

length-made_for : (part : Part) (who : Who) (perms : ℕ) → length (aces_for part who perms) ≤ most_of part
length-made_for Allowed who perms = length-plain Allow who (mask_of perms)
length-made_for Denied who perms = length-plain Deny who (rest_of perms)
length-made_for Settled who perms =
    let both = length-append (plain_ace Allow who (mask_of perms)) (plain_ace Deny who (rest_of perms)) in
    let allowed = length-plain Allow who (mask_of perms) in
    let denied = length-plain Deny who (rest_of perms) in
    omega arith

length-pass : (class : Class) (part : Part) (acl : List EntryValue)
    → length (aces_of_pass (class, part) acl) ≤ most_of part * length (in_class class acl)
length-pass class part acl =
    length-flat_map-most (most_of part) (aces_of_entry part acl) (λ entry. length-made_for part (who_of entry.tag) (effective_perms acl entry))
    (in_class class acl)

-- two of each entry at most but of the mask and the others'
length-translation : (acl : List EntryValue)
    → length (translation acl)
    ≤ 2 * length (in_class Owner acl) + 2 * length (in_class Users acl) + 2 * length (in_class Groups acl) + length (in_class Others acl)
length-translation acl =
    let whole = length-flat_map (λ (pass : Class × Part). aces_of_pass pass acl) passes in
    let owners = length-pass Owner Settled acl in
    let users = length-pass Users Settled acl in
    let allowed = length-pass Groups Allowed acl in
    let denied = length-pass Groups Denied acl in
    let others = length-pass Others Allowed acl in
    omega arith

-- ---- how many entries a list has of each class

-- how many entries of each class an entry with this tag is
abbrev one_if : Bool → ℕ
one_if b = cond b 1 0

length-in_class : (class : Class) (entry : EntryValue) (acl : List EntryValue)
    → length (in_class class (entry ∷ acl)) ≡ one_if (is_in class entry.tag) + length (in_class class acl)
length-in_class class entry acl =
    elim (is_in class entry.tag)
    as (λ b. length (cond b (entry ∷ in_class class acl) (in_class class acl)) ≡ one_if b + length (in_class class acl))
    [ true ↦ omega arith | false ↦ omega arith ]

-- how many there are of each kind
record Kinds (acl : List EntryValue) : Type 0 where
  pub all : length (in_class Owner acl) + length (in_class Users acl) + length (in_class Groups acl)
      + count_of Mask acl + length (in_class Others acl) ≡ length acl
  pub owners : length (in_class Owner acl) ≡ count_of UserObj acl
  pub others : length (in_class Others acl) ≡ count_of Other acl
  pub unnamed : names_someone acl ≡ false
      → length (in_class Users acl) + length (in_class Groups acl) ≡ count_of GroupObj acl

record OneKind (tag : Tag) : Type 0 where
  pub all : one_if (is_in Owner tag) + one_if (is_in Users tag) + one_if (is_in Groups tag) + one_if (same_tag tag Mask)
      + one_if (is_in Others tag) ≡ 1
  pub owners : one_if (is_in Owner tag) ≡ one_if (same_tag tag UserObj)
  pub others : one_if (is_in Others tag) ≡ one_if (same_tag tag Other)
  pub unnamed : is_named tag ≡ false → one_if (is_in Users tag) + one_if (is_in Groups tag) ≡ one_if (same_tag tag GroupObj)

one_kind : (tag : Tag) → OneKind tag
one_kind UserObj = record { all = refl; owners = refl; others = refl; unnamed = λ no. refl }
one_kind (User uid) = record { all = refl; owners = refl; others = refl; unnamed = λ no. absurd (cc) }
one_kind GroupObj = record { all = refl; owners = refl; others = refl; unnamed = λ no. refl }
one_kind (Group gid) = record { all = refl; owners = refl; others = refl; unnamed = λ no. absurd (cc) }
one_kind Mask = record { all = refl; owners = refl; others = refl; unnamed = λ no. refl }
one_kind Other = record { all = refl; owners = refl; others = refl; unnamed = λ no. refl }

kinds : (acl : List EntryValue) → Kinds acl
kinds [] = record { all = refl; owners = refl; others = refl; unnamed = λ no. refl }
kinds (entry ∷ acl) =
    let rest = kinds acl in
    let one = one_kind entry.tag in
    let owners = length-in_class Owner entry acl in
    let users = length-in_class Users entry acl in
    let groups = length-in_class Groups entry acl in
    let others = length-in_class Others entry acl in
    let masks : count_of Mask (entry ∷ acl) ≡ one_if (same_tag entry.tag Mask) + count_of Mask acl =
    count_by-cons (λ (e : EntryValue). same_tag e.tag Mask) entry acl in
    let user_obj : count_of UserObj (entry ∷ acl) ≡ one_if (same_tag entry.tag UserObj) + count_of UserObj acl =
    count_by-cons (λ (e : EntryValue). same_tag e.tag UserObj) entry acl in
    let group_obj : count_of GroupObj (entry ∷ acl) ≡ one_if (same_tag entry.tag GroupObj) + count_of GroupObj acl =
    count_by-cons (λ (e : EntryValue). same_tag e.tag GroupObj) entry acl in
    let other : count_of Other (entry ∷ acl) ≡ one_if (same_tag entry.tag Other) + count_of Other acl =
    count_by-cons (λ (e : EntryValue). same_tag e.tag Other) entry acl in
    record {
      all = let now = one.all in let before = rest.all in omega arith;
      owners = let now = one.owners in let before = rest.owners in omega arith;
      others = let now = one.others in let before = rest.others in omega arith;
      unnamed = λ none.
          let neither = or_parts (is_named entry.tag) (names_someone acl) none in
          let now = one.unnamed neither.0 in
          let before = rest.unnamed neither.1 in
          omega arith;
    }

-- a list has at most 62 entries beside the mask and the others', or there is no mask, and it has three
pub short_translation : (acl : List EntryValue) → IsAcl acl → length (translation acl) ≤ most_translated
short_translation acl is =
    let made = length-translation acl in
    let has = kinds acl in
    let all = has.all in
    let owners = has.owners in
    let others = has.others in
    let within = is.within in
    let one_owner = is.valid.user_obj in
    let one_group = is.valid.group_obj in
    let one_other = is.valid.other in
    elim (cases_Bool (names_someone acl)) [
      | inl named ↦ let mask = is.valid.masked named in omega arith
      | inr none ↦ let unnamed = has.unnamed none in omega arith
    ]

-- two of each entry at most
pub doubled-translation : (acl : List EntryValue) → length (translation acl) ≤ 2 * length acl
doubled-translation acl =
    let made = length-translation acl in
    let all = (kinds acl).all in
    omega arith
