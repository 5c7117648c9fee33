-- The translation's verdict on a bit of the mode, class by class.
use Rattle.std.proofs.Common.{◌≡◌, ℕ, ◌≤◌, Bool, true, false, cond, not, ◌&&◌, ◌||◌, refl, sym, ap, ◌∙◌, List, [], ◌∷◌, Option, Some, None, length, arith, ap₂, map, drop, unwrap_or, flat_map}
use Rattle.std.specs.List.{filter, list_any}
use Rattle.std.proofs.Math.Bool.{or-false}
use Rattle.acl_names.specs.Bits.{has}
use Rattle.acl_names.proofs.AnyLemmas.{list_any-filter}
use Rattle.acl_posix.specs.Access.{effective_perms, first_nonempty}
use Rattle.acl_posix.specs.Entry.{EntryValue}
use Rattle.acl_nfs4.specs.Mask.{mode_bits, mask_of, rest_of}
use Rattle.acl_nfs4.specs.Evaluation.{verdict, allows}
use Rattle.acl_nfs4.specs.Who.{who_of}
use Rattle.acl_nfs4.specs.declared.who.Who.{Who}
use Rattle.acl_nfs4.proofs.MaskOfModes.{permission_of, has-mask_of, has-rest_of}
use Rattle.acl_nfs4.proofs.EvaluationLemmas.{or_else, verdict-append, verdict-allow, verdict-deny}
use Rattle.acl_bridge.specs.Translation.{in_class, aces_of_entry, aces_of_pass, passes, translation}
use Rattle.acl_bridge.specs.declared.passes.Class.{Class}
use Rattle.acl_bridge.specs.declared.passes.Class.TheVariants.{Owner, Users, Groups, Others}
use Rattle.acl_bridge.specs.declared.passes.Part.{Part}
use Rattle.acl_bridge.specs.declared.passes.Part.TheVariants.{Allowed, Denied, Settled}

-- what those to whom the entries apply are reported, if there are any
abbrev said_by : {X : Type 0} → (X → Bool) → List X → Option Bool
said_by h [] = None
said_by h (x ∷ xs) = Some (list_any h (x ∷ xs))

-- if all that allow stand before all that deny, one that allows decides
all_said : {X : Type 0} (h : X → Bool) (xs : List X)
    → or_else (cond (list_any h xs) (Some true) None) (cond (list_any (λ x. not (h x)) xs) (Some false) None) ≡ said_by h xs
all_said h [] = refl
all_said {X} h (x ∷ xs) =
    elim (h x)
    as (λ b. or_else (cond (b || list_any h xs) (Some true) None) (cond (not b || list_any (λ (x : X). not (h x)) xs) (Some false) None)
    ≡ Some (b || list_any h xs)) [
      | true ↦ refl
      | false ↦ elim (list_any h xs) as (λ b. or_else (cond b (Some true) None) (Some false) ≡ Some b) [ true ↦ refl | false ↦ refl ]
    ]

or_else_assoc : {A : Type 0} (a b c : Option A) → or_else (or_else a b) c ≡ or_else a (or_else b c)
or_else_assoc None b c = refl
or_else_assoc (Some a) b c = refl

-- ---- the classes

-- the entries of a class to which the translation's apply
abbrev pub matching : (Who → Bool) → List EntryValue → Class → List EntryValue
matching applies acl class = filter (λ entry. applies (who_of entry.tag)) (in_class class acl)

-- whether a class has one entry at most for those to whom the translation's entries apply
abbrev pub FewFor : List EntryValue → (Who → Bool) → Class → Type 0
FewFor acl applies class = length (matching applies acl class) ≤ 1

-- those of the first class that has any decide
abbrev pub deciding : (Who → Bool) → List EntryValue → List EntryValue
deciding applies acl = first_nonempty (map (matching applies acl) (Owner ∷ Users ∷ Groups ∷ Others ∷ []))

module _ (acl : List EntryValue) (applies : Who → Bool) (bit : ℕ) (of_mode : has mode_bits bit ≡ true) where
  abbrev pub is_for : EntryValue → Bool
  is_for entry = applies (who_of entry.tag)

  abbrev pub has_permission : EntryValue → Bool
  has_permission entry = has (effective_perms acl entry) (permission_of bit)

  verdict-allowed : (entry : EntryValue)
      → verdict applies bit (aces_of_entry Allowed acl entry) ≡ cond (is_for entry && has_permission entry) (Some true) None
  verdict-allowed entry =
      verdict-allow applies bit (who_of entry.tag) (mask_of (effective_perms acl entry))
      ∙ ap (λ b. cond (is_for entry && b) (Some true) None) (has-mask_of (effective_perms acl entry) bit of_mode)

  verdict-denied : (entry : EntryValue)
      → verdict applies bit (aces_of_entry Denied acl entry) ≡ cond (is_for entry && not (has_permission entry)) (Some false) None
  verdict-denied entry =
      verdict-deny applies bit (who_of entry.tag) (rest_of (effective_perms acl entry))
      ∙ ap (λ b. cond (is_for entry && b) (Some false) None) (has-rest_of (effective_perms acl entry) bit of_mode)

  allow_then_deny : (t h : Bool) → or_else (cond (t && h) (Some true) None) (cond (t && not h) (Some false) None) ≡ cond t (Some h) None
  allow_then_deny true true = refl
  allow_then_deny true false = refl
  allow_then_deny false h = refl

  verdict-settled : (entry : EntryValue) → verdict applies bit (aces_of_entry Settled acl entry) ≡ cond (is_for entry) (Some (has_permission entry)) None
  verdict-settled entry =
      verdict-append applies bit (aces_of_entry Allowed acl entry) (aces_of_entry Denied acl entry)
      ∙ ap₂ or_else (verdict-allowed entry) (verdict-denied entry)
      ∙ allow_then_deny (is_for entry) (has_permission entry)

  -- what is said of the entries of a class: the first of the answers on each
  verdict-first : (part : Part) (entry : EntryValue) (entries : List EntryValue) (here after : Option Bool)
      → verdict applies bit (aces_of_entry part acl entry) ≡ here → verdict applies bit (flat_map (aces_of_entry part acl) entries) ≡ after
      → verdict applies bit (flat_map (aces_of_entry part acl) (entry ∷ entries)) ≡ or_else here after
  verdict-first part entry entries here after is rest =
      verdict-append applies bit (aces_of_entry part acl entry) (flat_map (aces_of_entry part acl) entries) ∙ ap₂ or_else is rest

  -- if at most one entry is for the requester, it decides
  settled : (entries : List EntryValue) → length (filter is_for entries) ≤ 1
      → verdict applies bit (flat_map (aces_of_entry Settled acl) entries) ≡ said_by has_permission (filter is_for entries)
  settled [] few = refl
  settled (entry ∷ entries) few =
      verdict-first Settled entry entries _ _ (verdict-settled entry) refl ∙ go (is_for entry) few (settled entries)
    where
      alone : (others : List EntryValue) → length (entry ∷ others) ≤ 1 → Some (has_permission entry) ≡ said_by has_permission (entry ∷ others)
      alone [] few = ap Some (sym (or-false (has_permission entry)))
      alone (other ∷ others) few = absurd (omega arith)

      go : (b : Bool) → length (cond b (entry ∷ filter is_for entries) (filter is_for entries)) ≤ 1
          → (length (filter is_for entries) ≤ 1
          → verdict applies bit (flat_map (aces_of_entry Settled acl) entries) ≡ said_by has_permission (filter is_for entries))
          → or_else (cond b (Some (has_permission entry)) None) (verdict applies bit (flat_map (aces_of_entry Settled acl) entries))
          ≡ said_by has_permission (cond b (entry ∷ filter is_for entries) (filter is_for entries))
      go true few rest = alone (filter is_for entries) few
      go false few rest = rest few

  or_else-cond : (answer a b : Bool) → or_else (cond a (Some answer) None) (cond b (Some answer) None) ≡ cond (a || b) (Some answer) None
  or_else-cond answer true b = refl
  or_else-cond answer false b = refl

  -- if all entries of a class give one answer or none, it is given if one of them gives it
  joined : (part : Part) (answer : Bool) (says : EntryValue → Bool)
      → ((entry : EntryValue) → verdict applies bit (aces_of_entry part acl entry) ≡ cond (is_for entry && says entry) (Some answer) None)
      → (entries : List EntryValue)
      → verdict applies bit (flat_map (aces_of_entry part acl) entries) ≡ cond (list_any says (filter is_for entries)) (Some answer) None
  joined part answer says each entries = go entries ∙ ap (λ b. cond b (Some answer) None) (list_any-filter is_for says entries)
    where
      go : (entries : List EntryValue)
          → verdict applies bit (flat_map (aces_of_entry part acl) entries)
          ≡ cond (list_any (λ entry. is_for entry && says entry) entries) (Some answer) None
      go [] = refl
      go (entry ∷ entries) = verdict-first part entry entries _ _ (each entry) (go entries) ∙ or_else-cond answer _ _

  -- one class after another: those that follow are asked if the class has no entry for the requester
  next_class : (v rest : Option Bool) (matching : List EntryValue) (others : List (List EntryValue))
      → v ≡ said_by has_permission matching → unwrap_or rest false ≡ list_any has_permission (first_nonempty others)
      → unwrap_or (or_else v rest) false ≡ list_any has_permission (first_nonempty (matching ∷ others))
  next_class v rest [] others here after = ap (λ v. unwrap_or (or_else v rest) false) here ∙ after
  next_class v rest (entry ∷ entries) others here after = ap (λ v. unwrap_or (or_else v rest) false) here

  last_class : (matching : List EntryValue)
      → unwrap_or (or_else (cond (list_any has_permission matching) (Some true) None) None) false
      ≡ list_any has_permission (first_nonempty (matching ∷ []))
  last_class [] = refl
  last_class (entry ∷ entries) =
      elim (list_any has_permission (entry ∷ entries)) as (λ b. unwrap_or (or_else (cond b (Some true) None) None) false ≡ b)
      [ true ↦ refl | false ↦ refl ]

  -- a pass, and then those that follow
  one_pass : (pass : Class × Part) (more : List (Class × Part))
      → verdict applies bit (flat_map (λ p. aces_of_pass p acl) (pass ∷ more))
      ≡ or_else (verdict applies bit (aces_of_pass pass acl)) (verdict applies bit (flat_map (λ p. aces_of_pass p acl) more))
  one_pass pass more = verdict-append applies bit (aces_of_pass pass acl) (flat_map (λ p. aces_of_pass p acl) more)

  -- the translation allows a bit if a deciding entry has its permission
  pub allows-translation : FewFor acl applies Owner → FewFor acl applies Users
      → allows applies bit (translation acl) ≡ list_any has_permission (deciding applies acl)
  allows-translation few_owners few_users =
      ap (λ v. unwrap_or v false) by_class
      ∙ next_class _ _ _ _ (settled (in_class Owner acl) few_owners)
      (next_class _ _ _ _ (settled (in_class Users acl) few_users)
      (next_class _ _ _ _ (all_said has_permission (matching applies acl Groups))
      (last_class (matching applies acl Others))))
    where
      says : Class → Part → Option Bool
      says class part = verdict applies bit (aces_of_pass (class, part) acl)

      some_allow : Option Bool
      some_allow = cond (list_any has_permission (matching applies acl Groups)) (Some true) None

      some_deny : Option Bool
      some_deny = cond (list_any (λ entry. not (has_permission entry)) (matching applies acl Groups)) (Some false) None

      others_allow : Option Bool
      others_allow = cond (list_any has_permission (matching applies acl Others)) (Some true) None

      by_class : verdict applies bit (translation acl)
          ≡ or_else (says Owner Settled) (or_else (says Users Settled) (or_else (or_else some_allow some_deny) (or_else others_allow None)))
      by_class =
          one_pass (Owner, Settled) (drop 1 passes)
          ∙ ap (or_else (says Owner Settled))
          (one_pass (Users, Settled) (drop 2 passes)
          ∙ ap (or_else (says Users Settled))
          (one_pass (Groups, Allowed) (drop 3 passes)
          ∙ ap₂ or_else (joined Allowed true has_permission verdict-allowed (in_class Groups acl))
          (one_pass (Groups, Denied) (drop 4 passes)
          ∙ ap₂ or_else (joined Denied false (λ entry. not (has_permission entry)) verdict-denied (in_class Groups acl))
          (one_pass (Others, Allowed) []
          ∙ ap (λ v. or_else v None) (joined Allowed true has_permission verdict-allowed (in_class Others acl))))
          ∙ sym (or_else_assoc some_allow some_deny (or_else others_allow None))))
