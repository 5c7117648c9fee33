-- A change of permissions alone leaves an access control list one.
use Rattle.std.proofs.Common.{◌≡◌, ◌∙◌, ℕ, ◌+◌, ◌<◌, Bool, true, false, cond, ◌||◌, List, [], ◌∷◌, map, length, Option, Some, None, IfSome, unwrap_or, refl, sym, ap, arith}
use Rattle.std.specs.List.{list_any}
use Rattle.std.proofs.lemmas.List.{get_or-map, length-map}
use Rattle.std.proofs.lemmas.List.Elements.{All-map, All-weaker}
use Rattle.std.proofs.lemmas.List.Folds.{fold-map}
use Rattle.std.proofs.lemmas.Nat.{and_le_l}
use Rattle.acl_posix.specs.declared.entry.Tag.{Tag}
use Rattle.acl_posix.specs.declared.entry.Tag.TheVariants.{UserObj, User, GroupObj, Group, Mask, Other}
use Rattle.acl_posix.specs.Entry.{EntryValue, same_tag, is_named}
use Rattle.acl_posix.specs.Perms.{IsPermissions}
use Rattle.acl_posix.specs.Validity.{count_of}
use Rattle.acl_posix.specs.Canonical.{IsAcl}
use Rattle.acl_posix.specs.Access.{under_mask}
use Rattle.acl_posix.specs.Mode.{Classes, AreClasses, mode_perms, chmod, at_creation, group_class_tag}

list_any-map : {X Y : Type 0} (p : X → Bool) (f : Y → X) (ys : List Y) → list_any p (map f ys) ≡ list_any (λ y. p (f y)) ys
list_any-map p f [] = refl
list_any-map p f (y ∷ ys) = ap (λ b. p (f y) || b) (list_any-map p f ys)

module _ (perms : EntryValue → ℕ) where
  -- an entry with other permissions
  abbrev changed : EntryValue → EntryValue
  changed entry = record { tag = entry.tag; perms = perms entry }

  count_of-changed : (tag : Tag) (acl : List EntryValue) → count_of tag (map changed acl) ≡ count_of tag acl
  count_of-changed tag acl = fold-map (λ a entry. a + cond (same_tag entry.tag tag) 1 0) changed 0 acl

  pub IsAcl-changed : ((entry : EntryValue) → IsPermissions entry.perms → IsPermissions (perms entry)) → (acl : List EntryValue) → IsAcl acl → IsAcl (map changed acl)
  IsAcl-changed known acl is = record {
    valid = record {
      user_obj = count_of-changed UserObj acl ∙ is.valid.user_obj;
      group_obj = count_of-changed GroupObj acl ∙ is.valid.group_obj;
      other = count_of-changed Other acl ∙ is.valid.other;
      mask = rw (count_of-changed Mask acl) is.valid.mask;
      users = λ uid. rw (count_of-changed (User uid) acl) (is.valid.users uid);
      groups = λ gid. rw (count_of-changed (Group gid) acl) (is.valid.groups gid);
      masked = λ named. count_of-changed Mask acl ∙ is.valid.masked (sym (list_any-map (λ entry. is_named entry.tag) changed acl) ∙ named);
    };
    canonical = λ i j d before inside.
        let n = length-map acl changed in
        let second : j < length acl = omega arith in
        let first : i < length acl = omega arith in
        rw (get_or-map changed acl i d d first, get_or-map changed acl j d d second) (is.canonical i j d before second);
    permissions = All-map (λ (e : EntryValue). IsPermissions e.perms) changed acl
        (All-weaker (λ (e : EntryValue). IsPermissions e.perms) (λ (e : EntryValue). IsPermissions (perms e)) known acl is.permissions);
    within = rw (length-map acl changed) is.within;
  }

chosen : (b : Bool) (perms : ℕ) → IsPermissions perms → IfSome (cond b (Some perms) None) IsPermissions
chosen true perms is = is
chosen false perms is = tt

-- what a mode says of an entry is known permissions
mode_perms-IsPermissions : (group_class : Tag) (mode : Classes) → AreClasses mode → (tag : Tag)
    → IfSome (mode_perms group_class mode tag) IsPermissions
mode_perms-IsPermissions group_class mode are UserObj = are.user_is
mode_perms-IsPermissions group_class mode are Other = are.other_is
mode_perms-IsPermissions group_class mode are (User uid) = chosen (same_tag (User uid) group_class) mode.group are.group_is
mode_perms-IsPermissions group_class mode are GroupObj = chosen (same_tag GroupObj group_class) mode.group are.group_is
mode_perms-IsPermissions group_class mode are (Group gid) = chosen (same_tag (Group gid) group_class) mode.group are.group_is
mode_perms-IsPermissions group_class mode are Mask = chosen (same_tag Mask group_class) mode.group are.group_is

IsPermissions-unwrap_or : (said : Option ℕ) (perms : ℕ) → IfSome said IsPermissions → IsPermissions perms → IsPermissions (unwrap_or said perms)
IsPermissions-unwrap_or None perms known is = is
IsPermissions-unwrap_or (Some other) perms known is = known

IsPermissions-masked : (said : Option ℕ) (perms : ℕ) → IsPermissions perms → IsPermissions (under_mask said perms)
IsPermissions-masked None perms is = is
IsPermissions-masked (Some mask) perms is = let small = and_le_l perms mask in omega arith

pub IsAcl-chmod : (acl : List EntryValue) (mode : Classes) → AreClasses mode → IsAcl acl → IsAcl (chmod acl mode)
IsAcl-chmod acl mode are is =
    let said = λ (entry : EntryValue). mode_perms (group_class_tag acl) mode entry.tag in
    IsAcl-changed (λ (entry : EntryValue). unwrap_or (said entry) entry.perms)
    (λ entry known. IsPermissions-unwrap_or (said entry) entry.perms (mode_perms-IsPermissions (group_class_tag acl) mode are entry.tag) known)
    acl is

pub IsAcl-at_creation : (acl : List EntryValue) (mode : Classes) → IsAcl acl → IsAcl (at_creation acl mode)
IsAcl-at_creation acl mode is =
    let said = λ (entry : EntryValue). mode_perms (group_class_tag acl) mode entry.tag in
    IsAcl-changed (λ (entry : EntryValue). under_mask (said entry) entry.perms)
    (λ entry known. IsPermissions-masked (said entry) entry.perms known)
    acl is
