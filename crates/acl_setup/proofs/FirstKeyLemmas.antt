-- Of a table that says no setup the first key is reported that is at fault.
use Rattle.std.proofs.Common.{◌≡◌, ◌∙◌, ◌+◌, ◌++◌, ℕ, Bool, cond, List, [], ◌∷◌, Option, Some, None, Result, Ok, Err, ap, arith, codes, refl, sym}
use Rattle.std.specs.Prelude.{is_none, option_and_then, suc}
use Rattle.std.specs.List.{find}
use Rattle.std.specs.Option.{option_or}
use Rattle.std.proofs.lemmas.List.Folds.{find-append}
use Rattle.toml.specs.Data.{Data, Items, Members, as_array, as_table, get_item, get_member, item, no_items}
use Rattle.acl_names.specs.Steps.{◌>>=◌, or_fault}
use Rattle.acl_setup.specs.Readings.{each_item, items_at, items_of}
use Rattle.acl_setup.specs.Setup.{group_in, root_in, setup_in, user_in}
use Rattle.acl_setup.specs.SetupLaws.{ReportsTheKey, array_keys, group_keys, is_at_fault, is_other, item_in, item_keys, items_in, key_reported, lacks, table_in, user_keys}
use Rattle.acl_setup.specs.SetupTable.{id_at, mode_at, style_at, table_at, text_at, texts_at}
use Rattle.acl_setup.specs.declared.key.Key.{Key}
use Rattle.acl_setup.specs.declared.key.Key.TheVariants as at

module _ (test : Key → Bool) where
  -- the reading reports the first of the keys that is at fault
  abbrev ReportsFirst : {A : Type 0} → Result A Key → List Key → Type 0
  ReportsFirst reading keys = key_reported reading ≡ find test keys

  reports_one : {A : Type 0} (key : Key) (value : Option A) → test key ≡ is_none value → ReportsFirst (or_fault key value) (key ∷ [])
  reports_one {A = A} key value is = go value (test key) refl is
    where
      go : (value : Option A) (fault : Bool) → test key ≡ fault → fault ≡ is_none value → key_reported (or_fault key value) ≡ cond (test key) (Some key) None
      go None fault same is = sym (ap (λ (fault : Bool). cond fault (Some key) None) (same ∙ is))
      go (Some value) fault same is = sym (ap (λ (fault : Bool). cond fault (Some key) None) (same ∙ is))

  -- of what is read in turn
  reports_both : {A B : Type 0} (first second : List Key) (reading : Result A Key) (next : A → Result B Key) → ReportsFirst reading first
      → ((value : A) → reading ≡ Ok value → ReportsFirst (next value) second) → ReportsFirst (reading >>= next) (first ++ second)
  reports_both first second (Err key) next here later = ap (λ (found : Option Key). option_or found (find test second)) here ∙ sym (find-append test first second)
  reports_both first second (Ok value) next here later =
      later value refl ∙ ap (λ (found : Option Key). option_or found (find test second)) here ∙ sym (find-append test first second)

  -- and of what something is made of
  reports_made : {A B : Type 0} (keys : List Key) (reading : Result A Key) (made : A → B) → ReportsFirst reading keys → ReportsFirst (reading >>= (λ value. Ok (made value))) keys
  reports_made keys (Err key) made is = is
  reports_made keys (Ok value) made is = is

-- what was read
read : {A : Type 0} (key : Key) (value : Option A) (it : A) → or_fault key value ≡ Ok it → value ≡ Some it
read key None it is = cc
read key (Some value) it is = cc

module _ (table : Members) where
  abbrev Reports : {A : Type 0} → Result A Key → List Key → Type 0
  Reports reading keys = key_reported reading ≡ find (is_at_fault table) keys

  reports_root : Reports (or_fault at.Root (table_at (codes "root") table) >>= root_in) (at.Root ∷ at.RootOwner ∷ at.RootGroup ∷ at.RootMode ∷ at.RootStyle ∷ [])
  unfolding root_in
  reports_root =
      let test = is_at_fault table in
      let found = table_at (codes "root") table in
      reports_both test (at.Root ∷ []) (at.RootOwner ∷ at.RootGroup ∷ at.RootMode ∷ at.RootStyle ∷ []) (or_fault at.Root found) _ (reports_one test at.Root found refl) (λ root is.
      let there : found ≡ Some root = read at.Root found root is in
      reports_both test (at.RootOwner ∷ []) (at.RootGroup ∷ at.RootMode ∷ at.RootStyle ∷ []) (or_fault at.RootOwner (text_at (codes "owner") root)) _
      (reports_one test at.RootOwner (text_at (codes "owner") root) (ap (lacks (text_at (codes "owner"))) there)) (λ owner _.
      reports_both test (at.RootGroup ∷ []) (at.RootMode ∷ at.RootStyle ∷ []) (or_fault at.RootGroup (text_at (codes "group") root)) _
      (reports_one test at.RootGroup (text_at (codes "group") root) (ap (lacks (text_at (codes "group"))) there)) (λ group _.
      reports_both test (at.RootMode ∷ []) (at.RootStyle ∷ []) (or_fault at.RootMode (mode_at (codes "mode") root)) _
      (reports_one test at.RootMode (mode_at (codes "mode") root) (ap (lacks (mode_at (codes "mode"))) there)) (λ mode _.
      reports_made test (at.RootStyle ∷ []) (or_fault at.RootStyle (style_at (codes "style") root)) _
      (reports_one test at.RootStyle (style_at (codes "style") root) (ap (lacks (style_at (codes "style"))) there))))))

  -- a table of an array
  inside : (name : List ℕ) (index : ℕ) (value : Data) (it : Members) → item_in name index table ≡ Some value → as_table value ≡ Some it → table_in name index table ≡ Some it
  inside name index value it there is = ap (λ (value : Option Data). option_and_then as_table value) there ∙ is

  reports_user : (index : ℕ) (value : Data) → item_in (codes "user") index table ≡ Some value → Reports (user_in index value) (user_keys index)
  unfolding user_in
  reports_user index value there =
      let test = is_at_fault table in
      reports_both test (at.User index ∷ []) (at.UserName index ∷ at.UserUid index ∷ at.UserGroups index ∷ []) (or_fault (at.User index) (as_table value)) _
      (reports_one test (at.User index) (as_table value) (ap (is_other as_table) there)) (λ user is.
      let within = inside (codes "user") index value user there (read (at.User index) (as_table value) user is) in
      reports_both test (at.UserName index ∷ []) (at.UserUid index ∷ at.UserGroups index ∷ []) (or_fault (at.UserName index) (text_at (codes "name") user)) _
      (reports_one test (at.UserName index) (text_at (codes "name") user) (ap (lacks (text_at (codes "name"))) within)) (λ name _.
      reports_both test (at.UserUid index ∷ []) (at.UserGroups index ∷ []) (or_fault (at.UserUid index) (id_at (codes "uid") user)) _
      (reports_one test (at.UserUid index) (id_at (codes "uid") user) (ap (lacks (id_at (codes "uid"))) within)) (λ uid _.
      reports_made test (at.UserGroups index ∷ []) (or_fault (at.UserGroups index) (texts_at (codes "groups") user)) _
      (reports_one test (at.UserGroups index) (texts_at (codes "groups") user) (ap (lacks (texts_at (codes "groups"))) within)))))

  reports_group : (index : ℕ) (value : Data) → item_in (codes "group") index table ≡ Some value → Reports (group_in index value) (group_keys index)
  unfolding group_in
  reports_group index value there =
      let test = is_at_fault table in
      reports_both test (at.Group index ∷ []) (at.GroupName index ∷ at.GroupGid index ∷ []) (or_fault (at.Group index) (as_table value)) _
      (reports_one test (at.Group index) (as_table value) (ap (is_other as_table) there)) (λ group is.
      let within = inside (codes "group") index value group there (read (at.Group index) (as_table value) group is) in
      reports_both test (at.GroupName index ∷ []) (at.GroupGid index ∷ []) (or_fault (at.GroupName index) (text_at (codes "name") group)) _
      (reports_one test (at.GroupName index) (text_at (codes "name") group) (ap (lacks (text_at (codes "name"))) within)) (λ name _.
      reports_made test (at.GroupGid index ∷ []) (or_fault (at.GroupGid index) (id_at (codes "gid") group)) _
      (reports_one test (at.GroupGid index) (id_at (codes "gid") group) (ap (lacks (id_at (codes "gid"))) within))))

  -- the items of an array, by what is reported for one
  module _ {A : Type 0} (reads : ℕ → Data → Result A Key) (name : List ℕ) (keys : ℕ → List Key)
      (reports : (index : ℕ) (value : Data) → item_in name index table ≡ Some value → Reports (reads index value) (keys index)) where
    reports_items : (index : ℕ) (items : Items) → ((from place : ℕ) → place ≡ index + from → item_in name place table ≡ get_item from items)
        → Reports (each_item reads index items) (item_keys keys index items)
    reports_items index no_items there = refl
    reports_items index (item first more) there =
        reports_both (is_at_fault table) (keys index) (item_keys keys (index + 1) more) (reads index first) _ (reports index first (there 0 index (omega arith))) (λ value _.
        reports_made (is_at_fault table) (item_keys keys (index + 1) more) (each_item reads (index + 1) more) _
        (reports_items (index + 1) more (λ from place is. there (suc from) place (omega (arith, is)))))

    reports_array : (key : Key) (value : Option Data) → get_member name table ≡ value → is_at_fault table key ≡ is_other as_array value
        → Reports (items_of reads key value) (key ∷ array_keys keys (option_and_then as_array value))
    reports_array key None is test = sym (ap (λ (fault : Bool). cond fault (Some key) None) test)
    reports_array key (Some value) is test =
        reports_both (is_at_fault table) (key ∷ []) (array_keys keys (as_array value)) (or_fault key (as_array value)) _ (reports_one (is_at_fault table) key (as_array value) test)
        (λ items read_as. of_items items (read key (as_array value) items read_as))
      where
        of_items : (items : Items) → as_array value ≡ Some items → Reports (each_item reads 0 items) (array_keys keys (as_array value))
        of_items items array =
            reports_items 0 items (λ from place same. ap (λ (value : Option Data). option_and_then (get_item place) (option_and_then as_array value)) is ∙ ap (λ (items : Option Items). option_and_then (get_item place) items) array
            ∙ ap (λ (place : ℕ). get_item place items) (omega (arith, same)))
            ∙ ap (λ (items : Option Items). find (is_at_fault table) (array_keys keys items)) (sym array)

pub reports_the_key : ReportsTheKey
unfolding setup_in items_at
reports_the_key table =
    let test = is_at_fault table in
    let users = array_keys user_keys (items_in (codes "user") table) in
    let groups = array_keys group_keys (items_in (codes "group") table) in
    let arrays = at.Users ∷ (users ++ at.Groups ∷ groups) in
    let of_root = at.Root ∷ at.RootOwner ∷ at.RootGroup ∷ at.RootMode ∷ at.RootStyle ∷ [] in
    reports_both test (at.Domain ∷ []) (at.Umask ∷ (of_root ++ arrays)) (or_fault at.Domain (text_at (codes "domain") table)) _ (reports_one test at.Domain (text_at (codes "domain") table) refl) (λ domain _.
    reports_both test (at.Umask ∷ []) (of_root ++ arrays) (or_fault at.Umask (mode_at (codes "umask") table)) _ (reports_one test at.Umask (mode_at (codes "umask") table) refl) (λ umask _.
    reports_both test of_root arrays _ _ (reports_root table) (λ root _.
    reports_both test (at.Users ∷ users) (at.Groups ∷ groups) _ _ (reports_array table user_in (codes "user") user_keys (reports_user table) at.Users (get_member (codes "user") table) refl refl) (λ read_users _.
    reports_made test (at.Groups ∷ groups) _ _ (reports_array table group_in (codes "group") group_keys (reports_group table) at.Groups (get_member (codes "group") table) refl refl)))))
