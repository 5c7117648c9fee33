-- The listing of a tree is read as its nodes.
use Rattle.std.proofs.Common.{◌≡◌, ◌||◌, ◌&&◌, ◌≤◌, ℕ, Bool, true, false, List, All, Result, Ok, Err, OnOk, ap, arith, bytes_eq, codes, length, nat_le, refl}
use Rattle.std.proofs.lemmas.Bool.Decides.{nat_tests}
use Rattle.std.proofs.lemmas.List.Elements.{All-from_recursion}
use Rattle.std.proofs.lemmas.List.Sorted.{All-permutation}
use Rattle.std.proofs.lemmas.Slice.Eq.{bytes_eq-Decides}
use Rattle.acl_names.specs.declared.limits.TheConstants.{MAX_ID}
use Rattle.acl_names.proofs.Fields.{field_plain}
use Rattle.acl_names.proofs.IdTexts.{and_first}
use Rattle.acl_names.proofs.PlainLines.{plain_lacks_newline}
use Rattle.acl_lang.proofs.RequestWords.{path_field}
use Rattle.acl_listings.specs.Numbered.{ArePrintable, IsPrintable}
use Rattle.acl_listings.proofs.NumberedLemmas.{short_block}
use Rattle.acl_tree.specs.Entries.{Entry, path_of}
use Rattle.acl_tree.specs.Path.{has_components, is_path}
use Rattle.acl_tree.specs.Shape.{NodesAreAtPaths}
use Rattle.acl_tree.specs.Tree.{NodesUnderUmask}
use Rattle.acl_tree.specs.Walk.{IsWalk}
use Rattle.acl_tree.specs.declared.limits.TheConstants.{MAX_PATH_LEN}
use Rattle.acl_tree_queries.specs.ListAnswer.{file_at, lists_of}
use Rattle.acl_tree_queries.proofs.MadeLemmas.{entries_at_paths}

abbrev pub IsAtPath : Entry → Type 0
IsAtPath entry = is_path (path_of entry) ≡ true

path_length : (path : List ℕ) → is_path path ≡ true → length path ≤ 60000
path_length path is = by (bytes_eq path (codes "/")) refl is
  where
    by : (b : Bool) → bytes_eq path (codes "/") ≡ b → (b || (nat_le (length path) MAX_PATH_LEN && has_components path)) ≡ true → length path ≤ 60000
    by true root is = let one = ap length ((bytes_eq-Decides path (codes "/")).0 root) in omega (arith, one)
    by false other is =
        let few : nat_le (length path) MAX_PATH_LEN ≡ true = and_first (nat_le (length path) MAX_PATH_LEN) (has_components path) is in
        let short : length path ≤ MAX_PATH_LEN = grind (arith, nat_tests) in
        omega (arith, short)

pub printable_at : (entry : Entry) → IsAtPath entry → entry.1.owner ≤ MAX_ID → entry.1.group ≤ MAX_ID → ArePrintable (lists_of entry.1.acl) → IsPrintable (file_at entry)
printable_at entry is owner group lists =
    let field = path_field entry.0 is in
    record {
      path = field.1;
      one_line = plain_lacks_newline entry.0 (field_plain entry.0 field.0);
      owner = owner;
      group = group;
      flags = refl;
      lists = lists;
      short = short_block (file_at entry) (path_length entry.0 is) owner group lists;
    }

-- of a walk over a tree each node is at a path
pub walk_at_paths : (tree : NodesUnderUmask) (entries : List Entry) → NodesAreAtPaths tree → IsWalk tree entries → All IsAtPath entries
walk_at_paths tree entries are walk = All-permutation IsAtPath _ entries walk.all (All-from_recursion IsAtPath _ (entries_at_paths tree are))

-- what follows from both of two facts of a result
pub on_ok_both : {T E : Type 0} (result : Result T E) {P Q R : Type 0} → (P → Q → R) → OnOk result P → OnOk result Q → OnOk result R
on_ok_both (Ok value) then first second = then first second
on_ok_both (Err fault) then first second = tt
