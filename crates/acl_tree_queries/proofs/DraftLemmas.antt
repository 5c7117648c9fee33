-- `who --draft` answers of a tree's listing what `check` answers of the tree.
use Rattle.std.proofs.Common.{◌≡◌, ◌∙◌, ◌==◌, ◌&&◌, ℕ, Bool, true, List, [], ◌∷◌, Some, IfOk, Result, Ok, ap, append-nil, cond, map as each, nat_cmp, refl, subst, sym}
use Rattle.std.specs.Cmp.Lexicographic.{slice_cmp}
use Rattle.std.specs.FinMap as map
use Rattle.std.specs.FinMap.{entries_sorted, get-entries}
use Rattle.std.specs.FinMap.Entries.{is_sorted}
use Rattle.std.specs.List.{AllByRecursion, filter, list_all, list_any}
use Rattle.std.proofs.Math.Bool.{and-true}
use Rattle.std.proofs.lemmas.List.Elements.{All-from_recursion, recursion_from_All}
use Rattle.std.proofs.lemmas.List.Sorted.{All-permutation}
use Rattle.acl_access.specs.Paths.{printed_path}
use Rattle.acl_access.specs.Who.{may_line}
use Rattle.acl_access.specs.declared.rules.Rules.TheVariants.{Draft}
use Rattle.acl_audit.proofs.PutLemmas.{found_each, found_in, truth, weaker}
use Rattle.acl_bridge.specs.Files.{File, file_with, list_grants, may}
use Rattle.acl_bridge.specs.declared.any_acl.AnyAcl.{AnyAcl}
use Rattle.acl_bridge.specs.declared.any_acl.AnyAcl.TheVariants as list
use Rattle.acl_listings.specs.Block.{FileValue, file_by}
use Rattle.acl_listings.specs.Listing.{Block, blocks_of}
use Rattle.acl_listings.specs.Numbered.{said_of, said_with}
use Rattle.acl_listings.specs.declared.fault.BlockFault.{BlockFault}
use Rattle.acl_listings.specs.declared.lists.Lists.{Lists}
use Rattle.acl_listings.specs.declared.lists.Lists.TheVariants as lists
use Rattle.acl_names.specs.Bits.{has_all}
use Rattle.acl_names.specs.Directory.{Known, requester_of}
use Rattle.acl_names.specs.Names.{Names}
use Rattle.acl_names.specs.Requester.{Identity}
use Rattle.acl_nfs4.specs.Evaluation.{allows, places_of}
use Rattle.acl_nfs4.specs.Mask.{mask_of}
use Rattle.acl_nfs4.specs.Who.{matches}
use Rattle.acl_nfs4.specs.declared.owners.Owners.{Owners}
use Rattle.acl_nfs4.specs.declared.who.Who.{Who}
use Rattle.acl_nfs4.specs.declared.who.Who.TheVariants as whos
use Rattle.acl_people.specs.Person.{Person}
use Rattle.acl_posix.specs.Access.{effective_perms, first_nonempty, is_for_group_of}
use Rattle.acl_posix.specs.Entry.{EntryValue, entries_of}
use Rattle.acl_posix.specs.declared.entry.Tag.{Tag}
use Rattle.acl_posix.specs.declared.entry.Tag.TheVariants.{UserObj, User, GroupObj, Group, Mask, Other}
use Rattle.acl_reports.specs.Files.{deciding_list, file_of}
use Rattle.acl_tree.specs.Commands.{granted_or_denied}
use Rattle.acl_tree.specs.Entries.{Entry}
use Rattle.acl_tree.specs.NodeAcls as acls
use Rattle.acl_tree.specs.Nodes as nodes
use Rattle.acl_tree.specs.Steps.{◌>>=◌, or_refused}
use Rattle.acl_tree.specs.Tree.{NodesUnderUmask}
use Rattle.acl_tree.specs.Walk.{IsWalk}
use Rattle.acl_tree.specs.declared.faults.TreeFault.TheVariants.{NoSuchPath}
use Rattle.acl_tree.specs.declared.node.Node.{Node}
use Rattle.acl_tree.specs.declared.node_acl.NodeAcl.{NodeAcl}
use Rattle.acl_tree.specs.declared.node_acl.NodeAcl.TheVariants.{Posix, Nfs4}
use Rattle.acl_listing_queries.specs.Readings.{reading_of}
use Rattle.acl_listing_queries.specs.Ways.{is_sticky, way_of}
use Rattle.acl_listing_queries.specs.WhoPart.{part_by}
use Rattle.acl_tree_queries.specs.AccountsLaws.{IsSameRequester}
use Rattle.acl_tree_queries.specs.DraftLaws.{AreChecked, DraftDecidesAsChecks, IsChecked, by_draft}
use Rattle.acl_tree_queries.specs.ListAnswer.{file_at, lists_of}
use Rattle.acl_tree_queries.proofs.PreOrderLemmas.{cons_parts}

-- ---- who has the same uid and the same groups is granted the same

module _ (one other : Identity) (same : IsSameRequester one other) where
  same_groups : (group : ℕ) (tag : Tag) → is_for_group_of one group tag ≡ is_for_group_of other group tag
  same_groups group UserObj = refl
  same_groups group (User uid) = refl
  same_groups group GroupObj = same.groups group
  same_groups group (Group gid) = same.groups gid
  same_groups group Mask = refl
  same_groups group Other = refl

  same_who : (owner group : ℕ) (who : Who) → matches owner group one who ≡ matches owner group other who
  same_who owner group whos.Owner = ap (λ uid. uid == owner) same.uid
  same_who owner group whos.Group = same.groups group
  same_who owner group whos.Everyone = refl
  same_who owner group (whos.User named) = ap (λ uid. uid == named) same.uid
  same_who owner group (whos.NamedGroup named) = same.groups named

  -- what a list grants by a uid and a test of groups
  abbrev granted_by : List EntryValue → ℕ → ℕ → ℕ → (EntryValue → Bool) → Bool
  granted_by acl owner perms uid is_for_group = list_any (λ entry. has_all (effective_perms acl entry) perms)
      (first_nonempty (cond (uid == owner) (entries_of UserObj acl) [] ∷ entries_of (User uid) acl ∷ filter is_for_group acl ∷ entries_of Other acl ∷ []))

  same_grants : (acl : AnyAcl) (owners : Owners) (perms : ℕ) → list_grants acl owners one perms ≡ list_grants acl owners other perms
  same_grants (list.Posix acl) owners perms =
      ap (λ uid. granted_by acl owners.owner perms uid (λ entry. is_for_group_of one owners.group entry.tag)) same.uid
      ∙ (λ i. granted_by acl owners.owner perms other.uid (λ entry. same_groups owners.group entry.tag i))
  same_grants (list.Nfs4 aces) owners perms =
      λ i. list_all (λ bit. allows (λ who. same_who owners.owner owners.group who i) bit aces) (places_of (mask_of perms))

-- ---- the file of a block decides as its node

same_list : (acl : NodeAcl) → deciding_list Draft (lists_of acl) ≡ acls.deciding_list acl
same_list (Posix access default) = refl
same_list (Nfs4 acl) = refl

same_file : (entry : Entry) → file_of Draft (file_at entry) ≡ nodes.file_of entry.1
same_file entry = ap (file_with (nodes.owners_of entry.1)) (same_list entry.1.acl)

-- what is read of a printed block is its file, or nothing
if_said : (file : FileValue) (lists : Lists) (said : Result FileValue BlockFault) (P : FileValue → Type 0) → said ≡ said_with file lists → (said ≡ Ok file → P file) → IfOk said P
if_said file (lists.Nfs4 []) said P is then = subst (λ said. IfOk said P) (sym is) tt
if_said file (lists.Nfs4 (ace ∷ aces)) said P is then = subst (λ said. IfOk said P) (sym is) (then is)
if_said file (lists.Posix access default) said P is then = subst (λ said. IfOk said P) (sym is) (then is)

-- a node is in the tree
abbrev IsIn : NodesUnderUmask → Entry → Type 0
IsIn tree entry = map.get tree.nodes entry.0 ≡ Some entry.1

module _ (known : Known) (tree : NodesUnderUmask) (names : Names) where
  -- whoever is asked about the file of a block
  abbrev IsCheckedForAll : List ℕ → FileValue → Type 0
  IsCheckedForAll text file = (person : Person) (uid perms : ℕ) (earlier : List (List ℕ)) → IsSameRequester person.who (requester_of known uid)
      → IsChecked known tree names text file person uid perms earlier

  checked_at : (entry : Entry) (text : List ℕ) → IsIn tree entry → file_by names text ≡ Ok (file_at entry)
      → IsCheckedForAll text (file_at entry)
  checked_at entry text there reads person uid perms earlier same =
      let asks : Identity = requester_of known uid in
      let granted : Bool = nodes.may entry.1 asks perms in
      let line : List ℕ = may_line (printed_path entry.0) person.name in
      let alike : may (file_of Draft (file_at entry)) person.who perms ≡ granted =
      ap (λ (file : File). may file person.who perms) (same_file entry) ∙ same_grants person.who asks same (acls.deciding_list entry.1.acl) (nodes.owners_of entry.1) perms in
      let before = each (reading_of names) earlier in
      record {
        granted = granted;
        answer = ap (λ found. or_refused NoSuchPath found >>= (λ (node : Node). Ok (granted_or_denied (nodes.may node asks perms)))) there;
        lines = ap (λ said. part_by (by_draft names person perms) (is_sticky (way_of before (reading_of names text))) said (Some [])) reads
            ∙ ap Ok (append-nil (cond (may (file_of Draft (file_at entry)) person.who perms && true) line []) ∙ ap (λ b. cond b line []) (and-true (may (file_of Draft (file_at entry)) person.who perms) ∙ alike));
      }

  are_checked : (blocks : List Block) (entries : List Entry) → each (λ block. file_by names block.text) blocks ≡ each said_of (each file_at entries) → AllByRecursion (IsIn tree) entries
      → AllByRecursion (λ block. AreChecked known tree names block.text) blocks
  are_checked [] entries says there = tt
  are_checked (block ∷ blocks) [] says there = cc
  are_checked (block ∷ blocks) (entry ∷ entries) says (there, rest) =
      let parts = cons_parts (file_by names block.text) (said_of (file_at entry)) (each (λ block. file_by names block.text) blocks) (each said_of (each file_at entries)) says in (
        if_said (file_at entry) (lists_of entry.1.acl) (file_by names block.text) (IsCheckedForAll block.text) parts.0 (λ reads. checked_at entry block.text there reads),
        are_checked blocks entries parts.1 rest,
      )

-- those of a walk are
nodes_there : (tree : NodesUnderUmask) (entries : List Entry) → IsWalk tree entries → AllByRecursion (IsIn tree) entries
nodes_there tree entries walk =
    let all : List Entry = map.entries tree.nodes in
    let up : is_sorted (slice_cmp nat_cmp) all ≡ true = truth (is_sorted (slice_cmp nat_cmp) all) (entries_sorted tree.nodes) in
    recursion_from_All (IsIn tree) entries
    (All-permutation (IsIn tree) all entries walk.all
    (All-from_recursion (IsIn tree) all
    (weaker (λ entry. found_in entry.0 all ≡ Some entry.1) (IsIn tree) (λ entry found. get-entries tree.nodes entry.0 ∙ found) all (found_each all all (λ q node found. found) up))))

pub draft_decides_as_checks : DraftDecidesAsChecks
draft_decides_as_checks bytes_of input rows known tree text files (entries, walk, says, paths) names numbers =
    are_checked known tree names (blocks_of text) entries (says names numbers) (nodes_there tree entries walk)
