-- The group of each node that commands make: its owner's first, or else that of the directory that it lies in.
use Rattle.std.proofs.Common.{◌≡◌, ◌≢◌, ◌∙◌, ℕ, ◌||◌, not, is_some, nat_lt, List, [], ◌∷◌, Option, Some, None, IsSomeAnd, IfOk, Ok, Err, unwrap_or, refl, sym, ap, subst}
use Rattle.std.proofs.lemmas.Option.{none-some}
use Rattle.std.specs.Cmp.Lexicographic.{slice_cmp}
use Rattle.std.specs.Ordering.{nat_cmp}
use Rattle.std.specs.FinMap as map
use Rattle.std.specs.FinMap.{get-empty}
use Rattle.acl_names.specs.Directory.{Known, first_group}
use Rattle.acl_posix.specs.Mode.{Classes}
use Rattle.acl_nfs4.specs.Inheritance.{has_inheritance}
use Rattle.acl_nfs4.specs.declared.inheritance.Kind.{Kind}
use Rattle.acl_nfs4.specs.declared.inheritance.Kind.TheVariants.{Dir}
use Rattle.acl_tree.specs.Apply.{after, next}
use Rattle.acl_tree.specs.Commands.{change_at, new_node, node_at, root_alone}
use Rattle.acl_tree.specs.NodeAcls.{acl_at_creation, acl_with_mode, default_of, posix_lists, root_acl}
use Rattle.acl_tree.specs.Nodes.{is_dir, with_access, with_default, with_mode, with_nfs4}
use Rattle.acl_tree.specs.Path.{parent}
use Rattle.acl_tree.specs.Shape.{EachNode, KeepsKindAndOwners}
use Rattle.acl_tree.specs.Steps.{Outcome, ◌>>=◌, or_refused, unless}
use Rattle.acl_tree.specs.Tree.{NodesUnderUmask, put}
use Rattle.acl_tree.specs.TreeLaws.{IsMadeByCommands, after_all}
use Rattle.acl_tree.specs.declared.faults.TreeFault.TheVariants.{DefaultOnFile, Exists, Full, InheritOnFile, NoSuchPath, NotADirectory}
use Rattle.acl_tree.specs.declared.limits.TheConstants.{MAX_NODES}
use Rattle.acl_tree.specs.declared.node.Node.{Node}
use Rattle.acl_tree.specs.declared.node_acl.NodeAcl.{NodeAcl}
use Rattle.acl_tree.specs.declared.node_acl.NodeAcl.TheVariants.{Posix, Nfs4}
use Rattle.acl_bridge.specs.declared.style.Style.{Style}
use Rattle.acl_tree.specs.declared.request.Request.{Request}
use Rattle.acl_tree.specs.declared.request.Request.TheVariants as request
use Rattle.acl_tree.proofs.FileLaws.{under}
use Rattle.acl_tree.proofs.NodeLaws.{at_put}
use Rattle.acl_tree.proofs.PutLemmas.{Replaces}
use Rattle.acl_audit.specs.Dump.{root}

module _ (directory : Known) where
  -- the node's group, if it lies in this directory
  abbrev pub IsGroupBelow : Node → Node → Type 0
  IsGroupBelow node above = node.group ≡ unwrap_or (first_group directory node.owner) above.group

  abbrev pub HasGroupBelow : NodesUnderUmask → List ℕ → Node → Type 0
  HasGroupBelow tree path node = path ≢ root → IsSomeAnd (map.get tree.nodes (parent path)) (IsGroupBelow node)

  abbrev pub GroupsAreGiven : NodesUnderUmask → Type 0
  GroupsAreGiven tree = EachNode tree (HasGroupBelow tree)

  -- ---- a node in the place of another

  of_kept : (old node other : Node) → KeepsKindAndOwners old node → IsGroupBelow other old → IsGroupBelow other node
  of_kept old node other keeps below = below ∙ ap (unwrap_or (first_group directory other.owner)) (sym keeps.group)

  kept_of : (old node above : Node) → KeepsKindAndOwners old node → IsGroupBelow old above → IsGroupBelow node above
  kept_of old node above keeps below =
      keeps.group ∙ below ∙ ap (λ (owner : ℕ). unwrap_or (first_group directory owner) above.group) (sym keeps.owner)

  some_then : (found : Option Node) (P Q : Node → Type 0) → ((node : Node) → P node → Q node) → IsSomeAnd found P → IsSomeAnd found Q
  some_then (Some node) P Q then is = then node is
  some_then None P Q then is = is

  replaced : (tree : NodesUnderUmask) (path : List ℕ) (node : Node) → Replaces tree path node → GroupsAreGiven tree → GroupsAreGiven (put tree path node)
  replaced tree path node old all q found there other =
      at_put tree path node (λ above. IsSomeAnd above (IsGroupBelow found)) (parent q)
      (λ same. of_kept old.old node found old.keeps (subst (λ above. IsSomeAnd above (IsGroupBelow found)) (ap (map.get tree.nodes) same ∙ old.there) before))
      (λ _. before)
    where
      before : IsSomeAnd (map.get tree.nodes (parent q)) (IsGroupBelow found)
      before =
          at_put tree path node (λ here. here ≡ Some found → IsSomeAnd (map.get tree.nodes (parent q)) (IsGroupBelow found)) q
          (λ same is.
          let node_is : node ≡ found = ap (λ o. unwrap_or o node) is in
          some_then (map.get tree.nodes (parent q)) (IsGroupBelow old.old) (IsGroupBelow found)
          (λ above below. subst (λ (n : Node). IsGroupBelow n above) node_is (kept_of old.old node above old.keeps below))
          (all q old.old (ap (map.get tree.nodes) same ∙ old.there) other))
          (λ _ is. all q found is other) there

  -- ---- a new node

  abbrev IsGiven : NodesUnderUmask → List ℕ → Node → Type 0
  IsGiven tree path node = (map.get tree.nodes path ≡ None) × IsSomeAnd (map.get tree.nodes (parent path)) (IsGroupBelow node)

  absurd_parent : (found : Option Node) (P : Node → Type 0) → found ≡ None → IsSomeAnd found P → ⊥
  absurd_parent found P none is = subst (λ o. IsSomeAnd o P) none is

  created : (tree : NodesUnderUmask) (path : List ℕ) (node : Node) → IsGiven tree path node → GroupsAreGiven tree → GroupsAreGiven (put tree path node)
  created tree path node (absent, below) all q found there other =
      at_put tree path node (λ above. IsSomeAnd above (IsGroupBelow found)) (parent q)
      (λ same. absurd (absurd_parent (map.get tree.nodes (parent q)) (IsGroupBelow found) (ap (map.get tree.nodes) same ∙ absent) before))
      (λ _. before)
    where
      before : IsSomeAnd (map.get tree.nodes (parent q)) (IsGroupBelow found)
      before =
          at_put tree path node (λ here. here ≡ Some found → IsSomeAnd (map.get tree.nodes (parent q)) (IsGroupBelow found)) q
          (λ same is.
          let node_is : node ≡ found = ap (λ o. unwrap_or o node) is in
          subst (λ (p : List ℕ). IsSomeAnd (map.get tree.nodes (parent p)) (IsGroupBelow found)) (sym same)
          (some_then (map.get tree.nodes (parent path)) (IsGroupBelow node) (IsGroupBelow found) (λ above. subst (λ (n : Node). IsGroupBelow n above) node_is) below))
          (λ _ is. all q found is other) there

  is_found : (found : Option Node) (node : Node) → or_refused NoSuchPath found ≡ Ok node → found ≡ Some node
  is_found (Some other) node is = let same : other ≡ node = cc in ap Some same
  is_found None node is = absurd cc

  is_absent : (found : Option Node) (x : Unit {0}) → unless Exists (not (is_some found)) ≡ Ok x → found ≡ None
  is_absent None x is = refl
  is_absent (Some node) x is = absurd cc

  given : (tree : NodesUnderUmask) (kind : Kind) (path : List ℕ) (owner : ℕ) (mode : Classes)
      → IfOk (new_node directory tree kind path owner mode) (IsGiven tree path)
  given tree kind path owner mode =
      under (IsGiven tree path) (node_at tree (parent path)) _ (λ above there.
      under (IsGiven tree path) (unless Exists (not (map.contains_key tree.nodes path))) _ (λ x absent.
      under (IsGiven tree path) (unless NotADirectory (is_dir above.kind)) _ (λ _ _.
      under (IsGiven tree path) (unless Full (nat_lt (map.len tree.nodes) MAX_NODES)) _ (λ _ _.
      under (IsGiven tree path) (acl_at_creation kind tree.umask above.acl mode) _ (λ acl _. (
        is_absent (map.get tree.nodes path) x absent,
        subst (λ (o : Option Node). IsSomeAnd o (λ (up : Node). unwrap_or (first_group directory owner) above.group ≡ unwrap_or (first_group directory owner) up.group))
            (sym (is_found (map.get tree.nodes (parent path)) above there)) refl,
      ))))))

  after_creation : (tree : NodesUnderUmask) (path : List ℕ) (outcome : Outcome Node) → GroupsAreGiven tree → IfOk outcome (IsGiven tree path)
      → GroupsAreGiven (after tree (outcome >>= (λ node. Ok (put tree path node))))
  after_creation tree path (Ok node) all is = created tree path node is all
  after_creation tree path (Err fault) all is = all

  -- ---- all commands

  after_change : (tree : NodesUnderUmask) (path : List ℕ) (old : Node) → map.get tree.nodes path ≡ Some old → (outcome : Outcome Node)
      → GroupsAreGiven tree → IfOk outcome (KeepsKindAndOwners old) → GroupsAreGiven (after tree (outcome >>= (λ node. Ok (put tree path node))))
  after_change tree path old there (Ok node) all keeps = replaced tree path node (record { old = old; there = there; keeps = keeps }) all
  after_change tree path old there (Err fault) all keeps = all

  changed : (tree : NodesUnderUmask) (path : List ℕ) (change : Node → Outcome Node) → GroupsAreGiven tree
      → ((node : Node) → IfOk (change node) (KeepsKindAndOwners node)) → GroupsAreGiven (after tree (change_at tree path change))
  changed tree path change all keeps = by (map.get tree.nodes path) refl
    where
      by : (there : Option Node) → map.get tree.nodes path ≡ there → GroupsAreGiven (after tree (change_at tree path change))
      by (Some old) is = rw is (after_change tree path old is (change old) all (keeps old))
      by None is = rw is all

  same : (node : Node) (acl : NodeAcl) → KeepsKindAndOwners node (record node { acl = acl })
  same node acl = record { kind = refl; owner = refl; group = refl }

  keeps_groups : (tree : NodesUnderUmask) (request : Request) → GroupsAreGiven tree → GroupsAreGiven (next directory tree request)
  keeps_groups tree (request.Get path) all = all
  keeps_groups tree (request.SetAccess path acl) all = changed tree path (with_access acl) all (λ node. same node (Posix acl (default_of node.acl)))
  keeps_groups tree (request.SetDefault path default) all =
      changed tree path (with_default default) all (λ node.
      under (KeepsKindAndOwners node) (posix_lists node.acl) _ (λ lists _.
      under (KeepsKindAndOwners node) (unless DefaultOnFile (is_dir node.kind)) _ (λ _ _. same node (Posix lists.access default))))
  keeps_groups tree (request.SetNfs4 path acl) all =
      changed tree path (with_nfs4 acl) all (λ node.
      under (KeepsKindAndOwners node) (unless InheritOnFile (is_dir node.kind || not (has_inheritance acl))) _ (λ _ _. same node (Nfs4 acl)))
  keeps_groups tree (request.Chmod path mode) all =
      changed tree path (with_mode mode) all (λ node. under (KeepsKindAndOwners node) (acl_with_mode node.acl mode) _ (λ acl _. same node acl))
  keeps_groups tree (request.Create kind path owner mode) all =
      after_creation tree path (new_node directory tree kind path owner mode) all (given tree kind path owner mode)
  keeps_groups tree (request.Check path uid perms) all = all
  keeps_groups tree (request.Check4 path uid mask) all = all
  keeps_groups tree (request.Translate path) all = all
  keeps_groups tree (request.Bad fault) all = all

  all_keep : (tree : NodesUnderUmask) (requests : List Request) → GroupsAreGiven tree → GroupsAreGiven (after_all directory tree requests)
  all_keep tree [] all = all
  all_keep tree (request ∷ requests) all = all_keep (next directory tree request) requests (keeps_groups tree request all)

  at_first : (owner group : ℕ) (mode : Classes) (style : Style) (umask : Classes) → GroupsAreGiven (root_alone owner group mode style umask)
  at_first owner group mode style umask q found there other =
      at_put (record { umask = umask; nodes = map.empty }) root (record { kind = Dir; owner = owner; group = group; acl = root_acl style mode })
      (λ here. here ≡ Some found → IsSomeAnd (map.get (root_alone owner group mode style umask).nodes (parent q)) (IsGroupBelow found)) q
      (λ is _. absurd (other is))
      (λ _ is. absurd (none-some found (sym (get-empty (slice_cmp nat_cmp) q) ∙ is)))
      there

pub groups_are_given : (directory : Known) (tree : NodesUnderUmask) → IsMadeByCommands directory tree → GroupsAreGiven directory tree
groups_are_given directory tree made =
    subst (GroupsAreGiven directory) (sym made.made)
    (all_keep directory (root_alone made.owner made.group made.mode made.style made.umask) made.requests
    (at_first directory made.owner made.group made.mode made.style made.umask))
