-- What every command does to a tree: nothing, or it puts one node at the path that it names.
use Rattle.std.proofs.Common.{◌≡◌, ◌<◌, ℕ, Bool, true, false, ◌||◌, not, is_some, nat_lt, List, Option, Some, None, Ok, Err, IfOk, refl, sym, ap, subst, ltb-true, true≢false}
use Rattle.std.specs.FinMap as map
use Rattle.acl_names.specs.Directory.{Known}
use Rattle.acl_posix.specs.Entry.{EntryValue}
use Rattle.acl_posix.specs.Mode.{Classes}
use Rattle.acl_nfs4.specs.Ace.{Nfsace4}
use Rattle.acl_nfs4.specs.Inheritance.{has_inheritance}
use Rattle.acl_nfs4.specs.declared.inheritance.Kind.{Kind}
use Rattle.acl_nfs4.specs.declared.inheritance.Kind.TheVariants.{File, Dir}
use Rattle.acl_tree.specs.declared.faults.TreeFault.{TreeFault}
use Rattle.acl_tree.specs.declared.faults.TreeFault.TheVariants.{NoSuchPath, Exists, NotADirectory, Full, DefaultOnFile, InheritOnFile}
use Rattle.acl_tree.specs.declared.limits.TheConstants.{MAX_NODES}
use Rattle.acl_tree.specs.declared.node.Node.{Node}
use Rattle.acl_tree.specs.declared.request.Request.{Request}
use Rattle.acl_tree.specs.declared.request.Request.TheVariants as request
use Rattle.acl_tree.specs.Apply.{next, after}
use Rattle.acl_tree.specs.Commands.{node_at, change_at, new_node, create}
use Rattle.acl_tree.specs.NodeAcls.{posix_lists, acl_with_mode, acl_at_creation}
use Rattle.acl_tree.specs.Nodes.{is_dir, with_access, with_default, with_nfs4, with_mode}
use Rattle.acl_tree.specs.Path.{parent}
use Rattle.acl_tree.specs.Requests.{path_of}
use Rattle.acl_tree.specs.Shape.{KeepsKindAndOwners}
use Rattle.acl_tree.specs.Steps.{Outcome, ◌>>=◌, or_refused, unless}
use Rattle.acl_tree.specs.Tree.{NodesUnderUmask, put}
use Rattle.acl_tree.proofs.FileLaws.{under}

-- the node takes the place of the one at the path
pub record Replaces (tree : NodesUnderUmask) (path : List ℕ) (node : Node) : Type 0 where
  pub old : Node
  pub there : map.get tree.nodes path ≡ Some old
  pub keeps : KeepsKindAndOwners old node

-- the node is new at the path
pub record IsNew (tree : NodesUnderUmask) (path : List ℕ) : Type 0 where
  pub above : Node
  pub there : map.get tree.nodes (parent path) ≡ Some above
  pub is_dir : above.kind ≡ Dir
  pub absent : map.get tree.nodes path ≡ None
  pub room : map.len tree.nodes < MAX_NODES

-- each change keeps the kind, the owner and the group

access_keeps : (acl : List EntryValue) (node : Node) → IfOk (with_access acl node) (KeepsKindAndOwners node)
access_keeps acl node = record { kind = refl; owner = refl; group = refl }

default_keeps : (default : Option (List EntryValue)) (node : Node) → IfOk (with_default default node) (KeepsKindAndOwners node)
default_keeps default node =
    under (KeepsKindAndOwners node) (posix_lists node.acl) _ (λ lists _. under (KeepsKindAndOwners node) (unless DefaultOnFile (is_dir node.kind)) _
    (λ _ _. record { kind = refl; owner = refl; group = refl }))

nfs4_keeps : (acl : List Nfsace4) (node : Node) → IfOk (with_nfs4 acl node) (KeepsKindAndOwners node)
nfs4_keeps acl node =
    under (KeepsKindAndOwners node) (unless InheritOnFile (is_dir node.kind || not (has_inheritance acl))) _ (λ _ _. record { kind = refl; owner = refl; group = refl })

mode_keeps : (mode : Classes) (node : Node) → IfOk (with_mode mode node) (KeepsKindAndOwners node)
mode_keeps mode node = under (KeepsKindAndOwners node) (acl_with_mode node.acl mode) _ (λ _ _. record { kind = refl; owner = refl; group = refl })

-- what a step that isn't refused has reported
found : (fault : TreeFault) (there : Option Node) (node : Node) → or_refused fault there ≡ Ok node → there ≡ Some node
found fault (Some other) node is = ap (λ outcome. value other outcome) is
  where
    value : Node → Outcome Node → Option Node
    value none (Ok x) = Some x
    value none (Err fault) = None
found fault None node is = absurd (subst IsRefused is tt)
  where
    IsRefused : Outcome Node → Type 0
    IsRefused (Ok x) = ⊥
    IsRefused (Err fault) = Unit {0}

passed : (fault : TreeFault) (test : Bool) (x : Unit {0}) → unless fault test ≡ Ok x → test ≡ true
passed fault true x is = refl
passed fault false x is = absurd (subst IsRefused is tt)
  where
    IsRefused : Outcome (Unit {0}) → Type 0
    IsRefused (Ok x) = ⊥
    IsRefused (Err fault) = Unit {0}

none_there : (there : Option Node) → not (is_some there) ≡ true → there ≡ None
none_there None is = refl
none_there (Some node) is = absurd (true≢false (sym is))

a_directory : (kind : Kind) → is_dir kind ≡ true → kind ≡ Dir
a_directory Dir is = refl
a_directory File is = absurd (true≢false (sym is))

made : (directory : Known) (tree : NodesUnderUmask) (kind : Kind) (path : List ℕ) (owner : ℕ) (mode : Classes)
    → IfOk (new_node directory tree kind path owner mode) (λ _. IsNew tree path)
made directory tree kind path owner mode =
    under (λ _. IsNew tree path) (node_at tree (parent path)) _ (λ above there.
    under (λ _. IsNew tree path) (unless Exists (not (map.contains_key tree.nodes path))) _ (λ x absent.
    under (λ _. IsNew tree path) (unless NotADirectory (is_dir above.kind)) _ (λ y dir.
    under (λ _. IsNew tree path) (unless Full (nat_lt (map.len tree.nodes) MAX_NODES)) _ (λ z room.
    under (λ _. IsNew tree path) (acl_at_creation kind tree.umask above.acl mode) _ (λ acl _. record {
      above = above;
      there = found NoSuchPath _ above there;
      is_dir = a_directory above.kind (passed NotADirectory (is_dir above.kind) y dir);
      absent = none_there _ (passed Exists (not (map.contains_key tree.nodes path)) x absent);
      room = ltb-true (map.len tree.nodes) MAX_NODES (passed Full (nat_lt (map.len tree.nodes) MAX_NODES) z room);
    })))))

module _ (directory : Known) (tree : NodesUnderUmask) (P : NodesUnderUmask → Type 0) (stays : P tree) where
  -- what holds of the tree and of each that a command may make of it, at a path
  pub record AtPath (path : List ℕ) : Type 0 where
    pub replaced : (node : Node) → Replaces tree path node → P (put tree path node)
    pub created : (node : Node) → IsNew tree path → P (put tree path node)

  changed : (path : List ℕ) (change : Node → Outcome Node) → ((node : Node) → IfOk (change node) (KeepsKindAndOwners node))
      → ((node : Node) → Replaces tree path node → P (put tree path node)) → P (after tree (change_at tree path change))
  changed path change keeps replaced = by (map.get tree.nodes path) refl
    where
      on : (old : Node) → map.get tree.nodes path ≡ Some old → (outcome : Outcome Node) → IfOk outcome (KeepsKindAndOwners old)
          → P (after tree (outcome >>= (λ node. Ok (put tree path node))))
      on old is (Ok node) kept = replaced node (record { old = old; there = is; keeps = kept })
      on old is (Err fault) kept = stays

      by : (there : Option Node) → map.get tree.nodes path ≡ there → P (after tree (change_at tree path change))
      by (Some old) is = rw is (on old is (change old) (keeps old))
      by None is = rw is stays

  created : (kind : Kind) (path : List ℕ) (owner : ℕ) (mode : Classes) → ((node : Node) → IsNew tree path → P (put tree path node))
      → P (after tree (create directory tree kind path owner mode))
  created kind path owner mode at = on (new_node directory tree kind path owner mode) (made directory tree kind path owner mode)
    where
      on : (outcome : Outcome Node) → IfOk outcome (λ _. IsNew tree path) → P (after tree (outcome >>= (λ node. Ok (put tree path node))))
      on (Ok node) new = at node new
      on (Err fault) new = stays

  -- what holds of the tree and of it with one node put at the command's path holds after the command
  pub after_command : (request : Request) → ((path : List ℕ) → path_of request ≡ Some path → AtPath path) → P (next directory tree request)
  after_command (request.Get path) at = stays
  after_command (request.SetAccess path acl) at = changed path (with_access acl) (access_keeps acl) (at path refl).replaced
  after_command (request.SetDefault path default) at = changed path (with_default default) (default_keeps default) (at path refl).replaced
  after_command (request.SetNfs4 path acl) at = changed path (with_nfs4 acl) (nfs4_keeps acl) (at path refl).replaced
  after_command (request.Chmod path mode) at = changed path (with_mode mode) (mode_keeps mode) (at path refl).replaced
  after_command (request.Create kind path owner mode) at = created kind path owner mode (at path refl).created
  after_command (request.Check path uid perms) at = stays
  after_command (request.Check4 path uid mask) at = stays
  after_command (request.Translate path) at = stays
  after_command (request.Bad fault) at = stays
