-- Nodes that are put at paths of a tree, and what is found there.
use Rattle.std.proofs.Common.{◌≡◌, ◌∙◌, ℕ, Bool, true, false, cond, ◌&&◌, List, [], ◌∷◌, Option, Some, None, Ok, refl, sym, ap, Ordering}
use Rattle.std.proofs.Common.{T}
use Rattle.std.specs.declared.cmp.Ordering.TheVariants.{Less, Equal, Greater}
use Rattle.std.specs.Ordering.{nat_cmp, is_eq, is_lt, eq_by_cmp, ordering_reverse}
use Rattle.std.specs.Cmp.Lexicographic.{slice_cmp, nat_list_cmp_total}
use Rattle.std.specs.List.{AllByRecursion}
use Rattle.std.specs.FinMap as map
use Rattle.std.specs.FinMap.{nat_cmp-IsAntisymmetric, slice_cmp-IsAntisymmetric, find, is_sorted, get-insert}
use Rattle.std.specs.FinMap.Entries.{below_all as entries_below}
use Rattle.std.proofs.lemmas.Bool.{false≢true}
use Rattle.std.proofs.lemmas.Cmp.{tied_itself}
use Rattle.acl_nfs4.specs.Ace.{Nfsace4}
use Rattle.acl_nfs4.specs.Inheritance.{has_inheritance}
use Rattle.acl_nfs4.specs.declared.inheritance.Kind.{Kind}
use Rattle.acl_nfs4.specs.declared.inheritance.Kind.TheVariants.{File}
use Rattle.acl_tree.specs.Apply.{after}
use Rattle.acl_tree.specs.Commands.{change_at}
use Rattle.acl_tree.specs.Shape.{HasNoDefaultOnFile}
use Rattle.acl_tree.specs.Steps.{Outcome, ◌>>=◌, or_refused}
use Rattle.acl_tree.specs.Tree.{NodesUnderUmask, put}
use Rattle.acl_tree.specs.declared.faults.TreeFault.TheVariants.{NoSuchPath}
use Rattle.acl_tree.specs.declared.node.Node.{Node}
use Rattle.acl_tree.specs.declared.node_acl.NodeAcl.{NodeAcl}
use Rattle.acl_tree.specs.declared.node_acl.NodeAcl.TheVariants.{Nfs4}

-- ---- paths in their order

abbrev pub order : List ℕ → List ℕ → Ordering
order = slice_cmp nat_cmp

abbrev pub same : List ℕ → List ℕ → Bool
same q path = eq_by_cmp order q path

abbrev Entry : Type 0
Entry = List ℕ × Node

abbrev pub found_in : List ℕ → List Entry → Option Node
found_in q es = find order q es

is_equal : (o : Ordering) → is_eq o ≡ true → o ≡ Equal
is_equal Less e = absurd (false≢true e)
is_equal Equal e = refl
is_equal Greater e = absurd (false≢true e)

pub same-is : (q path : List ℕ) → same q path ≡ true → q ≡ path
same-is q path e = slice_cmp-IsAntisymmetric nat_cmp-IsAntisymmetric q path (is_equal (order q path) e)

pub same-itself : (path : List ℕ) → same path path ≡ true
same-itself path = ap is_eq (tied_itself nat_list_cmp_total path)

not_back : (o : Ordering) → is_lt o ≡ true → is_eq (ordering_reverse o) ≡ false
not_back Less e = refl
not_back Equal e = absurd (false≢true e)
not_back Greater e = absurd (false≢true e)

not_tied : (o : Ordering) → is_lt o ≡ true → is_eq o ≡ false
not_tied Less e = refl
not_tied Equal e = absurd (false≢true e)
not_tied Greater e = absurd (false≢true e)

-- a path is apart from one that is above it
pub apart : (low high : List ℕ) → is_lt (order low high) ≡ true → same high low ≡ false
apart low high below = ap is_eq (nat_list_cmp_total.antisymm high low) ∙ not_back (order low high) below

pub and_left : (a b : Bool) → (a && b) ≡ true → a ≡ true
and_left true b e = refl
and_left false b e = absurd (false≢true e)

pub and_right : (a b : Bool) → (a && b) ≡ true → b ≡ true
and_right true b e = e
and_right false b e = absurd (false≢true e)

-- whether a path is below those of all entries
abbrev pub below_all : List ℕ → List Entry → Bool
below_all path es = entries_below order path es

-- such a path isn't found
pub not_found : (q : List ℕ) (es : List Entry) → below_all q es ≡ true → found_in q es ≡ None
not_found q [] below = refl
not_found q (e ∷ es) below =
    ap (λ b. cond b (Some e.1) (found_in q es)) (not_tied (order q e.0) (and_left _ _ below)) ∙ not_found q es (and_right _ _ below)

-- entries in order, as the map reports it
abbrev pub ascend : List Entry → Bool
ascend es = is_sorted order es

-- ---- one node

-- the tree with the node in the place of what was at the path
pub record IsPut (before : NodesUnderUmask) (path : List ℕ) (node : Node) (tree : NodesUnderUmask) : Type 0 where
  pub at : (q : List ℕ) → map.get tree.nodes q ≡ cond (same q path) (Some node) (map.get before.nodes q)

pub put-is : (tree : NodesUnderUmask) (path : List ℕ) (node : Node) → IsPut tree path node (put tree path node)
put-is tree path node = record { at = λ q. get-insert nat_list_cmp_total tree.nodes path node q }

pub shadowed : {A : Type 0} (b : Bool) (x y z : A) → cond b x (cond b y z) ≡ cond b x z
shadowed true x y z = refl
shadowed false x y z = refl

pub put-put-is : (tree : NodesUnderUmask) (path : List ℕ) (first node : Node) → IsPut tree path node (put (put tree path first) path node)
put-put-is tree path first node = record {
  at = λ q. get-insert nat_list_cmp_total (put tree path first).nodes path node q
      ∙ ap (λ (other : Option Node). cond (same q path) (Some node) other) (get-insert nat_list_cmp_total tree.nodes path first q)
      ∙ shadowed (same q path) (Some node) (Some first) (map.get tree.nodes q);
}

pub at_its_path : (tree : NodesUnderUmask) (path : List ℕ) (node : Node) → map.get (put tree path node).nodes path ≡ Some node
at_its_path tree path node =
    get-insert nat_list_cmp_total tree.nodes path node path ∙ ap (λ b. cond b (Some node) (map.get tree.nodes path)) (same-itself path)

-- a change of a node that is there, and isn't refused
pub changed-at : (tree : NodesUnderUmask) (path : List ℕ) (change : Node → Outcome Node) (base changed : Node) → map.get tree.nodes path ≡ Some base
    → change base ≡ Ok changed → after tree (change_at tree path change) ≡ put tree path changed
changed-at tree path change base changed there is =
    ap (λ (found : Option Node). after tree (or_refused NoSuchPath found >>= (λ node. change node >>= (λ c. Ok (put tree path c))))) there
    ∙ ap (λ (outcome : Outcome Node). after tree (outcome >>= (λ c. Ok (put tree path c)))) is

abbrev pub node_of : Kind → ℕ → ℕ → NodeAcl → Node
node_of kind owner group acl = record { kind = kind; owner = owner; group = group; acl = acl }

-- ---- all of them

-- a node whose lists may be set as they are
pub record IsReady (node : Node) : Type 0 where
  pub default : HasNoDefaultOnFile node
  pub inherits : (aces : List Nfsace4) → node.kind ≡ File → node.acl ≡ Nfs4 aces → has_inheritance aces ≡ false

-- ---- the entries of a tree

pub truth : (b : Bool) → T b → b ≡ true
truth true holds = refl
truth false holds = absurd holds

pub weaker : (P Q : Entry → Type 0) → ((e : Entry) → P e → Q e) → (es : List Entry) → AllByRecursion P es → AllByRecursion Q es
weaker P Q then [] all = tt
weaker P Q then (e ∷ es) (here, all) = (then e here, weaker P Q then es all)

-- what is found further on isn't at the first path
further : (q : List ℕ) (node : Node) (e : Entry) (es : List Entry) → below_all e.0 es ≡ true → found_in q es ≡ Some node → same q e.0 ≡ false
further q node e es below found = by (same q e.0) refl
  where
    by : (b : Bool) → same q e.0 ≡ b → b ≡ false
    by true is =
        let none : found_in q es ≡ None = ap (λ (p : List ℕ). found_in p es) (same-is q e.0 is) ∙ not_found e.0 es below in
        let never : None ≡ Some node = sym none ∙ found in
        absurd (cc)
    by false is = refl

-- each entry is found at its path
pub found_each : (whole es : List Entry) → ((q : List ℕ) (node : Node) → found_in q es ≡ Some node → found_in q whole ≡ Some node) → ascend es ≡ true
    → AllByRecursion (λ e. found_in e.0 whole ≡ Some e.1) es
found_each whole [] within up = tt
found_each whole (e ∷ es) within up = (
  within e.0 e.1 (ap (λ b. cond b (Some e.1) (found_in e.0 es)) (same-itself e.0)),
  found_each whole es
      (λ q node found. within q node (ap (λ b. cond b (Some e.1) (found_in q es)) (further q node e es (and_left _ _ up) found) ∙ found)) (and_right _ _ up),
)
