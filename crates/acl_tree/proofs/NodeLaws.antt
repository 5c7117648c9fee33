-- Nodes stay, at paths and in directories, and a command leaves what is at another path.
use Rattle.std.proofs.Common.{◌≡◌, ◌≢◌, ◌≤◌, ◌+◌, ℕ, Bool, true, false, cond, is_some, List, Option, Some, None, IsSomeAnd, IfSome, unwrap_or, refl, sym, ap, subst, ◌∙◌, true≢false, arith}
use Rattle.std.specs.Ordering.{nat_cmp, eq_by_cmp}
use Rattle.std.specs.Cmp.Lexicographic.{slice_cmp, nat_list_cmp_total, same_text, texts_ties}
use Rattle.std.specs.FinMap as map
use Rattle.std.specs.FinMap.{get-insert, len-insert}
use Rattle.std.proofs.lemmas.Option.{none-some}
use Rattle.acl_names.specs.Directory.{Known}
use Rattle.acl_tree.specs.declared.limits.TheConstants.{MAX_NODES}
use Rattle.acl_tree.specs.declared.node.Node.{Node}
use Rattle.acl_tree.specs.declared.request.Request.{Request}
use Rattle.acl_tree.specs.Apply.{next}
use Rattle.acl_tree.specs.CommandLaws.{CommandsKeepNodes, CommandsStayAtTheirPath}
use Rattle.acl_tree.specs.Path.{is_path, parent}
use Rattle.acl_tree.specs.Requests.{path_of, NamesAPath}
use Rattle.acl_tree.specs.Shape.{IsDirectory, KeepsKindAndOwners, IsSameAt, NodesLieInDirectories, NodesAreAtPaths, IsWithinLimit}
use Rattle.acl_tree.specs.Tree.{NodesUnderUmask, put}
use Rattle.acl_tree.proofs.NodeLemmas.{itself}
use Rattle.acl_tree.proofs.PutLemmas.{Replaces, IsNew, after_command}

-- what holds of a node that is put at a path, and of what is elsewhere, holds of what is then at each path
pub at_put : (tree : NodesUnderUmask) (path : List ℕ) (node : Node) (P : Option Node → Type 0) (q : List ℕ)
    → (q ≡ path → P (Some node)) → (q ≢ path → P (map.get tree.nodes q)) → P (map.get (put tree path node).nodes q)
at_put tree path node P q here elsewhere =
    subst P (sym (get-insert nat_list_cmp_total tree.nodes path node q)) (by (eq_by_cmp (slice_cmp nat_cmp) q path) refl)
  where
    by : (b : Bool) → eq_by_cmp (slice_cmp nat_cmp) q path ≡ b → P (cond b (Some node) (map.get tree.nodes q))
    by true e = here (same_text q path (sym (texts_ties q path ∙ e)))
    by false e = elsewhere (λ same. true≢false (sym (itself path) ∙ texts_ties path path ∙ ap (λ p. eq_by_cmp (slice_cmp nat_cmp) p path) (sym same) ∙ e))

-- a path has one node
one_node : (tree : NodesUnderUmask) (path q : List ℕ) (node other : Node) → map.get tree.nodes path ≡ Some node → map.get tree.nodes q ≡ Some other → q ≡ path → node ≡ other
one_node tree path q node other there there' same = ap (λ o. unwrap_or o node) (sym there ∙ ap (map.get tree.nodes) (sym same) ∙ there')

-- at a new path there is none
nothing_there : (tree : NodesUnderUmask) (path q : List ℕ) (node : Node) {A : Type 0} → IsNew tree path → map.get tree.nodes q ≡ Some node → q ≡ path → A
nothing_there tree path q node new there same = absurd (none-some node (sym new.absent ∙ ap (map.get tree.nodes) (sym same) ∙ there))

pub keeps_nodes : CommandsKeepNodes
keeps_nodes directory tree request path node there =
    after_command directory tree (λ after. IsStill (map.get after.nodes path)) still request (λ at _. record {
      replaced = λ new old. at_put tree at new IsStill path
          (λ same. subst (λ n. KeepsKindAndOwners n new) (one_node tree at path old.old node old.there there same) old.keeps) (λ _. still);
      created = λ new is. at_put tree at new IsStill path (nothing_there tree at path node is there) (λ _. still);
    })
  where
    IsStill : Option Node → Type 0
    IsStill found = IsSomeAnd found (KeepsKindAndOwners node)

    still : IsStill (map.get tree.nodes path)
    still = subst IsStill (sym there) (record { kind = refl; owner = refl; group = refl })

pub stays_at_its_path : CommandsStayAtTheirPath
stays_at_its_path directory tree request path other =
    after_command directory tree (IsSameAt path tree) refl request (λ at named. record {
      replaced = λ new _. kept at new named;
      created = λ new _. kept at new named;
    })
  where
    kept : (at : List ℕ) (new : Node) → path_of request ≡ Some at → IsSameAt path tree (put tree at new)
    kept at new named = at_put tree at new (λ found. found ≡ map.get tree.nodes path) path (λ same. absurd (other (named ∙ ap Some (sym same)))) (λ _. refl)

-- what is put where a node was, or below a directory, leaves the directories and lies in one
directory_replaced : (tree : NodesUnderUmask) (path : List ℕ) (node : Node) → Replaces tree path node → (q : List ℕ)
    → IsDirectory (map.get tree.nodes q) → IsDirectory (map.get (put tree path node).nodes q)
directory_replaced tree path node old q is =
    at_put tree path node IsDirectory q
    (λ same. old.keeps.kind ∙ subst IsDirectory (ap (map.get tree.nodes) same ∙ old.there) is) (λ _. is)

directory_beside : (tree : NodesUnderUmask) (path : List ℕ) (node : Node) → IsNew tree path → (q : List ℕ)
    → IsDirectory (map.get tree.nodes q) → IsDirectory (map.get (put tree path node).nodes q)
directory_beside tree path node new q is =
    at_put tree path node IsDirectory q (λ same. absurd (subst IsDirectory (ap (map.get tree.nodes) same ∙ new.absent) is)) (λ _. is)

in_directories : (tree : NodesUnderUmask) (path : List ℕ) (node : Node) → NodesLieInDirectories tree
    → ((q : List ℕ) → IsDirectory (map.get tree.nodes q) → IsDirectory (map.get (put tree path node).nodes q))
    → IsDirectory (map.get tree.nodes (parent path)) → NodesLieInDirectories (put tree path node)
in_directories tree path node all stays above q found =
    at_put tree path node (λ there. there ≡ Some found → IsDirectory (map.get (put tree path node).nodes (parent q))) q
    (λ same _. stays (parent q) (subst (λ p. IsDirectory (map.get tree.nodes (parent p))) (sym same) above))
    (λ _ there. stays (parent q) (all q found there))

pub keeps_directories : (directory : Known) (tree : NodesUnderUmask) (request : Request) → NodesLieInDirectories tree → NodesLieInDirectories (next directory tree request)
keeps_directories directory tree request all =
    after_command directory tree NodesLieInDirectories all request (λ at _. record {
      replaced = λ node old. in_directories tree at node all (directory_replaced tree at node old) (all at old.old old.there);
      created = λ node new. in_directories tree at node all (directory_beside tree at node new) (subst IsDirectory (sym new.there) new.is_dir);
    })

pub keeps_paths : (directory : Known) (tree : NodesUnderUmask) (request : Request) → NamesAPath request → NodesAreAtPaths tree
    → NodesAreAtPaths (next directory tree request)
keeps_paths directory tree request names all =
    after_command directory tree NodesAreAtPaths all request (λ at named. record {
      replaced = λ node _. kept at node named;
      created = λ node _. kept at node named;
    })
  where
    kept : (at : List ℕ) (node : Node) → path_of request ≡ Some at → NodesAreAtPaths (put tree at node)
    kept at node named q found =
        at_put tree at node (λ there. there ≡ Some found → is_path q ≡ true) q
        (λ same _. ap is_path same ∙ subst (λ o. IfSome o (λ path. is_path path ≡ true)) named names) (λ _. all q found)

pub keeps_limit : (directory : Known) (tree : NodesUnderUmask) (request : Request) → IsWithinLimit tree → IsWithinLimit (next directory tree request)
keeps_limit directory tree request within =
    after_command directory tree IsWithinLimit within request (λ at _. record {
      replaced = λ node old. counted at node (Some old.old) old.there within;
      created = λ node new. counted at node None new.absent (omega (arith, new.room));
    })
  where
    counted : (at : List ℕ) (node : Node) (there : Option Node) → map.get tree.nodes at ≡ there
        → cond (is_some there) (map.len tree.nodes) (map.len tree.nodes + 1) ≤ MAX_NODES → IsWithinLimit (put tree at node)
    counted at node there is few =
        let long = len-insert nat_list_cmp_total tree.nodes at node ∙ ap (λ o. cond (is_some o) (map.len tree.nodes) (map.len tree.nodes + 1)) is in
        subst (λ (n : ℕ). n ≤ MAX_NODES) (sym long) few
