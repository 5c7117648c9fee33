-- What holds of every tree that commands make from a new one: it holds of a new tree, and each command keeps it.
use Rattle.std.proofs.Common.{◌≡◌, ◌≢◌, ◌≤◌, ◌+◌, ℕ, cond, codes, is_some, true, List, [], ◌∷◌, Option, Some, None, All, IsSomeAnd, refl, sym, ap, subst, ◌∙◌, arith, nat_cmp}
use Rattle.std.proofs.lemmas.List.Elements.{All-head, All-tail}
use Rattle.std.proofs.lemmas.Option.{none-some}
use Rattle.std.specs.Cmp.Lexicographic.{slice_cmp, nat_list_cmp_total}
use Rattle.std.specs.FinMap as map
use Rattle.std.specs.FinMap.{get-empty, len-empty, len-insert}
use Rattle.acl_names.specs.Directory.{Known}
use Rattle.acl_posix.specs.Mode.{Classes}
use Rattle.acl_nfs4.specs.declared.inheritance.Kind.TheVariants.{Dir}
use Rattle.acl_tree.specs.declared.limits.TheConstants.{MAX_NODES}
use Rattle.acl_tree.specs.declared.node.Node.{Node}
use Rattle.acl_bridge.specs.declared.style.Style.{Style}
use Rattle.acl_tree.specs.declared.request.Request.{Request}
use Rattle.acl_tree.specs.Apply.{next}
use Rattle.acl_tree.specs.Commands.{root_alone}
use Rattle.acl_tree.specs.NodeAcls.{root_acl}
use Rattle.acl_tree.specs.Path.{is_path, parent}
use Rattle.acl_tree.specs.Requests.{NamesAPath, path_of}
use Rattle.acl_tree.specs.Shape.{IsDirectory, KeepsKindAndOwners, KeepsNodes, NodesLieInDirectories, NodesAreAtPaths, IsWithinLimit}
use Rattle.acl_tree.specs.Tree.{Nodes, NodesUnderUmask}
use Rattle.acl_tree.specs.TreeLaws.{after_all, IsMadeByCommands, FilesNeverHaveADefault}
use Rattle.acl_tree.specs.TreeLaws.{ParentsAreDirectories, TreesAreWithinTheLimit, TreesHavePathsAlone}
use Rattle.acl_tree.specs.TreeLaws.{TheUmaskStays, NodesStay, OtherCommandsLeaveANode}
use Rattle.acl_tree.proofs.CommandLaws.{keeps_the_umask}
use Rattle.acl_tree.proofs.FileLaws.{keeps_files_without_default, root_is_no_file_with_default}
use Rattle.acl_tree.proofs.NodeLaws.{at_put, keeps_nodes, stays_at_its_path, keeps_directories, keeps_paths, keeps_limit}

-- what each command keeps, all of them keep
module _ (directory : Known) (P : NodesUnderUmask → Type 0) (keeps : (tree : NodesUnderUmask) (request : Request) → P tree → P (next directory tree request)) where
  all_keep : (tree : NodesUnderUmask) (requests : List Request) → P tree → P (after_all directory tree requests)
  all_keep tree [] holds = holds
  all_keep tree (request ∷ requests) holds = all_keep (next directory tree request) requests (keeps tree request holds)

  -- and if a new tree has it, so does each tree that commands make
  made_has : (tree : NodesUnderUmask) (made : IsMadeByCommands directory tree) → P (root_alone made.owner made.group made.mode made.style made.umask) → P tree
  made_has tree made new = subst P (sym made.made) (all_keep _ made.requests new)

pub files_never_have_a_default : FilesNeverHaveADefault
files_never_have_a_default directory tree made =
    made_has directory _ (keeps_files_without_default directory) tree made (root_is_no_file_with_default made.owner made.group made.mode made.style made.umask)

-- a new tree has a directory at "/", and nothing else
module _ (owner group : ℕ) (mode : Classes) (style : Style) (umask : Classes) where
  abbrev new : NodesUnderUmask
  new = root_alone owner group mode style umask

  abbrev root : Node
  root = record { kind = Dir; owner = owner; group = group; acl = root_acl style mode }

  at_root : (P : Option Node → Type 0) (q : List ℕ) → (q ≡ codes "/" → P (Some root)) → P None → P (map.get new.nodes q)
  at_root P q here none =
      at_put (record { umask = umask; nodes = map.empty }) (codes "/") root P q here (λ _. subst P (sym (get-empty (slice_cmp nat_cmp) q)) none)

  only_root : (P : List ℕ → Type 0) → P (codes "/") → (q : List ℕ) (node : Node) → map.get new.nodes q ≡ Some node → P q
  only_root P holds q node = at_root (λ there. there ≡ Some node → P q) q (λ same _. subst P (sym same) holds) (λ none. absurd (none-some node none))

  new_in_directories : NodesLieInDirectories new
  new_in_directories =
      only_root (λ q. IsDirectory (map.get new.nodes (parent q)))
      (at_put (record { umask = umask; nodes = map.empty }) (codes "/") root IsDirectory (codes "/") (λ _. refl) (λ other. absurd (other refl)))

  new_at_paths : NodesAreAtPaths new
  new_at_paths = only_root (λ q. is_path q ≡ true) refl

  new_within : IsWithinLimit new
  new_within =
      let none : Nodes = map.empty in
      let one : map.len new.nodes ≡ 1 =
      len-insert nat_list_cmp_total none (codes "/") root
      ∙ ap (λ o. cond (is_some o) (map.len none) (map.len none + 1)) (get-empty (slice_cmp nat_cmp) (codes "/"))
      ∙ ap (λ n. n + 1) (len-empty (slice_cmp nat_cmp) Node) in
      subst (λ (n : ℕ). n ≤ MAX_NODES) (sym one) (omega arith)

pub parents_are_directories : ParentsAreDirectories
parents_are_directories directory tree made =
    made_has directory _ (keeps_directories directory) tree made (new_in_directories made.owner made.group made.mode made.style made.umask)

pub trees_are_within_the_limit : TreesAreWithinTheLimit
trees_are_within_the_limit directory tree made =
    made_has directory _ (keeps_limit directory) tree made (new_within made.owner made.group made.mode made.style made.umask)

pub trees_have_paths_alone : TreesHavePathsAlone
trees_have_paths_alone directory tree made names =
    subst NodesAreAtPaths (sym made.made) (all_at _ made.requests names (new_at_paths made.owner made.group made.mode made.style made.umask))
  where
    all_at : (from : NodesUnderUmask) (requests : List Request) → All NamesAPath requests → NodesAreAtPaths from → NodesAreAtPaths (after_all directory from requests)
    all_at from [] each holds = holds
    all_at from (request ∷ requests) each holds =
        all_at (next directory from request) requests (All-tail NamesAPath request requests each) (keeps_paths directory from request (All-head NamesAPath request requests each) holds)

pub the_umask_stays : TheUmaskStays
the_umask_stays directory tree made =
    made_has directory (λ after. after.umask ≡ made.umask) (λ from request is. keeps_the_umask directory from request ∙ is) tree made refl

pub nodes_stay : NodesStay
nodes_stay directory tree requests =
    all_keep directory (KeepsNodes tree) further tree requests
    (λ path node there. subst (λ found. IsSomeAnd found (KeepsKindAndOwners node)) (sym there)
    (record { kind = refl; owner = refl; group = refl }))
  where
    further : (from : NodesUnderUmask) (request : Request) → KeepsNodes tree from → KeepsNodes tree (next directory from request)
    further from request kept path node there = by (map.get from.nodes path) refl (kept path node there)
      where
        then_kept : (old mid : Node) → KeepsKindAndOwners old mid → (found : Option Node) → IsSomeAnd found (KeepsKindAndOwners mid) → IsSomeAnd found (KeepsKindAndOwners old)
        then_kept old mid first (Some last) then =
            record { kind = then.kind ∙ first.kind; owner = then.owner ∙ first.owner; group = then.group ∙ first.group }
        then_kept old mid first None then = then

        by : (found : Option Node) → map.get from.nodes path ≡ found → IsSomeAnd found (KeepsKindAndOwners node)
            → IsSomeAnd (map.get (next directory from request).nodes path) (KeepsKindAndOwners node)
        by (Some mid) is first = then_kept node mid first _ (keeps_nodes directory from request path mid is)
        by None is first = absurd first

pub other_commands_leave_a_node : OtherCommandsLeaveANode
other_commands_leave_a_node directory tree [] path others = refl
other_commands_leave_a_node directory tree (request ∷ requests) path others =
    other_commands_leave_a_node directory (next directory tree request) requests path (All-tail (λ request. path_of request ≢ Some path) request requests others)
    ∙ stays_at_its_path directory tree request path (All-head (λ request. path_of request ≢ Some path) request requests others)
