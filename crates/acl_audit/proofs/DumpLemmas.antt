-- The dump of a tree makes it again.
use Rattle.std.proofs.Common.{◌≡◌, ◌≢◌, ◌∙◌, ◌+◌, ◌≤◌, ℕ, Bool, true, false, cond, not, ◌&&◌, ◌||◌, List, []}
use Rattle.std.proofs.Common.{◌∷◌, All, Option, Some, None, option_map, is_some, unwrap_or, Ok, IsSomeAnd}
use Rattle.std.proofs.Common.{nat_lt, length, refl, sym, ap, ap₂, subst, arith, bytes_eq, nat_cmp, Ordering}
use Rattle.std.specs.declared.cmp.Ordering.TheVariants.{Less, Equal, Greater}
use Rattle.std.specs.Ordering.{is_lt}
use Rattle.std.specs.Cmp.Lexicographic.{slice_cmp, nat_list_cmp_total}
use Rattle.std.specs.List.{AllByRecursion, flat_map}
use Rattle.std.specs.FinMap as map
use Rattle.std.specs.FinMap.{nat_cmp-IsAntisymmetric, slice_cmp-IsAntisymmetric, get-empty, get-entries, get-insert, entries_sorted, len-empty, len-entries, len-insert, same_map}
use Rattle.std.proofs.lemmas.Bool.{false≢true, lt-ltb, true≢false}
use Rattle.std.proofs.lemmas.List.Sums.{fold-append}
use Rattle.acl_names.specs.Bits.{has, without}
use Rattle.acl_names.specs.Directory.{Known, first_group}
use Rattle.acl_names.proofs.BitSets.{has-without, has-zero, no_bits}
use Rattle.acl_names.proofs.Keys.{same_name}
use Rattle.acl_posix.specs.Entry.{EntryValue}
use Rattle.acl_posix.specs.Mode.{Classes, of_mode}
use Rattle.acl_nfs4.specs.declared.inheritance.Kind.{Kind}
use Rattle.acl_nfs4.specs.declared.inheritance.Kind.TheVariants.{File, Dir}
use Rattle.acl_tree.specs.Apply.{after, next}
use Rattle.acl_tree.specs.Commands.{new_node, root_alone}
use Rattle.acl_tree.specs.Entries.{Entry}
use Rattle.acl_tree.specs.NodeAcls.{acl_at_creation, beyond_umask, default_of, root_acl}
use Rattle.acl_tree.specs.Nodes.{is_dir, with_access, with_default, with_nfs4}
use Rattle.acl_tree.specs.Path.{is_path, parent}
use Rattle.acl_tree.specs.Requests.{NamesAPath}
use Rattle.acl_tree.specs.Shape.{IsDirectory, KeepsKindAndOwners}
use Rattle.acl_tree.specs.Steps.{Outcome, ◌>>=◌, or_refused, unless}
use Rattle.acl_tree.specs.Tree.{NodesUnderUmask, put}
use Rattle.acl_tree.specs.TreeLaws.{IsMadeByCommands, after_all}
use Rattle.acl_tree.specs.declared.faults.TreeFault.TheVariants.{Exists, Full, InheritOnFile, NoSuchPath, NotADirectory}
use Rattle.acl_tree.specs.declared.limits.TheConstants.{MAX_NODES}
use Rattle.acl_tree.specs.declared.node.Node.{Node}
use Rattle.acl_tree.specs.declared.node_acl.NodeAcl.{NodeAcl}
use Rattle.acl_tree.specs.declared.node_acl.NodeAcl.TheVariants.{Posix, Nfs4}
use Rattle.acl_bridge.specs.declared.style.Style.{Style}
use Rattle.acl_bridge.specs.declared.style.Style.TheVariants as style
use Rattle.acl_tree.specs.declared.request.Request.{Request}
use Rattle.acl_tree.specs.declared.request.Request.TheVariants.{SetDefault}
use Rattle.acl_tree.specs.declared.request.Request.TheVariants as request
use Rattle.acl_tree.proofs.CommandLaws.{keeps_the_umask}
use Rattle.acl_tree.proofs.TreeLaws.{files_never_have_a_default, nodes_stay, parents_are_directories, the_umask_stays, trees_are_within_the_limit, trees_have_paths_alone}
use Rattle.acl_audit.specs.Dump.{DumpsMakeTheTree, closed_list, close_command, creation, dump, dump_of, set_commands, no_mode, root, set_lists}
use Rattle.acl_audit.proofs.GroupsLemmas.{IsGroupBelow, groups_are_given}
use Rattle.acl_audit.proofs.ParentLemmas.{parent_before, root_first}
use Rattle.acl_audit.proofs.QuietLemmas.{files_inherit_nothing}
use Rattle.acl_audit.proofs.PutLemmas.{IsPut, IsReady, and_left, and_right, apart, ascend, at_its_path}
use Rattle.acl_audit.proofs.PutLemmas.{below_all, changed-at, found_each, found_in, node_of, not_found}
use Rattle.acl_audit.proofs.PutLemmas.{order, put-is, put-put-is, same, same-is, same-itself, shadowed}
use Rattle.acl_audit.proofs.PutLemmas.{truth, weaker}

-- a node as it is created, before it is given its lists
abbrev closed_of : Node → Node
closed_of node = node_of node.kind node.owner node.group (Posix closed_list None)

abbrev is_left : List ℕ → List Entry → Bool
is_left q es = is_some (found_in q es)

is_less : (o : Ordering) → is_lt o ≡ true → o ≡ Less
is_less Less e = refl
is_less Equal e = absurd (false≢true e)
is_less Greater e = absurd (false≢true e)

-- what is below a path is below all that the path is below
below_further : (p path : List ℕ) (es : List Entry) → order p path ≡ Less → below_all path es ≡ true → below_all p es ≡ true
below_further p path [] first below = refl
below_further p path (e ∷ es) first below =
    ap₂ (λ a b. a && b) (ap is_lt (nat_list_cmp_total.trans p path e.0 first (is_less (order path e.0) (and_left _ _ below))))
    (below_further p path es first (and_right _ _ below))

-- of two that can't both be left, the later is found as before
first_left : (e : Entry) (es : List Entry) → is_left e.0 (e ∷ es) ≡ true
first_left e es = ap (λ b. is_some (cond b (Some e.1) (found_in e.0 es))) (same-itself e.0)

others_left : (q : List ℕ) (e : Entry) (es : List Entry) → same q e.0 ≡ false → is_left q (e ∷ es) ≡ is_left q es
others_left q e es other = ap (λ b. is_some (cond b (Some e.1) (found_in q es))) other

not_left : (q : List ℕ) (es : List Entry) → below_all q es ≡ true → is_left q es ≡ false
not_left q es below = ap is_some (not_found q es below)

-- the mode of what is created lets nobody do anything, whatever the umask
nothing_without : (umask : ℕ) → without 0 umask ≡ 0
nothing_without umask = no_bits (without 0 umask) (λ bit. has-without 0 umask bit ∙ ap (λ b. b && not (has umask bit)) (has-zero bit))

closed_under : (umask : Classes) → of_mode (beyond_umask no_mode umask) ≡ closed_list
closed_under umask =
    ap of_mode (λ i. record { user = nothing_without umask.user i; group = nothing_without umask.group i; other = nothing_without umask.other i })

module _ (directory : Known) (tree : NodesUnderUmask) where
  -- an entry of the tree that can be created where the directories before it are there
  record IsSound (e : Entry) : Type 0 where
    there : map.get tree.nodes e.0 ≡ Some e.1
    other : bytes_eq e.0 root ≡ false
    before : order (parent e.0) e.0 ≡ Less
    above : IsSomeAnd (map.get tree.nodes (parent e.0)) (λ up. (up.kind ≡ Dir) × IsGroupBelow directory e.1 up)

  -- ---- creation

  -- all nodes but those left are there, and closed
  record IsCreated (t : NodesUnderUmask) (rest : List Entry) : Type 0 where
    at : (q : List ℕ) → map.get t.nodes q ≡ cond (is_left q rest) None (option_map closed_of (map.get tree.nodes q))
    count : map.len t.nodes + length rest ≡ map.len tree.nodes

  module _ (t : NodesUnderUmask) (e : Entry) (rest : List Entry) (sound : IsSound e) (below : below_all e.0 rest ≡ true)
      (within : map.len tree.nodes ≤ MAX_NODES) (created : IsCreated t (e ∷ rest)) where
    -- what the creation of the entry's node comes to, by what is found there
    abbrev outcome_of : Option Node → Option Node → Bool → Outcome Node
    outcome_of up here room =
        or_refused NoSuchPath up >>= (λ above. unless Exists (not (is_some here)) >>= (λ _. unless NotADirectory (is_dir above.kind) >>= (λ _.
        unless Full room >>= (λ _. acl_at_creation e.1.kind t.umask above.acl no_mode >>= (λ acl.
        Ok (node_of e.1.kind e.1.owner (unwrap_or (first_group directory e.1.owner) above.group) acl))))))

    absent : map.get t.nodes e.0 ≡ None
    absent = created.at e.0 ∙ ap (λ b. cond b None (option_map closed_of (map.get tree.nodes e.0))) (first_left e rest)

    room : nat_lt (map.len t.nodes) MAX_NODES ≡ true
    room = lt-ltb (map.len t.nodes) MAX_NODES (omega (arith, created.count, within))

    up_there : (above : Node) → map.get tree.nodes (parent e.0) ≡ Some above → map.get t.nodes (parent e.0) ≡ Some (closed_of above)
    up_there above is =
        created.at (parent e.0)
        ∙ ap (λ b. cond b None (option_map closed_of (map.get tree.nodes (parent e.0))))
        (not_left (parent e.0) (e ∷ rest) (ap₂ (λ a b. a && b) (ap is_lt sound.before) (below_further (parent e.0) e.0 rest sound.before below)))
        ∙ ap (option_map closed_of) is

    made : (up : Option Node) → map.get tree.nodes (parent e.0) ≡ up → IsSomeAnd up (λ above. (above.kind ≡ Dir) × IsGroupBelow directory e.1 above)
        → new_node directory t e.1.kind e.0 e.1.owner no_mode ≡ Ok (closed_of e.1)
    made None is above = absurd above
    made (Some above) is (dir, group) =
        ap (λ (o : Option Node). outcome_of o (map.get t.nodes e.0) (nat_lt (map.len t.nodes) MAX_NODES)) (up_there above is)
        ∙ ap (λ (o : Option Node). outcome_of (Some (closed_of above)) o (nat_lt (map.len t.nodes) MAX_NODES)) absent
        ∙ ap (λ (b : Bool). outcome_of (Some (closed_of above)) None b) room
        ∙ ap (λ (k : Kind). unless NotADirectory (is_dir k) >>= (λ _.
        Ok (node_of e.1.kind e.1.owner (unwrap_or (first_group directory e.1.owner) above.group) (Posix (of_mode (beyond_umask no_mode t.umask)) None)))) dir
        ∙ ap₂ (λ (g : ℕ) (acl : List EntryValue). Ok (node_of e.1.kind e.1.owner g (Posix acl None))) (sym group) (closed_under t.umask)

    one_put : after_all directory t (creation e) ≡ put t e.0 (closed_of e.1)
    one_put =
        ap (λ b. after_all directory t (cond b [] (request.Create e.1.kind e.0 e.1.owner no_mode ∷ []))) sound.other
        ∙ ap (λ (outcome : Outcome Node). after t (outcome >>= (λ node. Ok (put t e.0 node)))) (made (map.get tree.nodes (parent e.0)) refl sound.above)

    put_at : (q : List ℕ) → map.get (put t e.0 (closed_of e.1)).nodes q ≡ cond (is_left q rest) None (option_map closed_of (map.get tree.nodes q))
    put_at q = get-insert nat_list_cmp_total t.nodes e.0 (closed_of e.1) q ∙ by (same q e.0) refl
      where
        by : (b : Bool) → same q e.0 ≡ b
            → cond b (Some (closed_of e.1)) (map.get t.nodes q) ≡ cond (is_left q rest) None (option_map closed_of (map.get tree.nodes q))
        by true is =
            let q_is : q ≡ e.0 = same-is q e.0 is in
            sym (ap₂ (λ (b : Bool) (o : Option Node). cond b None (option_map closed_of o))
            (ap (λ (p : List ℕ). is_left p rest) q_is ∙ not_left e.0 rest below) (ap (map.get tree.nodes) q_is ∙ sound.there))
        by false is = created.at q ∙ ap (λ b. cond b None (option_map closed_of (map.get tree.nodes q))) (others_left q e rest is)

    put_count : map.len (put t e.0 (closed_of e.1)).nodes + length rest ≡ map.len tree.nodes
    put_count =
        let longer : map.len (put t e.0 (closed_of e.1)).nodes ≡ map.len t.nodes + 1 =
        len-insert nat_list_cmp_total t.nodes e.0 (closed_of e.1) ∙ ap (λ o. cond (is_some o) (map.len t.nodes) (map.len t.nodes + 1)) absent in
        omega (arith, longer, created.count)

    one_created : IsCreated (after_all directory t (creation e)) rest
    one_created = subst (λ (t' : NodesUnderUmask). IsCreated t' rest) (sym one_put) (record { at = put_at; count = put_count })

  all_created : (es : List Entry) (t : NodesUnderUmask) → ascend es ≡ true → AllByRecursion IsSound es → map.len tree.nodes ≤ MAX_NODES → IsCreated t es
      → IsCreated (after_all directory t (flat_map creation es)) []
  all_created [] t up sound within created = created
  all_created (e ∷ es) t up (here, sound) within created =
      subst (λ (t' : NodesUnderUmask). IsCreated t' []) (sym (fold-append (next directory) t (creation e) (flat_map creation es)))
      (all_created es (after_all directory t (creation e)) (and_right _ _ up) sound within
      (one_created t e es here (and_left _ _ up) within created))

  -- ---- lists

  -- all nodes are there, and all but those left have their lists
  record IsListed (t : NodesUnderUmask) (rest : List Entry) : Type 0 where
    at : (q : List ℕ) → map.get t.nodes q ≡ cond (is_left q rest) (option_map closed_of (map.get tree.nodes q)) (map.get tree.nodes q)

  module _ (t : NodesUnderUmask) (path : List ℕ) (owner group : ℕ) where
    abbrev base : Kind → Node
    base kind = node_of kind owner group (Posix closed_list None)

    listed : (kind : Kind) (acl : NodeAcl) → map.get t.nodes path ≡ Some (base kind) → IsReady (node_of kind owner group acl)
        → IsPut t path (node_of kind owner group acl) (after_all directory t (set_lists path acl))
    listed kind (Posix access None) there ready =
        let node = node_of kind owner group (Posix access None) in
        subst (IsPut t path node) (sym (changed-at t path (with_access access) (base kind) node there refl)) (put-is t path node)
    listed File (Posix access (Some default)) there ready = let e = ready.default refl in absurd cc
    listed Dir (Posix access (Some default)) there ready =
        let first = node_of Dir owner group (Posix access None) in
        let node = node_of Dir owner group (Posix access (Some default)) in
        subst (IsPut t path node)
        (sym (ap (λ (t' : NodesUnderUmask). next directory t' (SetDefault path (Some default))) (changed-at t path (with_access access) (base Dir) first there refl)
        ∙ changed-at (put t path first) path (with_default (Some default)) first node (at_its_path t path first) refl))
        (put-put-is t path first node)
    listed File (Nfs4 aces) there ready =
        let node = node_of File owner group (Nfs4 aces) in
        subst (IsPut t path node)
        (sym (changed-at t path (with_nfs4 aces) (base File) node there
        (ap (λ (b : Bool). unless InheritOnFile (false || not b) >>= (λ _. Ok node)) (ready.inherits aces refl refl))))
        (put-is t path node)
    listed Dir (Nfs4 aces) there ready =
        let node = node_of Dir owner group (Nfs4 aces) in
        subst (IsPut t path node) (sym (changed-at t path (with_nfs4 aces) (base Dir) node there refl)) (put-is t path node)

  one_listed : (t : NodesUnderUmask) (e : Entry) (rest : List Entry) → map.get tree.nodes e.0 ≡ Some e.1 → IsReady e.1 → below_all e.0 rest ≡ true
      → IsListed t (e ∷ rest) → IsListed (after_all directory t (set_commands e)) rest
  one_listed t e rest there ready below now =
      let here : map.get t.nodes e.0 ≡ Some (closed_of e.1) =
      now.at e.0 ∙ ap₂ (λ (b : Bool) (o : Option Node). cond b (option_map closed_of o) o) (first_left e rest) there in
      let is : IsPut t e.0 e.1 (after_all directory t (set_commands e)) = listed t e.0 e.1.owner e.1.group e.1.kind e.1.acl here ready in
      record { at = λ q. is.at q ∙ by q (same q e.0) refl }
    where
      by : (q : List ℕ) (b : Bool) → same q e.0 ≡ b
          → cond b (Some e.1) (map.get t.nodes q) ≡ cond (is_left q rest) (option_map closed_of (map.get tree.nodes q)) (map.get tree.nodes q)
      by q true is =
          let q_is : q ≡ e.0 = same-is q e.0 is in
          sym (ap₂ (λ (b : Bool) (o : Option Node). cond b (option_map closed_of o) o)
          (ap (λ (p : List ℕ). is_left p rest) q_is ∙ not_left e.0 rest below) (ap (map.get tree.nodes) q_is ∙ there))
      by q false is =
          now.at q ∙ ap (λ b. cond b (option_map closed_of (map.get tree.nodes q)) (map.get tree.nodes q)) (others_left q e rest is)

  all_listed : (es : List Entry) (t : NodesUnderUmask) → ascend es ≡ true → AllByRecursion (λ e. map.get tree.nodes e.0 ≡ Some e.1) es
      → AllByRecursion (λ e. IsReady e.1) es → IsListed t es → IsListed (after_all directory t (flat_map set_commands es)) []
  all_listed [] t up there ready now = now
  all_listed (e ∷ es) t up (here, there) (is_ready, ready) now =
      subst (λ (t' : NodesUnderUmask). IsListed t' []) (sym (fold-append (next directory) t (set_commands e) (flat_map set_commands es)))
      (all_listed es (after_all directory t (set_commands e)) (and_right _ _ up) there ready (one_listed t e es here is_ready (and_left _ _ up) now))

-- ---- the whole

umask_after : (directory : Known) (requests : List Request) (t : NodesUnderUmask) → (after_all directory t requests).umask ≡ t.umask
umask_after directory [] t = refl
umask_after directory (request ∷ requests) t = umask_after directory requests (next directory t request) ∙ keeps_the_umask directory t request

no_default : (s : Style) (mode : Classes) → default_of (root_acl s mode) ≡ None
no_default style.Posix mode = refl
no_default style.Nfs4 mode = refl

both : (found : Option Node) (P : Node → Type 0) → IsDirectory found → IsSomeAnd found P → IsSomeAnd found (λ up. (up.kind ≡ Dir) × P up)
both (Some up) P dir is = (dir, is)
both None P dir is = is

module _ (directory : Known) (tree : NodesUnderUmask) (made : IsMadeByCommands directory tree) (names : All NamesAPath made.requests) where
  abbrev root_node : Node
  root_node = node_of Dir made.owner made.group (root_acl made.style made.mode)

  abbrev closed_root : Node
  closed_root = node_of Dir made.owner made.group (Posix closed_list None)

  abbrev new : NodesUnderUmask
  new = root_alone made.owner made.group made.mode made.style made.umask

  abbrev Found : Entry → Type 0
  Found e = map.get tree.nodes e.0 ≡ Some e.1

  path_is : (e : Entry) → Found e → is_path e.0 ≡ true
  path_is e = trees_have_paths_alone directory tree made names e.0 e.1

  no_root : (path : List ℕ) → same path root ≡ false → path ≢ root
  no_root path other is = true≢false (sym (same-itself root) ∙ ap (λ p. same p root) (sym is) ∙ other)

  sound_of : (e : Entry) → is_lt (order root e.0) ≡ true → Found e → IsSound directory tree e
  sound_of e behind there =
      let other : same e.0 root ≡ false = apart root e.0 behind in
      record {
        there = there;
        other = same_name e.0 root ∙ other;
        before = parent_before e.0 (path_is e there) (no_root e.0 other);
        above = both (map.get tree.nodes (parent e.0)) (IsGroupBelow directory e.1) (parents_are_directories directory tree made e.0 e.1 there)
            (groups_are_given directory tree made e.0 e.1 there (no_root e.0 other));
      }

  all_sound : (es : List Entry) → below_all root es ≡ true → AllByRecursion Found es → AllByRecursion (IsSound directory tree) es
  all_sound [] below there = tt
  all_sound (e ∷ es) below (here, there) = (sound_of e (and_left _ _ below) here, all_sound es (and_right _ _ below) there)

  ready_of : (e : Entry) → Found e → IsReady e.1
  ready_of e there =
      record { default = files_never_have_a_default directory tree made e.0 e.1 there; inherits = files_inherit_nothing directory tree made e.0 e.1 there }

  root_there : map.get new.nodes root ≡ Some root_node
  root_there = get-insert nat_list_cmp_total map.empty root root_node root ∙ ap (λ b. cond b (Some root_node) (map.get {R = slice_cmp nat_cmp} map.empty root)) (same-itself root)

  root_closed : next directory new close_command ≡ put new root closed_root
  root_closed =
      changed-at new root (with_access closed_list) root_node closed_root root_there
      (ap (λ (d : Option (List EntryValue)). Ok (node_of Dir made.owner made.group (Posix closed_list d))) (no_default made.style made.mode))

  -- what holds of the first entry, the root, and of those behind it
  module _ (r : Node) (keeps : KeepsKindAndOwners root_node r) (rest : List Entry) (below : below_all root rest ≡ true)
      (gets : (q : List ℕ) → map.get tree.nodes q ≡ found_in q ((root, r) ∷ rest)) (long : map.len tree.nodes ≡ length ((root, r) ∷ rest)) where
    closed_as_is : closed_root ≡ closed_of r
    closed_as_is = λ i. node_of (sym keeps.kind i) (sym keeps.owner i) (sym keeps.group i) (Posix closed_list None)

    started_at : (q : List ℕ) → map.get (put new root closed_root).nodes q ≡ cond (is_left q rest) None (option_map closed_of (map.get tree.nodes q))
    started_at q =
        get-insert nat_list_cmp_total new.nodes root closed_root q
        ∙ ap (λ (o : Option Node). cond (same q root) (Some closed_root) o)
        (get-insert nat_list_cmp_total map.empty root root_node q ∙ ap (λ (o : Option Node). cond (same q root) (Some root_node) o) (get-empty (slice_cmp nat_cmp) q))
        ∙ shadowed (same q root) (Some closed_root) (Some root_node) None
        ∙ by (same q root) refl
        ∙ ap (λ (o : Option Node). cond (is_left q rest) None (option_map closed_of o)) (sym (gets q))
      where
        nothing : (o : Option Node) → None ≡ cond (is_some o) None (option_map closed_of o)
        nothing None = refl
        nothing (Some node) = refl

        by : (b : Bool) → same q root ≡ b
            → cond b (Some closed_root) None ≡ cond (is_left q rest) None (option_map closed_of (cond (same q root) (Some r) (found_in q rest)))
        by true is =
            let q_is : q ≡ root = same-is q root is in
            ap Some closed_as_is
            ∙ sym (ap₂ (λ (b c : Bool). cond b None (option_map closed_of (cond c (Some r) (found_in q rest))))
            (ap (λ (p : List ℕ). is_left p rest) q_is ∙ not_left root rest below) is)
        by false is =
            nothing (found_in q rest)
            ∙ ap (λ (c : Bool). cond (is_left q rest) None (option_map closed_of (cond c (Some r) (found_in q rest)))) (sym is)

    started_count : map.len (put new root closed_root).nodes + length rest ≡ map.len tree.nodes
    started_count =
        let none : NodesUnderUmask = record { umask = made.umask; nodes = map.empty } in
        let one : map.len new.nodes ≡ 0 + 1 =
        len-insert nat_list_cmp_total none.nodes root root_node
        ∙ ap (λ o. cond (is_some o) (map.len none.nodes) (map.len none.nodes + 1)) (get-empty (slice_cmp nat_cmp) root)
        ∙ ap (λ n. n + 1) (len-empty (slice_cmp nat_cmp) Node) in
        let still : map.len (put new root closed_root).nodes ≡ map.len new.nodes =
        len-insert nat_list_cmp_total new.nodes root closed_root ∙ ap (λ o. cond (is_some o) (map.len new.nodes) (map.len new.nodes + 1)) root_there in
        omega (arith, one, still, long)

    abbrev first : NodesUnderUmask
    first = next directory new close_command

    started : IsCreated directory tree first rest
    started = subst (λ (t : NodesUnderUmask). IsCreated directory tree t rest) (sym root_closed) (record { at = started_at; count = started_count })

    made_again : ascend ((root, r) ∷ rest) ≡ true → AllByRecursion Found ((root, r) ∷ rest) → after_all directory new (dump_of ((root, r) ∷ rest)) ≡ tree
    made_again up (there, others) =
        let es : List Entry = (root, r) ∷ rest in
        let second : NodesUnderUmask = after_all directory first (flat_map creation rest) in
        let third : NodesUnderUmask = after_all directory second (flat_map set_commands es) in
        let created : IsCreated directory tree second [] =
        all_created directory tree rest first (and_right _ _ up) (all_sound rest below others) (trees_are_within_the_limit directory tree made) started in
        let as_left : (o : Option Node) → option_map closed_of o ≡ cond (is_some o) (option_map closed_of o) o =
        λ o. elim o as (λ (x : Option Node). option_map closed_of x ≡ cond (is_some x) (option_map closed_of x) x) [ None ↦ refl | Some node ↦ refl ] in
        let listed_yet : IsListed directory tree second es =
        record {
          at = λ q. created.at q ∙ as_left (map.get tree.nodes q)
              ∙ ap (λ b. cond b (option_map closed_of (map.get tree.nodes q)) (map.get tree.nodes q)) (ap is_some (gets q));
        } in
        let all_there : AllByRecursion Found es = (there, others) in
        let done : IsListed directory tree third [] =
        all_listed directory tree es second up all_there (weaker Found (λ e. IsReady e.1) ready_of es all_there) listed_yet in
        let whole : after_all directory new (dump_of es) ≡ third =
        fold-append (next directory) first (flat_map creation es) (flat_map set_commands es) in
        let nodes_are : third.nodes ≡ tree.nodes =
        same_map nat_list_cmp_total (slice_cmp-IsAntisymmetric nat_cmp-IsAntisymmetric) third.nodes tree.nodes (λ q. done.at q) in
        let umask_is : third.umask ≡ tree.umask =
        ap (λ (t : NodesUnderUmask). t.umask) (sym whole) ∙ umask_after directory (dump_of es) new ∙ sym (the_umask_stays directory tree made) in
        whole ∙ (λ i. record { umask = umask_is i; nodes = nodes_are i })

  -- the first entry is the root's
  by_entries : (es : List Entry) → ascend es ≡ true → ((q : List ℕ) → map.get tree.nodes q ≡ found_in q es) → map.len tree.nodes ≡ length es
      → AllByRecursion Found es → (r : Node) → map.get tree.nodes root ≡ Some r → KeepsKindAndOwners root_node r → after_all directory new (dump_of es) ≡ tree
  by_entries [] up gets long there r is keeps = let none : None ≡ Some r = sym (gets root) ∙ is in absurd cc
  by_entries ((path, node) ∷ rest) up gets long (here, there) r is keeps = by (same root path) refl
    where
      by : (b : Bool) → same root path ≡ b → after_all directory new (dump_of ((path, node) ∷ rest)) ≡ tree
      by true first_is =
          let path_is_root : root ≡ path = same-is root path first_is in
          let node_is : r ≡ node =
          let found : Some r ≡ Some node = sym is ∙ ap (map.get tree.nodes) path_is_root ∙ here in cc in
          let as_is : ((root, r) ∷ rest) ≡ ((path, node) ∷ rest) = ap₂ (λ (p : List ℕ) (n : Node). (p, n) ∷ rest) path_is_root node_is in
          subst (λ (es : List Entry). after_all directory new (dump_of es) ≡ tree) as_is
          (made_again r keeps rest (ap (λ p. below_all p rest) path_is_root ∙ and_left _ _ up)
          (λ q. subst (λ (es : List Entry). map.get tree.nodes q ≡ found_in q es) (sym as_is) (gets q))
          (subst (λ (es : List Entry). map.len tree.nodes ≡ length es) (sym as_is) long)
          (subst (λ (es : List Entry). ascend es ≡ true) (sym as_is) up)
          (subst (λ (es : List Entry). AllByRecursion Found es) (sym as_is) (here, there)))
      by false other =
          let behind : order root path ≡ Less =
          root_first path (path_is (path, node) here) (λ same_path. true≢false (sym (same-itself root) ∙ ap (same root) (sym same_path) ∙ other)) in
          let none : found_in root ((path, node) ∷ rest) ≡ None =
          not_found root ((path, node) ∷ rest) (ap₂ (λ a b. a && b) (ap is_lt behind) (below_further root path rest behind (and_left _ _ up))) in
          let never : None ≡ Some r = sym none ∙ sym (gets root) ∙ is in
          absurd cc

  by_root : (found : Option Node) → map.get tree.nodes root ≡ found → IsSomeAnd found (KeepsKindAndOwners root_node) → after_all directory new (dump tree) ≡ tree
  by_root None is keeps = absurd keeps
  by_root (Some r) is keeps =
      let es : List Entry = map.entries tree.nodes in
      let up : ascend es ≡ true = truth (ascend es) (entries_sorted tree.nodes) in
      let there : AllByRecursion Found es =
      weaker (λ e. found_in e.0 es ≡ Some e.1) Found (λ e found. get-entries tree.nodes e.0 ∙ found) es (found_each es es (λ q node found. found) up) in
      by_entries es up (get-entries tree.nodes) (len-entries tree.nodes) there r is keeps

pub dumps_make_the_tree : DumpsMakeTheTree
dumps_make_the_tree directory tree made names =
    by_root directory tree made names (map.get tree.nodes root) refl
    (subst (λ (t : NodesUnderUmask). IsSomeAnd (map.get t.nodes root) (KeepsKindAndOwners (root_node directory tree made names))) (sym made.made)
    (nodes_stay directory (new directory tree made names) made.requests root (root_node directory tree made names) (root_there directory tree made names)))
