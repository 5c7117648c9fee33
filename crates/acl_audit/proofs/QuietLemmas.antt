-- No file of a tree that commands make has a list with an entry that something would inherit.
use Rattle.std.proofs.Common.{◌≡◌, ◌∙◌, ℕ, Bool, true, false, cond, not, ◌&&◌, ◌||◌, ◌==◌, List, [], ◌∷◌}
use Rattle.std.proofs.Common.{◌++◌, length, nat_lt, flat_map, option_map, Option, Some, None, unwrap_or, Ok}
use Rattle.std.proofs.Common.{Err, IfOk, codes, refl, sym, ap, ap₂, subst, eqb-true, eq-eqb}
use Rattle.std.specs.List.{cons_option, list_any}
use Rattle.std.specs.Ordering.{nat_cmp, eq_by_cmp}
use Rattle.std.specs.Cmp.Lexicographic.{slice_cmp, nat_list_cmp_total}
use Rattle.std.specs.FinMap as map
use Rattle.std.specs.FinMap.{get-insert, get-empty}
use Rattle.std.proofs.lemmas.Bool.{true≢false}
use Rattle.acl_names.specs.Bits.{has, without, ◌∩◌, ◌∪◌}
use Rattle.acl_names.specs.Directory.{Known}
use Rattle.acl_names.proofs.BitSets.{has-and, has-or, has-without, has-zero, no_bits}
use Rattle.acl_posix.specs.Entry.{EntryValue}
use Rattle.acl_posix.specs.Mode.{Classes}
use Rattle.acl_nfs4.specs.Ace.{Nfsace4, decides, is_inheritable, plain_ace, unless_empty}
use Rattle.acl_nfs4.specs.Flags.{inheritance_flags, file_inherit, directory_inherit, no_propagate_inherit}
use Rattle.acl_nfs4.specs.Inheritance.{flags_below, has_inheritance, inherited_list, with_inheritance_flags}
use Rattle.acl_nfs4.specs.ModeChange.{denial_of, denials, denied_to, for_others, for_owner, kept_of_list, kept_mask, named_whos, kept_of_part, split, with_mode as chmod4}
use Rattle.acl_nfs4.specs.Who.{flags_of_who}
use Rattle.acl_nfs4.specs.Mask.{mask_of, rest_of}
use Rattle.acl_nfs4.specs.declared.ace.AceType.{AceType}
use Rattle.acl_nfs4.specs.declared.ace.AceType.TheVariants.{Allow, Deny}
use Rattle.acl_nfs4.specs.declared.inheritance.Kind.{Kind}
use Rattle.acl_nfs4.specs.declared.inheritance.Kind.TheVariants.{File, Dir}
use Rattle.acl_nfs4.specs.declared.limits.TheConstants.{MAX_ACES}
use Rattle.acl_nfs4.specs.declared.who.Who.{Who}
use Rattle.acl_nfs4.specs.declared.who.Who.TheVariants as whos
use Rattle.acl_tree.specs.Apply.{after, next}
use Rattle.acl_tree.specs.Commands.{change_at, new_node, node_at, root_alone}
use Rattle.acl_tree.specs.NodeAcls.{acl_at_creation, acl_with_mode, default_of, or_too_many, posix_lists, root_acl}
use Rattle.acl_tree.specs.Nodes.{is_dir, with_access, with_default, with_mode, with_nfs4}
use Rattle.acl_tree.specs.Steps.{Outcome, ◌>>=◌, unless}
use Rattle.acl_tree.specs.Tree.{NodesUnderUmask, put}
use Rattle.acl_tree.specs.TreeLaws.{IsMadeByCommands, after_all}
use Rattle.acl_tree.specs.declared.faults.TreeFault.TheVariants.{DefaultOnFile, InheritOnFile, TooMany}
use Rattle.acl_tree.specs.declared.limits.TheConstants.{MAX_NODES}
use Rattle.acl_tree.specs.declared.node.Node.{Node}
use Rattle.acl_tree.specs.declared.node_acl.NodeAcl.{NodeAcl}
use Rattle.acl_tree.specs.declared.node_acl.NodeAcl.TheVariants.{Posix, Nfs4}
use Rattle.acl_bridge.specs.declared.style.Style.{Style}
use Rattle.acl_tree.specs.declared.request.Request.{Request}
use Rattle.acl_tree.specs.declared.request.Request.TheVariants as request
use Rattle.acl_tree.proofs.FileLaws.{under}
use Rattle.acl_audit.specs.Quiet.{FilesInheritNothing}

-- whether something would inherit the entry
abbrev inherits : Nfsace4 → Bool
inherits ace = not (ace.flags ∩ inheritance_flags == 0)

or_left : (a b : Bool) → (a || b) ≡ false → a ≡ false
or_left true b e = absurd (true≢false e)
or_left false b e = refl

or_right : (a b : Bool) → (a || b) ≡ false → b ≡ false
or_right true b e = absurd (true≢false e)
or_right false b e = e

or_none : (a b : Bool) → a ≡ false → b ≡ false → (a || b) ≡ false
or_none true b e f = absurd (true≢false e)
or_none false b e f = f

any-append : {A : Type 0} (p : A → Bool) (xs ys : List A) → list_any p xs ≡ false → list_any p ys ≡ false → list_any p (xs ++ ys) ≡ false
any-append p [] ys none more = more
any-append p (x ∷ xs) ys none more =
    or_none (p x) (list_any p (xs ++ ys)) (or_left _ _ none) (any-append p xs ys (or_right (p x) (list_any p xs) none) more)

-- none of what is made passes, if nothing that is made of one does
any-flat_map : {A B : Type 0} (p : B → Bool) (q : A → Bool) (f : A → List B) → ((x : A) → q x ≡ false → list_any p (f x) ≡ false)
    → (xs : List A) → list_any q xs ≡ false → list_any p (flat_map f xs) ≡ false
any-flat_map p q f each [] none = refl
any-flat_map p q f each (x ∷ xs) none =
    any-append p (f x) (flat_map f xs) (each x (or_left (q x) (list_any q xs) none)) (any-flat_map p q f each xs (or_right (q x) (list_any q xs) none))

any-flat_map-all : {A B : Type 0} (p : B → Bool) (f : A → List B) → ((x : A) → list_any p (f x) ≡ false)
    → (xs : List A) → list_any p (flat_map f xs) ≡ false
any-flat_map-all p f each [] = refl
any-flat_map-all p f each (x ∷ xs) = any-append p (f x) (flat_map f xs) (each x) (any-flat_map-all p f each xs)

-- ---- a list with a mode set

quiet-unless_empty : (ace : Nfsace4) → inherits ace ≡ false → list_any inherits (unless_empty ace) ≡ false
unfolding unless_empty
quiet-unless_empty ace quiet = by (ace.mask == 0)
  where
    by : (b : Bool) → list_any inherits (cond b [] (ace ∷ [])) ≡ false
    by true = refl
    by false = or_none (inherits ace) false quiet refl

quiet-who : (who : Who) → not (flags_of_who who ∩ inheritance_flags == 0) ≡ false
quiet-who whos.Owner = refl
quiet-who whos.Group = refl
quiet-who whos.Everyone = refl
quiet-who (whos.User uid) = refl
quiet-who (whos.NamedGroup gid) = refl

quiet-plain : (kind : AceType) (who : Who) (mask : ℕ) → list_any inherits (plain_ace kind who mask) ≡ false
quiet-plain kind who mask = quiet-unless_empty (record { kind = kind; flags = flags_of_who who; who = who; mask = mask }) (quiet-who who)

quiet-restricted : (group : ℕ) (ace : Nfsace4) → inherits ace ≡ false → list_any inherits (kept_of_part group ace) ≡ false
unfolding kept_of_part
quiet-restricted group ace quiet = by (decides ace)
  where
    by : (b : Bool) → list_any inherits (cond b (unless_empty (record ace { mask = kept_mask group ace })) (ace ∷ [])) ≡ false
    by true = quiet-unless_empty (record ace { mask = kept_mask group ace }) quiet
    by false = or_none (inherits ace) false quiet refl

not_true : (b : Bool) → not b ≡ false → b ≡ true
not_true true e = refl
not_true false e = absurd (true≢false e)

-- an entry that nothing inherits has no flag of inheritance
no_flags : (ace : Nfsace4) → inherits ace ≡ false → ace.flags ∩ inheritance_flags ≡ 0
no_flags ace quiet = eqb-true (ace.flags ∩ inheritance_flags) 0 (not_true (ace.flags ∩ inheritance_flags == 0) quiet)

and_true : (a : Bool) → (a && true) ≡ a
and_true true = refl
and_true false = refl

lacks_file : (ace : Nfsace4) → inherits ace ≡ false → has ace.flags 0 ≡ false
unfolding has
lacks_file ace quiet =
    sym (and_true (has ace.flags 0)) ∙ sym (has-and ace.flags inheritance_flags 0) ∙ ap (λ (m : ℕ). has m 0) (no_flags ace quiet)

lacks_directory : (ace : Nfsace4) → inherits ace ≡ false → has ace.flags 1 ≡ false
unfolding has
lacks_directory ace quiet =
    sym (and_true (has ace.flags 1)) ∙ sym (has-and ace.flags inheritance_flags 1) ∙ ap (λ (m : ℕ). has m 1) (no_flags ace quiet)

quiet-split : (ace : Nfsace4) → inherits ace ≡ false → list_any inherits (split ace) ≡ false
unfolding split
quiet-split ace quiet =
    let never : is_inheritable ace ≡ false = or_none (has ace.flags 0) (has ace.flags 1) (lacks_file ace quiet) (lacks_directory ace quiet) in
    ap (λ (b : Bool). list_any inherits (cond b
    (record ace { flags = ace.flags ∪ 8 } ∷ record ace { flags = without ace.flags inheritance_flags } ∷ []) (ace ∷ []))) (and_false (decides ace) (is_inheritable ace) never)
    ∙ or_none (inherits ace) false quiet refl
  where
    and_false : (a b : Bool) → b ≡ false → (a && b) ≡ false
    and_false true b e = e
    and_false false b e = refl

quiet-kept : (group : ℕ) (aces : List Nfsace4) → has_inheritance aces ≡ false → list_any inherits (kept_of_list group aces) ≡ false
quiet-kept group aces quiet =
    any-flat_map inherits inherits (kept_of_part group) (quiet-restricted group) (flat_map split aces)
    (any-flat_map inherits inherits split quiet-split aces quiet)

quiet-for_owner : (user : ℕ) → list_any inherits (for_owner user) ≡ false
quiet-for_owner user =
    any-append inherits (plain_ace Allow whos.Owner (mask_of user)) (plain_ace Deny whos.Owner (rest_of user))
    (quiet-plain Allow whos.Owner (mask_of user)) (quiet-plain Deny whos.Owner (rest_of user))

quiet-for_others : (group other : ℕ) → list_any inherits (for_others group other) ≡ false
quiet-for_others group other =
    let first = plain_ace Allow whos.Group (mask_of group) in
    let second = plain_ace Deny whos.Group (rest_of group) in
    let third = plain_ace Allow whos.Everyone (mask_of other) in
    any-append inherits (first ++ second) third
    (any-append inherits first second (quiet-plain Allow whos.Group (mask_of group)) (quiet-plain Deny whos.Group (rest_of group)))
    (quiet-plain Allow whos.Everyone (mask_of other))

-- a list that nothing inherits stays one when its mode is set
quiet-chmod4 : (aces : List Nfsace4) (mode : Classes) → has_inheritance aces ≡ false → has_inheritance (chmod4 aces mode) ≡ false
quiet-chmod4 aces mode quiet =
    let first = for_owner mode.user in
    let second = kept_of_list mode.group aces in
    let third = denials (rest_of mode.group) aces in
    any-append inherits (first ++ second ++ third) (for_others mode.group mode.other)
    (any-append inherits (first ++ second) third
    (any-append inherits first second (quiet-for_owner mode.user) (quiet-kept mode.group aces quiet))
    (any-flat_map-all inherits (denial_of (rest_of mode.group) aces)
    (λ who. quiet-plain Deny who (without (rest_of mode.group) (denied_to who aces))) (named_whos aces)))
    (quiet-for_others mode.group mode.other)

-- ---- a list that a file inherits

quiet-flags : (flags : ℕ) → (without flags inheritance_flags ∪ 0) ∩ inheritance_flags ≡ 0
quiet-flags flags = no_bits ((without flags inheritance_flags ∪ 0) ∩ inheritance_flags) (λ k.
    has-and (without flags inheritance_flags ∪ 0) inheritance_flags k
    ∙ ap (λ (b : Bool). b && has inheritance_flags k)
    (has-or (without flags inheritance_flags) 0 k ∙ ap₂ (λ (a b : Bool). a || b) (has-without flags inheritance_flags k) (has-zero k))
    ∙ none (has flags k) (has inheritance_flags k))
  where
    none : (f i : Bool) → (((f && not i) || false) && i) ≡ false
    none true true = refl
    none true false = refl
    none false true = refl
    none false false = refl

quiet-inherited : (aces : List Nfsace4) → has_inheritance (inherited_list File aces) ≡ false
quiet-inherited [] = refl
quiet-inherited (ace ∷ aces) = by (has ace.flags file_inherit) (quiet-inherited aces)
  where
    by : (b : Bool) → has_inheritance (inherited_list File aces) ≡ false
        → list_any inherits (cons_option (option_map (with_inheritance_flags ace) (flags_below File b (has ace.flags directory_inherit) (has ace.flags no_propagate_inherit)))
        (inherited_list File aces)) ≡ false
    by true rest =
        or_none (inherits (with_inheritance_flags ace 0)) (has_inheritance (inherited_list File aces))
        (ap not (eq-eqb ((without ace.flags inheritance_flags ∪ 0) ∩ inheritance_flags) 0 (quiet-flags ace.flags))) rest
    by false rest = rest

-- ---- the tree

-- nothing would inherit the node's list, if it is a file's
abbrev Quiet : Node → Type 0
Quiet node = (acl : List Nfsace4) → node.kind ≡ File → node.acl ≡ Nfs4 acl → has_inheritance acl ≡ false

abbrev QuietAcl : Kind → NodeAcl → Type 0
QuietAcl kind acl = (aces : List Nfsace4) → kind ≡ File → acl ≡ Nfs4 aces → has_inheritance aces ≡ false

no_file : {A : Type 0} → Dir ≡ File → A
no_file same = absurd (cc)

of_posix : (kind : Kind) (access : List EntryValue) (default : Option (List EntryValue)) → QuietAcl kind (Posix access default)
of_posix kind access default aces file is = absurd (cc)

of_aces : (kind : Kind) (aces : List Nfsace4) → (kind ≡ File → has_inheritance aces ≡ false) → QuietAcl kind (Nfs4 aces)
of_aces kind aces quiet other file is =
    let same : aces ≡ other = cc in
    ap has_inheritance (sym same) ∙ quiet file

within_limit : (kind : Kind) (aces : List Nfsace4) → (kind ≡ File → has_inheritance aces ≡ false) → IfOk (or_too_many aces) (QuietAcl kind)
within_limit kind aces quiet =
    elim (nat_lt MAX_ACES (length aces)) as (λ b. IfOk (cond b (Err TooMany) (Ok (Nfs4 aces))) (QuietAcl kind)) [ true ↦ tt | false ↦ of_aces kind aces quiet ]

of_default : (default : Option (List EntryValue)) (node : Node) → IfOk (with_default default node) Quiet
of_default default node = under Quiet (posix_lists node.acl) _ (λ lists _. under Quiet (unless DefaultOnFile (is_dir node.kind)) _ (λ _ _. of_posix node.kind lists.access default))

of_nfs4 : (aces : List Nfsace4) (kind : Kind) (owner group : ℕ) (old : NodeAcl)
    → IfOk (with_nfs4 aces (record { kind = kind; owner = owner; group = group; acl = old })) Quiet
of_nfs4 aces Dir owner group old = of_aces Dir aces no_file
of_nfs4 aces File owner group old = by (has_inheritance aces) refl
  where
    by : (b : Bool) → has_inheritance aces ≡ b
        → IfOk (unless InheritOnFile (false || not b) >>= (λ _. Ok (record { kind = File; owner = owner; group = group; acl = Nfs4 aces }))) Quiet
    by true is = tt
    by false is = of_aces File aces (λ _. is)

mode_of_list : (kind : Kind) (mode : Classes) (acl : NodeAcl) → QuietAcl kind acl → IfOk (acl_with_mode acl mode) (QuietAcl kind)
mode_of_list kind mode (Posix access default) quiet = of_posix kind _ default
mode_of_list kind mode (Nfs4 aces) quiet = within_limit kind (chmod4 aces mode) (λ file. quiet-chmod4 aces mode (quiet aces file refl))

at_creation : (kind : Kind) (umask : Classes) (above : NodeAcl) (mode : Classes) → IfOk (acl_at_creation kind umask above mode) (QuietAcl kind)
at_creation kind umask (Posix access None) mode = of_posix kind _ _
at_creation kind umask (Posix access (Some default)) mode = of_posix kind _ _
at_creation Dir umask (Nfs4 aces) mode = within_limit Dir (chmod4 (inherited_list Dir aces) mode) no_file
at_creation File umask (Nfs4 aces) mode = within_limit File (chmod4 (inherited_list File aces) mode) (λ _. quiet-chmod4 (inherited_list File aces) mode (quiet-inherited aces))

made : (directory : Known) (tree : NodesUnderUmask) (kind : Kind) (path : List ℕ) (owner : ℕ) (mode : Classes)
    → IfOk (new_node directory tree kind path owner mode) Quiet
made directory tree kind path owner mode = under Quiet (node_at tree _) _ (λ above _. under Quiet (unless _ (not (map.contains_key tree.nodes path))) _ (λ _ _.
    under Quiet (unless _ (is_dir above.kind)) _ (λ _ _. under Quiet (unless _ (nat_lt (map.len tree.nodes) MAX_NODES)) _ (λ _ _.
    under Quiet (acl_at_creation kind tree.umask above.acl mode) _ (λ acl is. subst (λ outcome. IfOk outcome (QuietAcl kind)) is (at_creation kind tree.umask above.acl mode))))))

put_one : (tree : NodesUnderUmask) (path : List ℕ) (node : Node) → FilesInheritNothing tree → Quiet node → FilesInheritNothing (put tree path node)
put_one tree path node all one q found is = by (eq_by_cmp (slice_cmp nat_cmp) q path) (sym (get-insert nat_list_cmp_total tree.nodes path node q) ∙ is)
  where
    by : (b : Bool) → cond b (Some node) (map.get tree.nodes q) ≡ Some found → Quiet found
    by true same = subst Quiet (ap (λ o. unwrap_or o node) same) one
    by false same = all q found same

changed : (tree : NodesUnderUmask) (path : List ℕ) (outcome : Outcome Node) → FilesInheritNothing tree → IfOk outcome Quiet
    → FilesInheritNothing (after tree (outcome >>= (λ node. Ok (put tree path node))))
changed tree path (Ok node) all one = put_one tree path node all one
changed tree path (Err fault) all one = all

at : (tree : NodesUnderUmask) (path : List ℕ) (change : Node → Outcome Node) → FilesInheritNothing tree
    → ((node : Node) → Quiet node → IfOk (change node) Quiet) → FilesInheritNothing (after tree (change_at tree path change))
at tree path change all keeps = by (map.get tree.nodes path) refl
  where
    by : (there : Option Node) → map.get tree.nodes path ≡ there → FilesInheritNothing (after tree (change_at tree path change))
    by (Some node) is = rw is (changed tree path (change node) all (keeps node (all path node is)))
    by None is = rw is all

keeps_quiet : (directory : Known) (tree : NodesUnderUmask) (request : Request) → FilesInheritNothing tree → FilesInheritNothing (next directory tree request)
keeps_quiet directory tree (request.Get path) all = all
keeps_quiet directory tree (request.SetAccess path acl) all = at tree path (with_access acl) all (λ node _. of_posix node.kind acl (default_of node.acl))
keeps_quiet directory tree (request.SetDefault path default) all = at tree path (with_default default) all (λ node _. of_default default node)
keeps_quiet directory tree (request.SetNfs4 path acl) all = at tree path (with_nfs4 acl) all (λ node _. of_nfs4 acl node.kind node.owner node.group node.acl)
keeps_quiet directory tree (request.Chmod path mode) all =
    at tree path (with_mode mode) all (λ node quiet. under Quiet (acl_with_mode node.acl mode) _ (λ acl is.
    subst (λ outcome. IfOk outcome (QuietAcl node.kind)) is (mode_of_list node.kind mode node.acl quiet)))
keeps_quiet directory tree (request.Create kind path owner mode) all =
    changed tree path (new_node directory tree kind path owner mode) all (made directory tree kind path owner mode)
keeps_quiet directory tree (request.Check path uid perms) all = all
keeps_quiet directory tree (request.Check4 path uid mask) all = all
keeps_quiet directory tree (request.Translate path) all = all
keeps_quiet directory tree (request.Bad fault) all = all

all_keep : (directory : Known) (tree : NodesUnderUmask) (requests : List Request) → FilesInheritNothing tree → FilesInheritNothing (after_all directory tree requests)
all_keep directory tree [] all = all
all_keep directory tree (request ∷ requests) all = all_keep directory (next directory tree request) requests (keeps_quiet directory tree request all)

new_is_quiet : (owner group : ℕ) (mode : Classes) (style : Style) (umask : Classes) → FilesInheritNothing (root_alone owner group mode style umask)
new_is_quiet owner group mode style umask =
    put_one (record { umask = umask; nodes = map.empty }) (codes "/") (record { kind = Dir; owner = owner; group = group; acl = root_acl style mode })
    (λ q found is. absurd (subst IsNothing (sym (get-empty (slice_cmp nat_cmp) q) ∙ is) tt)) (λ aces file. no_file file)
  where
    IsNothing : Option Node → Type 0
    IsNothing None = Unit {0}
    IsNothing (Some node) = ⊥

pub files_inherit_nothing : (directory : Known) (tree : NodesUnderUmask) → IsMadeByCommands directory tree → FilesInheritNothing tree
files_inherit_nothing directory tree made =
    subst FilesInheritNothing (sym made.made)
    (all_keep directory (root_alone made.owner made.group made.mode made.style made.umask) made.requests
    (new_is_quiet made.owner made.group made.mode made.style made.umask))
