-- Trees that sessions leave are made by commands that name paths.
use Rattle.std.proofs.Common.{◌≡◌, ◌∙◌, ◌++◌, ◌+◌, ℕ, Bool, true, false, cond, List, [], ◌∷◌, All}
use Rattle.std.proofs.Common.{Option, Some, Ok, Err, Vec, Global, ap, map as each, refl, sym}
use Rattle.std.proofs.Common.{length, nat_lt, ◌==◌}
use Rattle.std.specs.FinMap as map
use Rattle.std.specs.FinMap.{get-entries, entries_sorted}
use Rattle.std.specs.List.{AllByRecursion, flat_map}
use Rattle.std.proofs.lemmas.List.Elements.{All-append, All-cons, All-nil}
use Rattle.std.proofs.lemmas.List.Sums.{fold-append}
use Rattle.acl_names.specs.Bytes.{hash}
use Rattle.acl_names.specs.Directory.{Known}
use Rattle.acl_names.specs.Pieces.{lines_of, trim}
use Rattle.acl_tree.specs.Apply.{next}
use Rattle.acl_tree.specs.Entries.{Entry}
use Rattle.acl_tree.specs.Path.{is_path}
use Rattle.acl_tree.specs.Requests.{NamesAPath}
use Rattle.acl_tree.specs.Tree.{NodesUnderUmask}
use Rattle.acl_tree.specs.Shape.{NodesAreAtPaths}
use Rattle.acl_tree.specs.TreeLaws.{IsMadeByCommands, after_all}
use Rattle.acl_tree.specs.declared.faults.LineFault.TheVariants.{LineTooLong}
use Rattle.acl_tree.specs.declared.request.Request.{Request}
use Rattle.acl_tree.specs.declared.request.Request.TheVariants.{Get, SetAccess, SetDefault, SetNfs4, Chmod, Create, Check, Check4, Translate, Bad}
use Rattle.acl_tree.proofs.TreeLaws.{trees_have_paths_alone}
use Rattle.acl_audit.proofs.PutLemmas.{ascend, found_each, found_in, truth, weaker}
use Rattle.acl_lang.specs.Commands.{asked_by}
use Rattle.acl_lang.specs.Lines.{line_of, line_of_trimmed, request_of}
use Rattle.acl_lang.specs.Refusals.{Asked}
use Rattle.acl_lang.specs.Shapes.{AsksFor}
use Rattle.acl_lang.specs.Texts.{numbered_request, requests_from, requests_of}
use Rattle.acl_lang.specs.declared.limits.TheConstants.{MAX_LINE_LEN}
use Rattle.acl_lang.specs.declared.line.Line.{Line}
use Rattle.acl_lang.specs.declared.line.Line.TheVariants.{Nothing, Command}
use Rattle.acl_lang.specs.declared.text.Numbered.{Numbered}
use Rattle.acl_lang.proofs.ShapeLemmas.{asked_by-asks}
use Rattle.acl_service.specs.Runs.{tree_after}
use Rattle.clap.specs.Words.{Row, Text}
use Rattle.acl_tree_queries.specs.SetupTree.{IsSetupTree, tree_left}
use Rattle.acl_tree_queries.proofs.OpenedLemmas.{IsRootAlone, opens_a_root_alone}

-- ---- the requests of a text name paths

asks_name_paths : (known : Known) (line : List ℕ) (request : Request) → AsksFor known line request → NamesAPath request
asks_name_paths known line (Get path) asks = asks.1
asks_name_paths known line (SetAccess path acl) asks = asks.2
asks_name_paths known line (SetDefault path default) asks = asks.2
asks_name_paths known line (SetNfs4 path aces) asks = asks.2
asks_name_paths known line (Chmod path mode) asks = asks.2
asks_name_paths known line (Create kind path user mode) asks = asks.3
asks_name_paths known line (Check path user perms) asks = asks.3
asks_name_paths known line (Check4 path user mask) asks = asks.3
asks_name_paths known line (Translate path) asks = asks.1
asks_name_paths known line (Bad fault) asks = absurd asks

abbrev request_in : Numbered → Request
request_in numbered_request = numbered_request.request

-- a line's request, if it has one
abbrev LineNamesAPath : Line → Type 0
LineNamesAPath Nothing = Unit {0}
LineNamesAPath (Command request) = NamesAPath request

asked_names_a_path : (known : Known) (line : List ℕ) (asked : Asked Request) → asked_by known line ≡ asked → NamesAPath (request_of asked)
asked_names_a_path known line (Ok request) is = asks_name_paths known line request (asked_by-asks known line request is)
asked_names_a_path known line (Err fault) is = tt

trimmed_names_a_path : (known : Known) (line : List ℕ) → LineNamesAPath (line_of_trimmed known line)
trimmed_names_a_path known [] = tt
trimmed_names_a_path known (byte ∷ bytes) = by (byte == hash)
  where
    by : (b : Bool) → LineNamesAPath (cond b Nothing (Command (request_of (asked_by known (byte ∷ bytes)))))
    by true = tt
    by false = asked_names_a_path known (byte ∷ bytes) (asked_by known (byte ∷ bytes)) refl

line_names_a_path : (known : Known) (line : List ℕ) → LineNamesAPath (line_of known line)
line_names_a_path known line = by (nat_lt MAX_LINE_LEN (length line))
  where
    by : (b : Bool) → LineNamesAPath (cond b (Command (Bad LineTooLong)) (line_of_trimmed known (trim line)))
    by true = tt
    by false = trimmed_names_a_path known (trim line)

one_more_names : (line : ℕ) (one : Line) (more : List Numbered) → LineNamesAPath one → All NamesAPath (each request_in more)
    → All NamesAPath (each request_in (numbered_request line one ++ more))
one_more_names line Nothing more names are = are
one_more_names line (Command request) more names are = All-cons NamesAPath request (each request_in more) names are

requests_name_paths : (known : Known) (before : ℕ) (lines : List (List ℕ)) → All NamesAPath (each request_in (requests_from known before lines))
requests_name_paths known before [] = All-nil NamesAPath
requests_name_paths known before (line ∷ lines) =
    one_more_names (before + 1) (line_of known line) (requests_from known (before + 1) lines) (line_names_a_path known line)
    (requests_name_paths known (before + 1) lines)

-- ---- the trees that texts leave are made by commands

pub after_numbered : (known : Known) (tree : NodesUnderUmask) (requests : List Numbered) → tree_after known tree requests ≡ after_all known tree (each request_in requests)
after_numbered known tree [] = refl
after_numbered known tree (one ∷ more) = after_numbered known (next known tree one.request) more

abbrev pub requests_in : Known → List (Vec ℕ Global) → List Request
requests_in known texts = flat_map (λ text. each request_in (requests_of known text.items)) texts

pub left_is : (known : Known) (tree : NodesUnderUmask) (texts : List (Vec ℕ Global)) → tree_left known tree texts ≡ after_all known tree (requests_in known texts)
left_is known tree [] = refl
left_is known tree (text ∷ texts) =
    let requests = requests_of known text.items in
    left_is known (tree_after known tree requests) texts
    ∙ ap (λ (t : NodesUnderUmask). after_all known t (requests_in known texts)) (after_numbered known tree requests)
    ∙ sym (fold-append (next known) tree (each request_in requests) (requests_in known texts))

pub all_name_paths : (known : Known) (texts : List (Vec ℕ Global)) → All NamesAPath (requests_in known texts)
all_name_paths known [] = All-nil NamesAPath
all_name_paths known (text ∷ texts) =
    All-append NamesAPath (each request_in (requests_of known text.items)) (requests_in known texts)
    (requests_name_paths known 0 (lines_of text.items)) (all_name_paths known texts)

-- ---- the trees that files give

-- what sessions leave on a tree of a root alone
abbrev pub made_by_sessions : (known : Known) (new tree : NodesUnderUmask) → IsRootAlone new → (sessions : List (Vec ℕ Global)) → tree ≡ tree_left known new sessions → IsMadeByCommands known tree
made_by_sessions known new tree alone sessions left = record {
  owner = alone.owner;
  group = alone.group;
  mode = alone.mode;
  style = alone.style;
  umask = alone.umask;
  requests = requests_in known sessions;
  made = left ∙ left_is known new sessions ∙ ap (λ (t : NodesUnderUmask). after_all known t (requests_in known sessions)) alone.is;
}

-- they have nodes at paths alone
pub tree_at_paths : (bytes_of : Text → Option (List ℕ)) (input : Option (List ℕ)) (rows : List Row) (known : Known) (tree : NodesUnderUmask) → IsSetupTree bytes_of input rows known tree
    → NodesAreAtPaths tree
tree_at_paths bytes_of input rows known tree files =
    let alone = opens_a_root_alone files.setup known files.new files.opened in
    trees_have_paths_alone known tree (made_by_sessions known files.new tree alone files.sessions files.left) (all_name_paths known files.sessions)

-- and so have their entries
pub entries_at_paths : (tree : NodesUnderUmask) → NodesAreAtPaths tree → AllByRecursion (λ (e : Entry). is_path e.0 ≡ true) (map.entries tree.nodes)
entries_at_paths tree are =
    let es : List Entry = map.entries tree.nodes in
    let up : ascend es ≡ true = truth (ascend es) (entries_sorted tree.nodes) in
    weaker (λ e. found_in e.0 es ≡ Some e.1) (λ e. is_path e.0 ≡ true) (λ e found. are e.0 e.1 (get-entries tree.nodes e.0 ∙ found)) es
    (found_each es es (λ q node found. found) up)
