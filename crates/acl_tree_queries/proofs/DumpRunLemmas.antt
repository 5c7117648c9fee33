-- The session that a dump prints makes the tree again.
use Rattle.std.proofs.Common.{◌≡◌, ◌∙◌, ◌+◌, ℕ, Bool, true, false, cond, not, List, [], ◌∷◌, All}
use Rattle.std.proofs.Common.{Option, Some, None, ap, refl, arith}
use Rattle.std.proofs.Common.{bytes_eq, ◌==◌}
use Rattle.std.specs.FinMap as map
use Rattle.std.specs.List.{AllByRecursion, flat_map, list_all}
use Rattle.std.proofs.lemmas.Bool.{not-true}
use Rattle.std.proofs.lemmas.List.Elements.{All-append, All-cons, All-head, All-nil, All-tail}
use Rattle.acl_names.specs.Bytes.{newline}
use Rattle.acl_names.specs.Directory.{Known}
use Rattle.acl_names.proofs.PlainLines.{Lacks}
use Rattle.acl_names.specs.ReadList.{at_most_read}
use Rattle.acl_posix.specs.Entry.{EntryValue}
use Rattle.acl_posix.specs.EntryText.{entry_by}
use Rattle.acl_posix.specs.PermsText.{perms_of_text}
use Rattle.acl_tree.specs.Apply.{next}
use Rattle.acl_tree.specs.Entries.{Entry}
use Rattle.acl_tree.specs.Path.{is_path}
use Rattle.acl_tree.specs.Requests.{NamesAPath}
use Rattle.acl_tree.specs.Tree.{NodesUnderUmask}
use Rattle.acl_tree.specs.TreeLaws.{IsMadeByCommands, after_all}
use Rattle.acl_tree.specs.declared.node_acl.NodeAcl.{NodeAcl}
use Rattle.acl_tree.specs.declared.node_acl.NodeAcl.TheVariants.{Posix, Nfs4}
use Rattle.acl_tree.specs.declared.request.Request.{Request}
use Rattle.acl_tree.specs.declared.request.Request.TheVariants.{SetAccess, SetDefault, SetNfs4, Create}
use Rattle.acl_tree.proofs.TreeLaws.{trees_have_paths_alone}
use Rattle.acl_audit.specs.Dump.{close_command, creation, dump, make_commands, set_commands, no_mode, root, set_default, set_lists}
use Rattle.acl_audit.proofs.DumpLemmas.{dumps_make_the_tree}
use Rattle.acl_audit.proofs.PutLemmas.{and_left, and_right}
use Rattle.acl_lang.specs.CommandText.{ReadsAgain, numbered_from}
use Rattle.acl_lang.specs.Commands.{command, set_access}
use Rattle.acl_lang.specs.Lines.{line_of}
use Rattle.acl_lang.specs.Texts.{requests_of}
use Rattle.acl_lang.specs.declared.line.Line.TheVariants.{Command}
use Rattle.acl_lang.proofs.CommandLemmas.{session_behind}
use Rattle.acl_service.specs.Runs.{tree_after}
use Rattle.acl_tree_queries.specs.DumpLaws.{DumpsMakeTheTreeAgain}
use Rattle.acl_tree_queries.specs.DumpText.{IsDumped, closing_line}
use Rattle.acl_tree_queries.proofs.MadeLemmas.{all_name_paths, entries_at_paths, made_by_sessions}
use Rattle.acl_tree_queries.proofs.OpenedLemmas.{opens_a_root_alone}

-- ---- the requests of a dump name paths

creation_names_a_path : (entry : Entry) → is_path entry.0 ≡ true → All NamesAPath (creation entry)
creation_names_a_path entry is = by (bytes_eq entry.0 root)
  where
    by : (b : Bool) → All NamesAPath (cond b [] (Create entry.1.kind entry.0 entry.1.owner no_mode ∷ []))
    by true = All-nil NamesAPath
    by false = All-cons NamesAPath (Create entry.1.kind entry.0 entry.1.owner no_mode) [] is (All-nil NamesAPath)

default_names_a_path : (path : List ℕ) (default : Option (List EntryValue)) → is_path path ≡ true → All NamesAPath (set_default path default)
default_names_a_path path None is = All-nil NamesAPath
default_names_a_path path (Some default) is = All-cons NamesAPath (SetDefault path (Some default)) [] is (All-nil NamesAPath)

lists_name_a_path : (path : List ℕ) (acl : NodeAcl) → is_path path ≡ true → All NamesAPath (set_lists path acl)
lists_name_a_path path (Posix access default) is =
    All-cons NamesAPath (SetAccess path access) (set_default path default) is (default_names_a_path path default is)
lists_name_a_path path (Nfs4 acl) is = All-cons NamesAPath (SetNfs4 path acl) [] is (All-nil NamesAPath)

each_names_a_path : (lines : Entry → List Request) → ((entry : Entry) → is_path entry.0 ≡ true → All NamesAPath (lines entry)) → (entries : List Entry)
    → AllByRecursion (λ entry. is_path entry.0 ≡ true) entries → All NamesAPath (flat_map lines entries)
each_names_a_path lines names [] are = All-nil NamesAPath
each_names_a_path lines names (entry ∷ entries) (is, are) =
    All-append NamesAPath (lines entry) (flat_map lines entries) (names entry is) (each_names_a_path lines names entries are)

-- ---- the whole

all_read_again : (requests : List Request) → All IsDumped requests → All NamesAPath requests → All ReadsAgain requests
all_read_again [] dumped names = All-nil ReadsAgain
all_read_again (request ∷ more) dumped names =
    let here : IsDumped request = All-head IsDumped request more dumped in
    All-cons ReadsAgain request more (here.1 (All-head NamesAPath request more names), here.0)
    (all_read_again more (All-tail IsDumped request more dumped) (All-tail NamesAPath request more names))

after_numbered_from : (known : Known) (tree : NodesUnderUmask) (before : ℕ) (requests : List Request)
    → tree_after known tree (numbered_from before requests) ≡ after_all known tree requests
after_numbered_from known tree before [] = refl
after_numbered_from known tree before (request ∷ more) = after_numbered_from known (next known tree request) (before + 1) more

making_names_paths : (known : Known) (tree : NodesUnderUmask) (made : IsMadeByCommands known tree) → All NamesAPath made.requests → All NamesAPath (make_commands tree)
making_names_paths known tree made names =
    let es : List Entry = map.entries tree.nodes in
    let are = entries_at_paths tree (trees_have_paths_alone known tree made names) in
    All-append NamesAPath (flat_map creation es) (flat_map set_commands es) (each_names_a_path creation creation_names_a_path es are)
    (each_names_a_path set_commands (λ entry is. lists_name_a_path entry.0 entry.1.acl is) es are)

-- the first line, in another way to write it than that of the others, closes the root
closing_again : (known : Known) → line_of known closing_line ≡ Command close_command
unfolding command set_access at_most_read entry_by perms_of_text
closing_again known = refl

lacks_newline : (text : List ℕ) → list_all (λ byte. not (byte == newline)) text ≡ true → Lacks newline text
lacks_newline [] none = All-nil (λ byte. (byte == newline) ≡ false)
lacks_newline (byte ∷ bytes) none =
    All-cons (λ one. (one == newline) ≡ false) byte bytes (not-true (byte == newline) (and_left _ _ none)) (lacks_newline bytes (and_right _ _ none))

closing_lacks_newline : Lacks newline closing_line
closing_lacks_newline = lacks_newline closing_line refl

pub dumps_make_the_tree_again : DumpsMakeTheTreeAgain
dumps_make_the_tree_again bytes_of input rows known tree text files is =
    let new = files.new in
    let alone = opens_a_root_alone files.setup known new files.opened in
    let made : IsMadeByCommands known tree = made_by_sessions known new tree alone files.sessions files.left in
    let names : All NamesAPath made.requests = all_name_paths known files.sessions in
    let again : All ReadsAgain (make_commands tree) = all_read_again (make_commands tree) is.dumped (making_names_paths known tree made names) in
    ap (λ bytes. tree_after known new (requests_of known bytes)) is.text_is
    ∙ ap (tree_after known new) (session_behind known closing_line close_command (omega arith) closing_lacks_newline (closing_again known) (make_commands tree) again)
    ∙ after_numbered_from known new 0 (dump tree)
    ∙ ap (λ (t : NodesUnderUmask). after_all known t (dump tree)) alone.is
    ∙ dumps_make_the_tree known tree made names
