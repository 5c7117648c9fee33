-- The faults of lines that a session answers are those that are reported.
use Rattle.std.proofs.Common.{◌≡◌, ◌∙◌, ◌+◌, ◌++◌, ℕ, Bool, true, false, List, [], ◌∷◌, Some, None, Ok, Err, ap₂, map, refl, sym}
use Rattle.std.proofs.lemmas.List.{map-append}
use Rattle.acl_names.specs.Directory.{Known, requester_of}
use Rattle.acl_names.specs.Pieces.{lines_of}
use Rattle.acl_nfs4.specs.Evaluation.{grants4}
use Rattle.acl_nfs4.specs.Mask.{mask_bits}
use Rattle.acl_posix.specs.Perms.{bits_of}
use Rattle.acl_tree.specs.Apply.{reply_to_change, next, reply, reply_to_question}
use Rattle.acl_tree.specs.Commands.{change_mode, create, granted_or_denied, node_at, set_access, set_default, set_nfs4, translation_reply}
use Rattle.acl_tree.specs.NodeAcls.{PosixLists, nfs4_list, posix_lists}
use Rattle.acl_tree.specs.Nodes.{may, view_of}
use Rattle.acl_tree.specs.Steps.{Outcome, ◌>>=◌}
use Rattle.acl_tree.specs.Tree.{NodesUnderUmask}
use Rattle.acl_tree.specs.declared.faults.LineFault.{LineFault}
use Rattle.acl_tree.specs.declared.node.Node.{Node}
use Rattle.acl_tree.specs.declared.reply.Reply.TheVariants as reply
use Rattle.acl_tree.specs.declared.reply.View.{View}
use Rattle.acl_tree.specs.declared.request.Request.{Request}
use Rattle.acl_tree.specs.declared.request.Request.TheVariants as request
use Rattle.acl_lang.specs.Lines.{line_of}
use Rattle.acl_lang.specs.Texts.{numbered_request, requests_from}
use Rattle.acl_lang.specs.declared.line.Line.{Line}
use Rattle.acl_lang.specs.declared.line.Line.TheVariants.{Nothing, Command}
use Rattle.acl_lang.specs.declared.text.Numbered.{Numbered}
use Rattle.acl_service.specs.Runs.{answers_of}
use Rattle.acl_lint.specs.LintLaws.{ReportsWhatIsAnswered, fault_replied, faults_answered, reported_of}
use Rattle.acl_lint.specs.LintText.{Found, found_from, found_in_read, found_in_request}

-- the reply to a command is none of a faulty line
module _ (line : ℕ) where
  none_of_change : (outcome : Outcome NodesUnderUmask) → fault_replied line (reply_to_change outcome) ≡ []
  none_of_change (Ok changed) = refl
  none_of_change (Err fault) = refl

  none_of_view : (found : Outcome Node) (view : Node → View) → fault_replied line (reply_to_question (found >>= (λ node. Ok (reply.Node (view node))))) ≡ []
  none_of_view (Ok node) view = refl
  none_of_view (Err fault) view = refl

  none_of_grant : (grants : Bool) → fault_replied line (granted_or_denied grants) ≡ []
  none_of_grant true = refl
  none_of_grant false = refl

  none_of_check : (found : Outcome Node) (grants : Node → Bool) → fault_replied line (reply_to_question (found >>= (λ node. Ok (granted_or_denied (grants node))))) ≡ []
  none_of_check (Ok node) grants = none_of_grant (grants node)
  none_of_check (Err fault) grants = refl

  none_of_list : {A : Type 0} (list : Outcome A) (grants : A → Bool) → fault_replied line (reply_to_question (list >>= (λ acl. Ok (granted_or_denied (grants acl))))) ≡ []
  none_of_list (Ok acl) grants = none_of_grant (grants acl)
  none_of_list (Err fault) grants = refl

  none_of_check4 : {A : Type 0} (found : Outcome Node) (list : Node → Outcome A) (grants : Node → A → Bool)
      → fault_replied line (reply_to_question (found >>= (λ node. list node >>= (λ acl. Ok (granted_or_denied (grants node acl)))))) ≡ []
  none_of_check4 (Ok node) list grants = none_of_list (list node) (grants node)
  none_of_check4 (Err fault) list grants = refl

  none_of_lists : (lists : Outcome PosixLists) → fault_replied line (reply_to_question (lists >>= (λ lists. Ok (translation_reply lists.access lists.default)))) ≡ []
  none_of_lists (Ok lists) = go lists.default
    where
      go : (default : _) → fault_replied line (translation_reply lists.access default) ≡ []
      go None = refl
      go (Some default) = refl
  none_of_lists (Err fault) = refl

  none_of_translation : (found : Outcome Node) (lists : Node → Outcome PosixLists)
      → fault_replied line (reply_to_question (found >>= (λ node. lists node >>= (λ lists. Ok (translation_reply lists.access lists.default))))) ≡ []
  none_of_translation (Ok node) lists = none_of_lists (lists node)
  none_of_translation (Err fault) lists = refl

-- what is reported for a request, and what its reply reports
of_request : (known : Known) (tree : NodesUnderUmask) (line : ℕ) (bytes : List ℕ) (asked : Request)
    → map reported_of (found_in_request known line bytes asked) ≡ fault_replied line (reply known tree asked)
of_request known tree line bytes (request.Get path) = sym (none_of_view line (node_at tree path) (view_of path))
of_request known tree line bytes (request.SetAccess path acl) = sym (none_of_change line (set_access tree path acl))
of_request known tree line bytes (request.SetDefault path default) = sym (none_of_change line (set_default tree path default))
of_request known tree line bytes (request.SetNfs4 path acl) = sym (none_of_change line (set_nfs4 tree path acl))
of_request known tree line bytes (request.Chmod path mode) = sym (none_of_change line (change_mode tree path mode))
of_request known tree line bytes (request.Create kind path owner mode) = sym (none_of_change line (create known tree kind path owner mode))
of_request known tree line bytes (request.Check path uid perms) =
    sym (none_of_check line (node_at tree path) (λ node. may node (requester_of known uid) (bits_of perms)))
of_request known tree line bytes (request.Check4 path uid mask) =
    sym (none_of_check4 line (node_at tree path) (λ node. nfs4_list node.acl)
    (λ node acl. grants4 acl node.owner node.group (requester_of known uid) (mask_bits mask)))
of_request known tree line bytes (request.Translate path) = sym (none_of_translation line (node_at tree path) (λ node. posix_lists node.acl))
of_request known tree line bytes (request.Bad fault) = refl

-- one line's, and those of the lines after it
answered-next : (known : Known) (tree : NodesUnderUmask) (number : ℕ) (bytes : List ℕ) (more : List Found) (requests : List Numbered)
    → ((tree : NodesUnderUmask) → map reported_of more ≡ faults_answered (answers_of known tree requests))
    → (read : Line) → map reported_of (found_in_read known number bytes read ++ more) ≡ faults_answered (answers_of known tree (numbered_request number read ++ requests))
answered-next known tree number bytes more requests rest Nothing = rest tree
answered-next known tree number bytes more requests rest (Command asked) =
    map-append reported_of (found_in_request known number bytes asked) more
    ∙ ap₂ (λ (a b : List (ℕ × LineFault)). a ++ b) (of_request known tree number bytes asked) (rest (next known tree asked))

answered-from : (known : Known) (tree : NodesUnderUmask) (before : ℕ) (lines : List (List ℕ))
    → map reported_of (found_from known before lines) ≡ faults_answered (answers_of known tree (requests_from known before lines))
answered-from known tree before [] = refl
answered-from known tree before (line ∷ lines) =
    answered-next known tree (before + 1) line (found_from known (before + 1) lines) (requests_from known (before + 1) lines)
    (λ tree. answered-from known tree (before + 1) lines) (line_of known line)

pub reports_what_is_answered : ReportsWhatIsAnswered
reports_what_is_answered known tree text = answered-from known tree 0 (lines_of text)
