-- What is reported for sessions that worked on one tree.
use Rattle.std.specs.Prelude.{◌≡◌, ℕ, ◌<◌, Bool, true, false, List, [], ◌∷◌, length, map, Option}
use Rattle.std.specs.List.{AllByRecursion}
use Rattle.std.specs.declared.vec.Vec.{Vec}
use Rattle.std.specs.declared.alloc.Global.{Global}
use Rattle.acl_names.specs.Directory.{Known}
use Rattle.acl_tree.specs.Tree.{NodesUnderUmask}
use Rattle.acl_tree.specs.declared.reply.Reply.{Reply}
use Rattle.acl_tree.specs.declared.reply.Reply.TheVariants.{Done, Node, Granted, Denied, Translated}
use Rattle.acl_tree.specs.declared.reply.Reply.TheVariants.{TranslatedBoth, Refused, Fault}
use Rattle.acl_lang.specs.Printed.{answer_text, answers_text}
use Rattle.acl_lang.specs.Texts.{requests_of}
use Rattle.acl_lang.specs.declared.answer.Answer.{Answer}
use Rattle.acl_lang.specs.declared.text.Numbered.{Numbered}
use Rattle.acl_broker.specs.Journal.{items_from, answers_to}
use Rattle.acl_broker.specs.Points.{EachSession}
use Rattle.acl_broker.specs.declared.steps.JournalEntry.{JournalEntry}
use Rattle.acl_runs.specs.ErrorLimit.{IsServedUpTo}
use Rattle.acl_runs.specs.Handling.{Handling}
use Rattle.acl_service.specs.Runs.{answer_to, session_text, tree_after, tree_after_one}
use Rattle.acl_service.specs.declared.sessions.report.Report.{Report}

-- a command that was refused, or a line that was none
abbrev pub is_error_reply : Reply → Bool
is_error_reply Done = false
is_error_reply (Node view) = false
is_error_reply Granted = false
is_error_reply Denied = false
is_error_reply (Translated acl) = false
is_error_reply (TranslatedBoth access inherit) = false
is_error_reply (Refused fault) = true
is_error_reply (Fault fault) = true

abbrev pub is_error : Answer → Bool
is_error answer = is_error_reply answer.reply

-- what is made of answers: their text with the names of a directory, and what is kept of each
abbrev pub handling_of : {K : Type 0} → Known → (Answer → K) → Handling Answer K
handling_of {K} known keep = record { text = answer_text known; is_error = is_error; keep = keep }

-- each is kept whole
abbrev pub answer_handling : Known → Handling Answer Answer
answer_handling known = handling_of known (λ answer. answer)

-- the requests of each text
abbrev pub requests_of_each : Known → List (Vec ℕ Global) → List (List Numbered)
requests_of_each known texts = map (λ text. requests_of known text.items) texts

-- the answers to a session's entries in a journal, each by the tree at its place
abbrev pub answers_in : Known → NodesUnderUmask → List (JournalEntry Numbered) → ℕ → List Answer
answers_in known tree journal session = answers_to (tree_after_one known) (answer_to known) session
    tree journal

-- the tree that a journal leads to
abbrev pub tree_after_journal : Known → NodesUnderUmask → List (JournalEntry Numbered)
    → NodesUnderUmask
tree_after_journal known tree journal = tree_after known tree (map (λ entry. entry.item) journal)

-- the report of sessions with these texts that began with this tree
pub record ExplainsSessions (known : Known) (tree : NodesUnderUmask) (limit : Option ℕ)
    (texts : List (Vec ℕ Global)) (report : Report) : Type 0 where
  -- each entry is of a session that has a text,
  pub entries : AllByRecursion (λ entry. entry.session < length texts) report.journal.items
  -- the journal has the whole of each text's requests, up to the session's last error that is
  -- allowed,
  pub served : EachSession (λ session text. IsServedUpTo is_error limit
      (requests_of known text.items) (items_from session report.journal.items)
      (answers_in known tree report.journal.items session)) (length texts) texts
  -- a session's answers are the journal's to it,
  pub answers : EachSession (λ session answers. answers.items
      ≡ answers_in known tree report.journal.items session) (length texts) report.answers.items
  -- its output is what is printed of them,
  pub outputs : EachSession (λ session output. output.items
      ≡ answers_text known (answers_in known tree report.journal.items session)) (length texts)
      report.outputs.items
  -- and the tree is the journal's result
  pub result : report.tree ≡ tree_after_journal known tree report.journal.items

-- a run of one session comes to what the session results in alone
pub record IsServedAlone (known : Known) (tree : NodesUnderUmask) (text : List ℕ) (report : Report)
    : Type 0 where
  pub output : map (λ output. output.items) report.outputs.items
      ≡ session_text known tree text ∷ []
  pub result : report.tree ≡ tree_after known tree (requests_of known text)
