-- What a run over the service comes to on its tree.
use Rattle.std.specs.List.{AllByRecursion, flat_map}
use Rattle.std.specs.declared.vec.Vec.{Vec}
use Rattle.std.specs.declared.alloc.Global.{Global}
use Rattle.std.proofs.Common.{ap, sym, ◌∙◌, subst, arith, get_or, ◌≡◌, ℕ, ◌<◌, List, [], ◌∷◌, length, map, refl, Option, None, if◌then◌else◌, ◌==◌, eq-eqb}
use Rattle.std.proofs.lemmas.List.{get_or-map, length-map, map-id}
use Rattle.acl_broker.specs.Journal.{items_from, state_after, answers_to}
use Rattle.acl_broker.specs.Points.{EachSession}
use Rattle.acl_broker.specs.declared.steps.JournalEntry.{JournalEntry}
use Rattle.acl_broker.proofs.EachSessions.{each_session, of_session, as_many}
use Rattle.acl_names.specs.Directory.{Known}
use Rattle.acl_tree.specs.Tree.{NodesUnderUmask}
use Rattle.acl_lang.specs.Printed.{answer_text, answers_text}
use Rattle.acl_lang.specs.Texts.{requests_of}
use Rattle.acl_lang.specs.declared.answer.Answer.{Answer}
use Rattle.acl_lang.specs.declared.text.Numbered.{Numbered}
use Rattle.acl_runs.specs.ErrorLimit.{IsServedUpTo}
use Rattle.acl_runs.specs.RunReport.{IsReport}
use Rattle.acl_service.specs.Runs.{answer_to, answers_of, tree_after, tree_after_one}
use Rattle.acl_service.specs.Served.{next_served, reply_served}
use Rattle.acl_service.specs.Sessions.{ExplainsSessions, IsServedAlone, answer_handling, answers_in, is_error, requests_of_each, tree_after_journal}
use Rattle.acl_service.specs.ReportOf.{IsReportOf, report_of}
use Rattle.acl_runs.specs.declared.report.RunReport.{RunReport}
use Rattle.acl_service.specs.declared.served.Served.{Served}
use Rattle.acl_service.specs.declared.sessions.report.Report.{Report}

-- the service answers as its tree does
pub served_answers : (session : ℕ) (served : Served) (journal : List (JournalEntry Numbered))
    → answers_to next_served reply_served session served journal
    ≡ answers_in served.directory.now served.tree journal session
served_answers session served [] = refl
served_answers session served (entry ∷ journal) =
    ap (λ answers. if entry.session == session then reply_served served entry.item ∷ answers else answers) (served_answers session (next_served served entry.item) journal)

-- and its tree is the journal's result
pub served_tree : (served : Served) (journal : List (JournalEntry Numbered)) → (state_after next_served served journal).tree ≡ tree_after_journal served.directory.now served.tree journal
served_tree served [] = refl
served_tree served (entry ∷ journal) = served_tree (next_served served entry.item) journal

-- what is reported for a run explains its sessions
pub explains : (served : Served) (limit : Option ℕ) (texts : List (Vec ℕ Global)) (run : RunReport Served (JournalEntry Numbered) Answer)
    → IsReport next_served reply_served (answer_handling served.directory.now) served limit (requests_of_each served.directory.now texts) run
    → ExplainsSessions served.directory.now served.tree limit texts (report_of run)
explains served limit texts run is =
    let known = served.directory.now in
    let journal = run.journal.items in
    let wanted = requests_of_each known texts in
    let count : length wanted ≡ length texts = length-map texts (λ text. requests_of known text.items) in
    let within = λ (session : ℕ) (below : session < length texts). subst (λ n. session < n) (sym count) below in
    record {
      entries = subst (λ n. AllByRecursion (λ entry. entry.session < n) journal) count is.known;
      served = each_session _ _ texts refl (λ session none below.
          subst (λ requests. IsServedUpTo is_error limit requests (items_from session journal)
          (answers_in known served.tree journal session))
          (get_or-map (λ text. requests_of known text.items) texts session none [] below)
          (subst (λ answers. IsServedUpTo is_error limit (get_or wanted session [])
          (items_from session journal) answers) (served_answers session served journal)
          (of_session _ _ _ is.served session [] (within session below))));
      answers = each_session _ _ run.answers.items (as_many _ _ _ is.answers ∙ count) (λ session none below.
          of_session _ _ _ is.answers session none (within session below)
          ∙ map-id (answers_to next_served reply_served session served journal) ∙ served_answers session served journal);
      outputs = each_session _ _ run.outputs.items (as_many _ _ _ is.outputs ∙ count) (λ session none below.
          of_session _ _ _ is.outputs session none (within session below)
          ∙ ap (λ answers. flat_map (answer_text known) answers) (served_answers session served journal));
      result = ap (λ state. state.tree) is.state ∙ served_tree served journal;
    }

-- the same, of the report, if the run is of sessions that want the texts' requests
pub explained : (served : Served) (limit : Option ℕ) (texts : List (Vec ℕ Global)) (wanted : List (List Numbered)) (run : RunReport Served (JournalEntry Numbered) Answer) (report : Report)
    → wanted ≡ requests_of_each served.directory.now texts → report ≡ report_of run
    → IsReport next_served reply_served (answer_handling served.directory.now) served limit wanted run
    → ExplainsSessions served.directory.now served.tree limit texts report
explained served limit texts wanted run report wanted_are is_reported is =
    subst (λ report. ExplainsSessions served.directory.now served.tree limit texts report) (sym is_reported)
    (explains served limit texts run (subst (λ wanted. IsReport next_served reply_served (answer_handling served.directory.now) served limit wanted run) wanted_are is))

-- and so does a report that has the run's entries in a list of its own
pub explained_by : (known : Known) (tree : NodesUnderUmask) (limit : Option ℕ) (texts : List (Vec ℕ Global)) (run : RunReport Served (JournalEntry Numbered) Answer) (report : Report)
    → IsReportOf run report → ExplainsSessions known tree limit texts (report_of run) → ExplainsSessions known tree limit texts report
explained_by known tree limit texts run report same is = record {
  entries = subst (λ entries. AllByRecursion (λ entry. entry.session < length texts) entries) (sym same.journal) is.entries;
  served = subst (λ entries. EachSession (λ session text. IsServedUpTo is_error limit (requests_of known text.items)
      (items_from session entries) (answers_in known tree entries session)) (length texts) texts) (sym same.journal) is.served;
  answers =
      subst (λ entries. EachSession (λ session answers. answers.items ≡ answers_in known tree entries session) (length texts) report.answers.items) (sym same.journal)
      (subst (λ (answers : Vec (Vec Answer Global) Global). EachSession (λ session kept. kept.items ≡ answers_in known tree run.journal.items session) (length texts) answers.items) (sym same.answers) is.answers);
  outputs =
      subst (λ entries. EachSession (λ session output. output.items ≡ answers_text known (answers_in known tree entries session)) (length texts) report.outputs.items) (sym same.journal)
      (subst (λ (outputs : Vec (Vec ℕ Global) Global). EachSession (λ session output. output.items
      ≡ answers_text known (answers_in known tree run.journal.items session)) (length texts) outputs.items) (sym same.outputs) is.outputs);
  result = same.tree ∙ is.result ∙ ap (λ entries. tree_after_journal known tree entries) (sym same.journal);
}

-- a journal of one session has its items and no others
alone_items : (journal : List (JournalEntry Numbered)) → AllByRecursion (λ entry. entry.session < 1) journal → map (λ entry. entry.item) journal ≡ items_from 0 journal
alone_items [] own = refl
alone_items (entry ∷ journal) own =
    ap (λ items. entry.item ∷ items) (alone_items journal own.1)
    ∙ ap (λ test. if test then entry.item ∷ items_from 0 journal else items_from 0 journal) (sym (eq-eqb entry.session 0 (omega (arith, own.0))))

-- and answers them one after the other
alone_answers : (known : Known) (tree : NodesUnderUmask) (journal : List (JournalEntry Numbered))
    → AllByRecursion (λ entry. entry.session < 1) journal
    → answers_in known tree journal 0 ≡ answers_of known tree (map (λ entry. entry.item) journal)
alone_answers known tree [] own = refl
alone_answers known tree (entry ∷ journal) own =
    let more = answers_in known (tree_after_one known tree entry.item) journal 0 in
    ap (λ test. if test then answer_to known tree entry.item ∷ more else more) (eq-eqb entry.session 0 (omega (arith, own.0)))
    ∙ ap (λ answers. answer_to known tree entry.item ∷ answers) (alone_answers known (tree_after_one known tree entry.item) journal own.1)

-- the outputs of one session
one_output : (text : ℕ → List ℕ) (outputs : List (Vec ℕ Global)) → EachSession (λ session output. output.items ≡ text session) 1 outputs
    → map (λ output. output.items) outputs ≡ text 0 ∷ []
one_output text [] each = absurd each
one_output text (output ∷ []) each = ap (λ items. items ∷ []) each.0
one_output text (output ∷ other ∷ outputs) each = absurd each.1

-- so a run of one session comes to what the session comes to alone
pub served_alone : (known : Known) (tree : NodesUnderUmask) (text : Vec ℕ Global) (report : Report) → ExplainsSessions known tree None (text ∷ []) report → IsServedAlone known tree text.items report
served_alone known tree text report is =
    let journal = report.journal.items in
    let requests : map (λ entry. entry.item) journal ≡ requests_of known text.items = alone_items journal is.entries ∙ is.served.0 in
    record {
      output = one_output (λ session. answers_text known (answers_in known tree journal session)) report.outputs.items is.outputs
          ∙ ap (λ answers. answers_text known answers ∷ []) (alone_answers known tree journal is.entries ∙ ap (λ items. answers_of known tree items) requests);
      result = is.result ∙ ap (λ items. tree_after known tree items) requests;
    }
