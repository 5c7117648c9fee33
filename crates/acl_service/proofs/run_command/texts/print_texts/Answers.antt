use Rattle.std.proofs.Common.{◌≡◌, ◌∷◌, [], ℕ, Bool, List, Option, Some, None, Vec, Global, false, inl, inr, refl, rules, is_some, true≢false}
use Rattle.std.proofs.lemmas.Result.{on_ok_weaker}
use Rattle.acl_names.specs.Directory.{Known}
use Rattle.acl_tree.specs.Tree.{NodesUnderUmask}
use Rattle.acl_setup.specs.Opened.{Opens}
use Rattle.acl_service.specs.RunTexts.{IsOfReport, Prints, RunsTexts}
use Rattle.acl_service.specs.Runs.{session_text}
use Rattle.acl_service.proofs.PrintLemmas.{only_one}
use Rattle.acl_service.proofs.run_command.texts.print_texts.Given as given
use Rattle.acl_service.proofs.run_command.texts.print_texts.Goals as goal

none_held : (limit : Option ℕ) → is_some limit ≡ false → limit ≡ None
none_held None none = refl
none_held (Some errors) none = absurd (true≢false none)

-- what a report explains over what the setup opens, the texts print
over_report : (setup : List ℕ) (known : Known) (tree : NodesUnderUmask) (texts : List (Vec ℕ Global)) (journal : Bool) (limit : Option ℕ) (WentOut : List ℕ → Type 0)
    → Opens setup known tree → (text : List ℕ) × IsOfReport known tree texts journal limit text × WentOut text → RunsTexts setup texts journal limit WentOut
over_report setup known tree texts journal limit WentOut opened (text, is, out) =
    record { printed = text; prints = record { known = known; tree = tree; opened = opened; is = inr is }; out = out }

-- one session by itself is what the texts print
prints_alone : (g : given.Over) (c : goal.After-drop-directory-inside-in-len1-7 g)
    → Prints c.args.setup.now c.args.texts.now c.args.options.journal c.args.options.max_errors (session_text c.in_ok-directory.directory c.in_ok-directory.tree c.text-item.result.items)
prints_alone g c =
    let known = c.in_ok-directory.directory in
    let tree = c.in_ok-directory.tree in
    let text = c.text-item.result in
    let opened : Opens c.args.setup.now known tree = c.in_ok-directory.ensures.opened in
    let only : c.args.texts.now ≡ text ∷ [] = only_one c.args.texts.now text (search rules) (search rules) (search rules) in
    let no_journal : c.args.options.journal ≡ false = search rules in
    let no_limit : c.args.options.max_errors ≡ None = none_held c.args.options.max_errors c.if-is_none.ensures in
    record { known = known; tree = tree; opened = opened; is = inl (record { text = text; only = only; no_journal = no_journal; no_limit = no_limit; is = refl }) }

pub returns-in-len1-clause-printed : goal.returns-in-len1-clause-printed
returns-in-len1-clause-printed g c =
    on_ok_weaker c.print_session.result (λ written. record {
      printed = session_text c.in_ok-directory.directory c.in_ok-directory.tree c.text-item.result.items;
      prints = prints_alone g c;
      out = search (rules, written);
    }) c.print_session.ensures.printed

pub returns-in-len1-clause-cut : goal.returns-in-len1-clause-cut
returns-in-len1-clause-cut g c lost =
    let cut = c.print_session.ensures.cut lost in
    record {
      printed = session_text c.in_ok-directory.directory c.in_ok-directory.tree c.text-item.result.items;
      prints = prints_alone g c;
      out = (cut.0, search (rules, cut.1));
    }

pub returns-clause-printed : goal.returns-clause-printed
returns-clause-printed g c =
    on_ok_weaker c.print_sessions.result (over_report _ _ _ _ _ _ _ c.in_ok-directory.ensures.opened) c.print_sessions.ensures.printed

pub returns-clause-cut : goal.returns-clause-cut
returns-clause-cut g c lost = over_report _ _ _ _ _ _ _ c.in_ok-directory.ensures.opened (c.print_sessions.ensures.cut lost)
