-- What a run of sessions prints.
use Rattle.std.specs.Prelude.{◌≡◌, ◌⊎◌, ℕ, Bool, false, List, [], ◌∷◌, Option, None, Vec, map}
use Rattle.std.specs.declared.alloc.Global.{Global}
use Rattle.acl_names.specs.Directory.{Known}
use Rattle.acl_tree.specs.Tree.{NodesUnderUmask}
use Rattle.acl_setup.specs.Opened.{Opens}
use Rattle.acl_service.specs.Runs.{session_text}
use Rattle.acl_service.specs.RunText.{run_text}
use Rattle.acl_service.specs.Sessions.{ExplainsSessions}
use Rattle.acl_service.specs.declared.sessions.report.Report.{Report}

-- one session by itself, of which neither the journal nor a limit is asked for: what it prints
pub record IsOfOne (known : Known) (tree : NodesUnderUmask) (texts : List (Vec ℕ Global))
    (with_journal : Bool) (limit : Option ℕ) (printed : List ℕ) : Type 0 where
  pub text : Vec ℕ Global
  pub only : texts ≡ text ∷ []
  pub no_journal : with_journal ≡ false
  pub no_limit : limit ≡ None
  pub is : printed ≡ session_text known tree text.items

-- the outputs of sessions that a report explains, and if it is asked for its journal
pub record IsOfReport (known : Known) (tree : NodesUnderUmask) (texts : List (Vec ℕ Global))
    (with_journal : Bool) (limit : Option ℕ) (printed : List ℕ) : Type 0 where
  pub report : Report
  pub explains : ExplainsSessions known tree limit texts report
  pub is : printed ≡ run_text with_journal report.journal.items
      (map (λ output. output.items) report.outputs.items)

-- over the directory and the tree that the setup opens, the texts print this
pub record Prints (setup : List ℕ) (texts : List (Vec ℕ Global)) (with_journal : Bool)
    (limit : Option ℕ) (printed : List ℕ) : Type 0 where
  pub known : Known
  pub tree : NodesUnderUmask
  pub opened : Opens setup known tree
  pub is : IsOfOne known tree texts with_journal limit printed
      ⊎ IsOfReport known tree texts with_journal limit printed

-- what the texts print went out so: all of it, or a front
pub record RunsTexts (setup : List ℕ) (texts : List (Vec ℕ Global)) (with_journal : Bool)
    (limit : Option ℕ) (WentOut : List ℕ → Type 0) : Type 0 where
  pub printed : List ℕ
  pub prints : Prints setup texts with_journal limit printed
  pub out : WentOut printed
