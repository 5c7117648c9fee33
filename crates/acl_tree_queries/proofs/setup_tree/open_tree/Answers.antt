use Rattle.std.proofs.Common.{◌≡◌, ◌∙◌, List, ℕ, ap, subst, sym}
use Rattle.clap.specs.Words.{found_of, rows_of}
use Rattle.acl_names.specs.Directory.{Known}
use Rattle.acl_setup.specs.Opened.{Opens}
use Rattle.acl_tree_queries.specs.SetupTree.{tree_left}
use Rattle.acl_tree_queries.proofs.MadeLemmas.{tree_at_paths}
use Rattle.acl_tree_queries.proofs.setup_tree.open_tree.Goals as goal

pub returns-clause-opened : goal.returns-clause-opened
returns-clause-opened g c =
    let texts = c.in_ok-texts.texts in
    let tree = c.in_ok-directory.tree in
    let left = c.in_ok-leave_tree.ensures in
    let same : c.in_ok-directory.directory ≡ c.in_ok-leave_tree.field-0.directory = sym left.directory in
    record {
      setup = texts.setup.items;
      sessions = texts.sessions.items;
      setup_is = c.in_ok-texts.ensures.setup;
      sessions_are = c.in_ok-texts.ensures.sessions;
      new = tree;
      opened =
          subst (λ (known : Known). Opens texts.setup.items known tree) same
          (subst (λ (bytes : List ℕ). Opens bytes c.in_ok-directory.directory tree) c.as_slice.ensures.value c.in_ok-directory.ensures.opened);
      left =
          left.tree ∙ ap (tree_left c.in_ok-directory.directory tree) c.as_slice-2.ensures.value
          ∙ ap (λ (known : Known). tree_left known tree texts.sessions.items) same;
    }

pub returns-clause-paths : goal.returns-clause-paths
returns-clause-paths g c =
    tree_at_paths (g.F.OpenFiles.bytes_of c.args.files.now) (g.I.Read.remaining c.args.input.now) (rows_of (found_of c.args.matches.now))
    c.in_ok-leave_tree.field-0.directory c.in_ok-leave_tree.field-0.tree (returns-clause-opened g c)
