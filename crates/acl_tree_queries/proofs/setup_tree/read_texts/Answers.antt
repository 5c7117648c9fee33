use Rattle.std.proofs.Common.{rules, ◌≡◌, ◌<◌, ◌∙◌, ap, arith, inl, refl, subst}
use Rattle.std.proofs.lemmas.Grind.{common_steps}
use Rattle.clap.specs.Words.{found_of, rows_of}
use Rattle.acl_cli.specs.SessionFiles.{HaveBytes, all_names, input_count}
use Rattle.acl_tree_queries.specs.SetupTree.{inputs_in}
use Rattle.acl_tree_queries.specs.TreeMeaning.{IsNamesFailure}
use Rattle.acl_tree_queries.proofs.SetupTreeLemmas.{refused_for_session, refused_for_setup}
use Rattle.acl_tree_queries.proofs.setup_tree.read_texts.Goals as goal

pub returns-then-inputs_among-gt1-clause-refused : goal.returns-then-inputs_among-gt1-clause-refused
returns-then-inputs_among-gt1-clause-refused g c =
    let rows = rows_of (found_of c.args.matches.now) in
    let counted : c.inputs_among.result ≡ inputs_in rows = c.inputs_among.ensures ∙ ap (λ names. input_count (all_names names)) c.names_field-names.ensures in
    let over : 1 < c.inputs_among.result = search (rules, arith, common_steps) in
    inl (refl, subst (λ n. 1 < n) counted over)

pub returns-in_err-setup-clause-refused : goal.returns-in_err-setup-clause-refused
returns-in_err-setup-clause-refused g c =
    let rows = rows_of (found_of c.args.matches.now) in
    let is : IsNamesFailure rows c.in_err-setup.field-0.0 = refused_for_setup rows _ c.setup_field.ensures _ c.in_err-setup.ensures.refused in
    search (rules, is)

pub returns-in_err-sessions-clause-untouched : goal.returns-in_err-sessions-clause-untouched
returns-in_err-sessions-clause-untouched g c none =
    c.read_any.ensures.untouched (ap (λ names. input_count (all_names names)) c.names_field-names.ensures ∙ none)

pub returns-in_err-sessions-clause-refused : goal.returns-in_err-sessions-clause-refused
returns-in_err-sessions-clause-refused g c =
    let rows = rows_of (found_of c.args.matches.now) in
    let is : IsNamesFailure rows c.in_err-sessions.field-0.0 = refused_for_session rows _ (ap all_names c.names_field-names.ensures) _ c.in_err-sessions.ensures.refused in
    search (rules, is)

pub returns-clause-sessions : goal.returns-clause-sessions
returns-clause-sessions g c =
    subst (λ names. HaveBytes (g.F.OpenFiles.bytes_of c.args.files.now) (g.I.Read.remaining c.args.input.now) (all_names names) c.in_ok-sessions.sessions.items)
    c.names_field-names.ensures c.in_ok-sessions.ensures.bytes

pub returns-clause-untouched : goal.returns-clause-untouched
returns-clause-untouched g c none =
    c.read_any.ensures.untouched (ap (λ names. input_count (all_names names)) c.names_field-names.ensures ∙ none)
