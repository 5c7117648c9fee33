use Rattle.std.proofs.Common.{rules, ◌≡◌, ◌≤◌, ◌+◌, ◌++◌, ◌∷◌, ◌∙◌, [], ℕ, All, Contains, List, ap, arith, get_or, length, subst, sym, take, Bor, Vec, Global}
use Rattle.clap.specs.Words.{Text}
use Rattle.acl_cli.specs.Failures.{IsUnexplained}
use Rattle.acl_cli.specs.SessionFiles.{HaveBytes, input_count}
use Rattle.acl_cli.proofs.SessionFileLemmas.{HaveBytes-more, input_count-next, input_count-take, none_so_far, refused_among, shown, reported_before}
use Rattle.std.proofs.lemmas.List.Elements.{All-push}
use Rattle.std.proofs.lemmas.List.{map_more}
use Rattle.acl_cli.proofs.session_files.read_sessions.Goals as goal

abbrev no_name : Bor (List ℕ)
no_name = record { ref_ptr = (0, 0); now = [] }

pub loop-name-preserved : goal.loop-name-preserved
loop-name-preserved g c =
    let was = c.loop-name.invariant in
    let names = c.args.names.now in
    let at = c.loop-name.name-index in
    let before = c.loop-name.texts.items in
    let text : Vec ℕ Global = c.in_ok-text.text in
    let after = c.push_reserved.new.self.items in
    let bytes_of = g.F.OpenFiles.bytes_of c.args.files.now in
    let first = g.I.Read.remaining c.args.input.now in
    let name : Text = (get_or names at no_name).now in
    let so_far : List Text = shown (take at names) in
    let next : shown (take (at + 1) names) ≡ so_far ++ name ∷ [] = map_more (λ name. name.now) names at no_name c.loop-name-test.true in
    let few : input_count (so_far ++ name ∷ []) ≤ 1 = omega (arith, ap input_count next, input_count-take names (at + 1), c.requires) in
    let grown : length after ≡ at + 1 = search rules in
    record {
      count = grown;
      capped =
          subst (λ (texts : List (Vec ℕ Global)). All (λ (text : Vec ℕ Global). length text.items ≤ c.args.cap) texts) (sym c.push_reserved.ensures.items)
          (All-push (λ (text : Vec ℕ Global). length text.items ≤ c.args.cap) before text was.capped c.in_ok-text.ensures.capped);
      untouched = λ none.
          let (none_before, other) = none_so_far so_far name (sym (ap input_count next) ∙ none) in
          c.read_session.ensures.untouched other ∙ was.untouched none_before;
      reported =
          subst (λ (given : List Text). HaveBytes bytes_of first given after) (sym next)
          (subst (λ (texts : List (Vec ℕ Global)). HaveBytes bytes_of first (so_far ++ name ∷ []) texts) (sym c.push_reserved.ensures.items)
          (HaveBytes-more bytes_of first so_far before name text was.reported
          (reported_before bytes_of (g.I.Read.remaining c.loop-name.input) first name text.items
          (λ is. ap g.I.Read.remaining (was.untouched (omega (arith, few, input_count-next so_far name is))))
          c.in_ok-text.ensures.bytes)));
    }

pub returns-in_err-text-clause-untouched : goal.returns-in_err-text-clause-untouched
returns-in_err-text-clause-untouched g c none =
    let names = c.args.names.now in
    let at = c.loop-name.name-index in
    let next = map_more (λ name. name.now) names at no_name c.loop-name-test.true in
    let (none_before, other) = none_so_far (shown (take at names)) (get_or names at no_name).now (omega (arith, ap input_count next, input_count-take names (at + 1), none)) in
    c.read_session.ensures.untouched other ∙ c.loop-name.invariant.untouched none_before

pub returns-in_err-text-clause-refused : goal.returns-in_err-text-clause-refused
returns-in_err-text-clause-refused g c =
    let is : IsUnexplained (Contains (shown c.args.names.now)) c.in_err-text.field-0.0 =
    refused_among c.args.names.now c.loop-name.name-index no_name c.loop-name-test.true _ c.in_err-text.ensures.refused in
    search (rules, is)
