use Rattle.std.proofs.Common.{◌∙◌, Bool, List, ℕ, ap, codes, inr, subst}
use Rattle.clap.specs.Words.{Row, found_of, rows_of}
use Rattle.acl_cli.specs.Fields.{flag_in}
use Rattle.acl_cli.proofs.CommandsLemmas.{Comes-as}
use Rattle.acl_reports.specs.ListingMeaning.{FailsForListing, bytes_named, inputs_of}
use Rattle.acl_listing_lint.specs.Findings.{LintAsking}
use Rattle.acl_listing_lint.specs.Lints.{AnswersLints, BeginsLints}
use Rattle.acl_listing_lint.specs.LintsMeaning.{lints_meaning, named_meaning}
use Rattle.acl_listing_lint.proofs.command.LintListingCliCommand.answer.Goals as goal

pub returns : goal.returns
returns g c =
    let files = g.F.OpenFiles.bytes_of c.args.files.now in
    let input = g.I.Read.remaining c.args.input.now in
    let rows : List Row = rows_of (found_of c.args.matches.now) in
    let host = c.in_ok-host.host in
    let name : List ℕ = c.listing_field.result.now in
    let name_is = c.listing_field.ensures in
    let asks_is = c.flag_field.ensures in
    let asked : LintAsking = record { name = name; host = host } in
    Comes-as (named_meaning files input asked c.flag_field.result) (lints_meaning files input rows) c.report_named.result _ _ _ _ _ _
    (λ answer is. record {
      host = host;
      host_is = c.in_ok-host.ensures.opened;
      is = subst (λ (name : List ℕ). AnswersLints (record { name = name; host = host }) (flag_in (codes "exit-code") rows) (bytes_named files input name) answer) name_is
          (subst (λ (asks : Bool). AnswersLints asked asks (bytes_named files input name) answer) asks_is is);
    })
    (λ answer is. record {
      host = host;
      host_is = c.in_ok-host.ensures.opened;
      is = subst (λ (name : List ℕ). BeginsLints (record { name = name; host = host }) (flag_in (codes "exit-code") rows) (bytes_named files input name) answer) name_is
          (subst (λ (asks : Bool). BeginsLints asked asks (bytes_named files input name) answer) asks_is is);
    })
    (λ failure fails. inr (subst (λ (name : List ℕ). FailsForListing name failure) name_is fails))
    (λ none. ap inputs_of name_is ∙ none)
    c.report_named.ensures
