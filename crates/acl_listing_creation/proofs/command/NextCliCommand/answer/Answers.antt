use Rattle.std.proofs.Common.{◌≡◌, ◌∙◌, List, Option, ℕ, Err, ap, ap₂, inl, inr, refl, rules, subst}
use Rattle.clap.specs.Words.{Row, Text, found_of, rows_of}
use Rattle.acl_names.specs.Names.{Names}
use Rattle.acl_cli.specs.Commands.{Answer}
use Rattle.acl_cli.proofs.CommandsLemmas.{Comes-as, Comes-failed}
use Rattle.acl_people.specs.Host.{names_of_host}
use Rattle.acl_reports.specs.Listed.{AnswersListing, BeginsListing, Part}
use Rattle.acl_reports.specs.ListingMeaning.{FailsForListing, bytes_named, inputs_of, listing_meaning}
use Rattle.acl_listing_creation.specs.Next.{NextAsking, next_part}
use Rattle.acl_listing_creation.specs.NextMeaning.{NextAnswers, asking_by, next_meaning}
use Rattle.acl_listing_creation.proofs.command.NextCliCommand.answer.Goals as goal

pub returns-in_err-maker : goal.returns-in_err-maker
returns-in_err-maker g c =
    let files = g.F.OpenFiles.bytes_of c.args.files.now in
    let input = g.I.Read.remaining c.args.input.now in
    let rows : List Row = rows_of (found_of c.args.matches.now) in
    let failure = c.in_err-maker.field-0.0 in
    let is : c.from_residual-in_err-maker.result ≡ Err failure = search rules in
    rw is (Comes-failed (next_meaning files input rows) failure _ _ _
    (inr (rw c.in_ok-modes.ensures.read refl, inr (inl (c.in_ok-host.host, c.in_ok-host.ensures.opened, c.in_err-maker.ensures.refused)))))

pub returns : goal.returns
returns g c =
    let files = g.F.OpenFiles.bytes_of c.args.files.now in
    let input = g.I.Read.remaining c.args.input.now in
    let rows : List Row = rows_of (found_of c.args.matches.now) in
    let host = c.in_ok-host.host in
    let maker = c.in_ok-maker.maker in
    let modes = c.in_ok-modes.modes in
    let name_is = c.listing_field.ensures in
    let asked : NextAsking = asking_by rows host maker modes in
    let reported : NextAsking = record {
      names = names_of_host host;
      creation = record { owner = maker.owner; group = maker.group; kind = c.kind_field.result; mode = modes.mode; umask = modes.umask };
      folders_alone = c.flag_field.result;
    } in
    let same : reported ≡ asked = ap₂ (λ kind folders_alone. record {
      names = names_of_host host;
      creation = record { owner = maker.owner; group = maker.group; kind = kind; mode = modes.mode; umask = modes.umask };
      folders_alone = folders_alone;
    }) c.kind_field.ensures c.flag_field.ensures in
    let part = listing_meaning files input c.listing_field.result.now (names_of_host host) (next_part reported) in
    let meant : (Is : Text → Names → (List (List ℕ) → List ℕ → Part) → Option (List ℕ) → Answer → Type 0) (answer : Answer) → Is c.listing_field.result.now (names_of_host host) (next_part reported) (bytes_named files input c.listing_field.result.now) answer → NextAnswers Is files input rows answer = λ Is answer is. record {
      host = host;
      host_is = c.in_ok-host.ensures.opened;
      maker = maker;
      maker_is = c.in_ok-maker.ensures.read;
      modes = modes;
      modes_are = c.in_ok-modes.ensures.read;
      is = subst (λ (name : List ℕ). Is name (names_of_host host) (next_part asked) (bytes_named files input name) answer) name_is
          (subst (λ (asking : NextAsking). Is c.listing_field.result.now (names_of_host host) (next_part asking) (bytes_named files input c.listing_field.result.now) answer) same is);
    } in
    Comes-as part (next_meaning files input rows) c.report_named.result _ _ _ _ _ _
    (meant AnswersListing) (meant BeginsListing)
    (λ failure fails. inr (rw c.in_ok-modes.ensures.read refl, inr (inr (subst (λ (name : List ℕ). FailsForListing name failure) name_is fails))))
    (λ none. ap inputs_of name_is ∙ none)
    c.report_named.ensures
