use Rattle.std.proofs.Common.{rules, ◌≤◌, arith, length, map}
use Rattle.std.proofs.lemmas.List.{length-map}
use Rattle.acl_broker.specs.declared.limits.TheConstants.{SESSIONS}
use Rattle.acl_service.specs.Files.{IsFilesFailure}
use Rattle.acl_service.specs.RunWords.{CanRun}
use Rattle.acl_service.proofs.FileLemmas.{refused_for_session, refused_for_setup}
use Rattle.acl_service.proofs.files.read_texts.Goals as goal

pub returns-in_err-setup-clause-refused : goal.returns-in_err-setup-clause-refused
returns-in_err-setup-clause-refused g c =
    let names = map (λ name. name.now) c.args.names.now in
    let some : 1 ≤ length c.args.names.now = search rules in
    let few : length c.args.names.now ≤ SESSIONS = search rules in
    let as_many = length-map c.args.names.now (λ name. name.now) in
    let can_run : CanRun names = record { some = omega (arith, some, as_many); few = omega (arith, few, as_many); once = search rules } in
    let is : IsFilesFailure c.args.setup.now names c.in_err-setup.field-0.0 = refused_for_setup _ names can_run _ c.in_err-setup.ensures.refused in
    search (rules, is)

pub returns-in_err-sessions-clause-refused : goal.returns-in_err-sessions-clause-refused
returns-in_err-sessions-clause-refused g c =
    let names = map (λ name. name.now) c.args.names.now in
    let some : 1 ≤ length c.args.names.now = search rules in
    let few : length c.args.names.now ≤ SESSIONS = search rules in
    let as_many = length-map c.args.names.now (λ name. name.now) in
    let can_run : CanRun names = record { some = omega (arith, some, as_many); few = omega (arith, few, as_many); once = search rules } in
    let is : IsFilesFailure c.args.setup.now names c.in_err-sessions.field-0.0 = refused_for_session c.args.setup.now names can_run _ c.in_err-sessions.ensures.refused in
    search (rules, is)
