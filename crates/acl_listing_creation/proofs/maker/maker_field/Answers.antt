use Rattle.std.proofs.Common.{◌≡◌, Err, Option, Some, ℕ, List, rules, subst, sym}
use Rattle.clap.specs.Words.{first_of, found_of, rows_of}
use Rattle.std.specs.Prelude.{codes}
use Rattle.acl_cli.specs.Failures.{Explains}
use Rattle.acl_cli.specs.Fields.{given, located}
use Rattle.acl_cli.specs.declared.field_fault.FieldFault.TheVariants.{UnknownUser}
use Rattle.acl_people.specs.People.{person_asked}
use Rattle.acl_listing_creation.specs.NextFields.{maker_asked, maker_of}
use Rattle.acl_listing_creation.proofs.FieldsLemmas.{explains_on}
use Rattle.acl_listing_creation.proofs.maker.maker_field.Goals as goal

pub returns-in_err-person-clause-refused : goal.returns-in_err-person-clause-refused
returns-in_err-person-clause-refused c =
    let failure = c.in_err-person.field-0.0 in
    let host = c.args.host.now in
    let text : List ℕ = c.in-Some.text.now in
    let is : c.from_residual.result ≡ Err failure = search rules in
    let word : first_of (codes "user") (rows_of (found_of c.args.matches.now)) ≡ Some text = search rules in
    rw is (subst (λ (word : Option (List ℕ)). Explains (located (codes "--user") word (given UnknownUser (maker_asked host) word)) failure) (sym word)
    (explains_on (codes "--user") (Some text) (person_asked host text) maker_of failure c.in_err-person.ensures.refused))
