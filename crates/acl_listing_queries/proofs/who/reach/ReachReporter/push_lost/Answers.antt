use Rattle.std.proofs.Common.{◌≡◌, ◌∙◌, true, false, List, ℕ, None, Ok, ap, sym}
use Rattle.std.specs.Prelude.{is_some}
use Rattle.acl_names.specs.Names.{Names}
use Rattle.acl_listings.specs.Block.{FileValue, file_by, path_of}
use Rattle.acl_listings.proofs.PathLemmas.{path_of-file}
use Rattle.acl_listing_queries.specs.WhoSteps.{names_by}
use Rattle.acl_listing_queries.proofs.who.reach.ReachReporter.push_lost.Goals as goal

-- a block that reads has a path
lost : (names : Names) (text : List ℕ) (file : FileValue) → file_by names text ≡ Ok file → path_of text ≡ None → ⊥
lost names text file reads none =
    let never : true ≡ false = ap is_some (sym (path_of-file names text file reads) ∙ none) in
    cc

pub returns-in-Ok-clause-stands : goal.returns-in-Ok-clause-stands
returns-in-Ok-clause-stands c = λ earlier on.
    let found = c.in-Ok.ensures.found on.right in
    absurd (lost (names_by c.args.self.now.answers.users) c.args.text.now found.0 found.1 c.requires.path)

pub returns-in-Ok-clause-reported : goal.returns-in-Ok-clause-reported
returns-in-Ok-clause-reported c = λ earlier on old.
    let found = c.in-Ok.ensures.found on.right in
    absurd (lost (names_by c.args.self.now.answers.users) c.args.text.now found.0 found.1 c.requires.path)
