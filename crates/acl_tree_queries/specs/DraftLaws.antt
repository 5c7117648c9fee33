-- That `who --draft` answers of a tree's listing what `check` answers of the tree.
use Rattle.std.specs.Prelude.{◌≡◌, ℕ, Bool, false, List, [], ◌∷◌, Option, Ok, IfOk}
use Rattle.std.specs.Prelude.{if◌then◌else◌}
use Rattle.std.specs.List.{AllByRecursion}
use Rattle.clap.specs.Words.{Row, Text}
use Rattle.acl_access.specs.Paths.{printed_path}
use Rattle.acl_access.specs.Who.{may_line}
use Rattle.acl_access.specs.declared.rules.Rules.TheVariants.{Draft}
use Rattle.acl_listings.specs.Block.{FileValue, file_by}
use Rattle.acl_listings.specs.Listing.{blocks_of}
use Rattle.acl_names.specs.Directory.{Known, requester_of}
use Rattle.acl_names.specs.Names.{Names}
use Rattle.acl_nfs4.specs.NamedAces.{ReadNumbers}
use Rattle.acl_people.specs.Person.{Person}
use Rattle.acl_tree.specs.Commands.{check, granted_or_denied}
use Rattle.acl_tree.specs.Tree.{NodesUnderUmask}
use Rattle.acl_listing_queries.specs.WhoPart.{Asking, What, who_part}
use Rattle.acl_listing_queries.specs.WhoText.{Request}
use Rattle.acl_tree_queries.specs.AccountsLaws.{IsSameRequester}
use Rattle.acl_tree_queries.specs.ListAnswer.{IsList}
use Rattle.acl_tree_queries.specs.SetupTree.{IsSetupTree}

-- whether a user is granted permissions at once, by the draft
abbrev pub by_draft : Names → Person → ℕ → Asking
by_draft names person perms = record {
  names = names;
  rules = Draft;
  persons = person ∷ [];
  question = What (Request perms);
  reach = false;
}

-- for a file of a block with this text, and a user who is the same requester as a directory's user:
-- `check` answers granted exactly if `who` prints the line
pub record IsChecked (known : Known) (tree : NodesUnderUmask) (names : Names) (text : List ℕ)
    (file : FileValue) (person : Person) (uid perms : ℕ) (earlier : List (List ℕ)) : Type 0 where
  pub granted : Bool
  pub answer : check known tree file.path uid perms ≡ Ok (granted_or_denied granted)
  pub lines : who_part (by_draft names person perms) earlier text
      ≡ Ok (if granted then may_line (printed_path file.path) person.name else [])

-- of each block that reads
abbrev pub AreChecked : Known → NodesUnderUmask → Names → List ℕ → Type 0
AreChecked known tree names text = IfOk (file_by names text) (λ file.
    (person : Person) (uid perms : ℕ) (earlier : List (List ℕ))
    → IsSameRequester person.who (requester_of known uid)
    → IsChecked known tree names text file person uid perms earlier)

-- Whatever files the words name, and whoever reads what `list` prints.
abbrev pub DraftDecidesAsChecks : Type 0
DraftDecidesAsChecks =
    (bytes_of : Text → Option (List ℕ)) (input : Option (List ℕ)) (rows : List Row)
    (known : Known) (tree : NodesUnderUmask) (text : List ℕ)
    → IsSetupTree bytes_of input rows known tree → IsList known tree text
    → (names : Names) → ReadNumbers names
    → AllByRecursion (λ block. AreChecked known tree names block.text) (blocks_of text)
