-- That `why --delete` answers as `who --delete` does.
use Rattle.std.specs.Prelude.{◌≡◌, ◌++◌, ℕ, Bool, true, List, [], ◌∷◌, Some, Ok, Err, map}
use Rattle.std.specs.Prelude.{if◌then◌else◌}
use Rattle.acl_access.specs.Paths.{printed_path}
use Rattle.acl_access.specs.Who.{may_line}
use Rattle.acl_access.specs.declared.rules.Rules.{Rules}
use Rattle.acl_listings.specs.Block.{path_of}
use Rattle.acl_listings.specs.declared.fault.BlockFault.TheVariants.{UnknownWay}
use Rattle.acl_names.specs.Names.{Names}
use Rattle.acl_people.specs.Person.{Person}
use Rattle.acl_queries.specs.DecideAnswer.{answer_line}
use Rattle.acl_reports.specs.Listed.{Part}
use Rattle.acl_listing_queries.specs.Readings.{reading_of}
use Rattle.acl_listing_queries.specs.WhoPart as who
use Rattle.acl_listing_queries.specs.WhyText as why

-- `granted` is the first line where `who` has the line, and `denied` where it has none; or both
-- report the same fault; or nothing above is listed, of which `who` has no line and `why` no answer
abbrev pub Agree : List ℕ → Part → Part → Type 0
Agree line (Ok reasons) (Ok lines) = (granted : Bool)
    × ((more : List ℕ) × (reasons ≡ answer_line granted ++ more))
    × (lines ≡ (if granted then line else []))
Agree line (Err one) (Err other) = one ≡ other
Agree line (Err fault) (Ok lines) = (fault ≡ UnknownWay) × (lines ≡ [])
Agree line (Ok reasons) (Err fault) = ⊥

-- of each block of a path, of each user, and by either rules
abbrev pub DeletionsAgree : Type 0
DeletionsAgree = (names : Names) (rules : Rules) (person : Person)
    (earlier : List (List ℕ)) (text path : List ℕ)
    → path_of text ≡ Some path
    → Agree (may_line (printed_path path) person.name)
    (why.why_part (record {
      names = names;
      rules = rules;
      who = person.who;
      sought = why.Deletion;
    }) (map (reading_of names) earlier) text)
    (who.who_part (record {
      names = names;
      rules = rules;
      persons = person ∷ [];
      question = who.Deletion;
      reach = true;
    }) earlier text)
