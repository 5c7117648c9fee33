-- What `impact` prints for the blocks of two listings.
use Rattle.std.specs.Prelude.{◌≡◌, ◌==◌, ◌⊎◌, ◌&&◌, ℕ, Bool, true, false, List, [], ◌∷◌, ◌++◌}
use Rattle.std.specs.Prelude.{Option, Some, None, Result, Ok, Err, IfOk, codes}
use Rattle.std.specs.Prelude.{if◌then◌else◌}
use Rattle.std.specs.List.{flat_map}
use Rattle.acl_names.specs.Names.{Names}
use Rattle.acl_names.specs.Requester.{Identity}
use Rattle.acl_nfs4.specs.Mask.{mask_bits}
use Rattle.acl_nfs4.specs.declared.comparison.Difference.{Difference}
use Rattle.acl_bridge.specs.Comparison.{mask_for}
use Rattle.acl_bridge.specs.Files.{File}
use Rattle.acl_access.specs.Changes.{FindsAnybody, IsAlikeTo, IsChangeFor}
use Rattle.acl_access.specs.Letters.{effective}
use Rattle.acl_access.specs.Paths.{printed_path}
use Rattle.acl_access.specs.declared.changes.Change.{Change}
use Rattle.acl_access.specs.declared.rules.Rules.{Rules}
use Rattle.acl_cli.specs.ErrorOutput.{line_of_words}
use Rattle.acl_cli.specs.Reporting.{is_empty}
use Rattle.acl_listings.specs.Block.{FileValue, file_by}
use Rattle.acl_listings.specs.declared.fault.BlockFault.{BlockFault}
use Rattle.acl_reports.specs.Files.{file_of}
use Rattle.acl_reports.specs.declared.stranger.Stranger.{Stranger}
use Rattle.acl_people.specs.Person.{Person}
use Rattle.acl_listing_changes.specs.Changes.{Wording}
use Rattle.acl_listing_changes.specs.ImpactText.{path_text, person_text, somebody_text}
use Rattle.acl_listing_changes.specs.WrittenChanges.{ReportsWritten}

-- the users to evaluate, with their names and as requesters; whether each affected user has a line,
-- or only the first; and whether somebody else has one, if no user is affected
pub record Concern : Type 0 where
  pub persons : List Person
  pub known : List Identity
  pub each : Bool
  pub somebody : Bool

-- the names that blocks have, and which id without an account a block names first; the rules by
-- which lists are evaluated; whose lines are printed; whether a path whose block differs as read
-- has a line; and whether the exit status reports that there is a line
pub record ImpactAsking : Type 0 where
  pub names : Names
  pub stranger : List ℕ → Option Stranger
  pub rules : Rules
  pub concern : Concern
  pub written : Bool
  pub asks : Bool

-- the text is the line of a user who gains or loses access when the file becomes the other, and
-- empty if the user is granted the same
abbrev pub ReportsPerson : File → File → List ℕ → Person → List ℕ → Type 0
ReportsPerson before after path person text =
    (IsAlikeTo before after person.who × (text ≡ []))
    ⊎ ((change : Change)
    × IsChangeFor before after person.who change
    × (text ≡ person_text person (mask_bits change.lost) (mask_bits change.gained) path))

-- for each of the users
abbrev pub ReportsPersons : File → File → List ℕ → List Person → List ℕ → Type 0
ReportsPersons before after path [] text = text ≡ []
ReportsPersons before after path (person ∷ persons) text = (first : List ℕ) × (rest : List ℕ)
    × ReportsPerson before after path person first × ReportsPersons before after path persons rest
    × (text ≡ first ++ rest)

-- for the first of the users who has one
abbrev pub ReportsFirst : File → File → List ℕ → List Person → List ℕ → Type 0
ReportsFirst before after path [] text = text ≡ []
ReportsFirst before after path (person ∷ persons) text =
    (IsAlikeTo before after person.who
    × ReportsFirst before after path persons text)
    ⊎ ((change : Change)
    × IsChangeFor before after person.who change
    × (text ≡ person_text person (mask_bits change.lost) (mask_bits change.gained) path))

abbrev pub ReportsThose : Bool → File → File → List ℕ → List Person → List ℕ → Type 0
ReportsThose true before after path persons text = ReportsPersons before after path persons text
ReportsThose false before after path persons text = ReportsFirst before after path persons text

-- the line of somebody else, if there is one
abbrev pub found_text : List ℕ → Option Difference → List ℕ
found_text path None = []
found_text path (Some found) = somebody_text found path

-- anybody else is evaluated: somebody who is neither uid 0 nor a known user
abbrev pub ReportsAnybody : Bool → List Identity → File → File → List ℕ → List ℕ → Type 0
ReportsAnybody false known before after path text = text ≡ []
ReportsAnybody true known before after path text = (found : Option Difference)
    × FindsAnybody known before after found
    × (text ≡ found_text path found)

-- what is printed for a file before and after
pub record ReportsImpact (concern : Concern) (before after : File)
    (path text : List ℕ) : Type 0 where
  pub lines : List ℕ
  pub lines_are : ReportsThose concern.each before after path concern.persons lines
  pub other : List ℕ
  pub other_is : ReportsAnybody (concern.somebody && is_empty lines) concern.known before after path
      other
  pub text_is : text ≡ lines ++ other

-- and what is printed for two blocks of one path
pub record ReportsChange (asking : ImpactAsking) (before after : FileValue) (text : List ℕ) : Type 0
  where
    pub impact : List ℕ
    pub impact_is : ReportsImpact asking.concern (file_of asking.rules before)
        (file_of asking.rules after)
        (printed_path after.path) impact
    pub written : List ℕ
    pub written_is : ReportsWritten asking.written before after written
    pub text_is : text ≡ impact ++ written

-- what was appended is this
pub record Reports (Is : List ℕ → Type 0) (out out' : List ℕ) : Type 0 where
  pub text : List ℕ
  pub is : Is text
  pub out_is : out' ≡ out ++ text

-- the letters that a user is granted, as bits of a mask
abbrev pub granted_bits : File → Person → ℕ
granted_bits file person = mask_for (effective file person.who)

-- the line of a user with a permission on a new file, or on a gone one
abbrev pub may_line : Bool → List ℕ → File → Person → List ℕ
may_line gone path file person = if effective file person.who == 0 then []
    else if gone then person_text person (granted_bits file person) 0 path
    else person_text person 0 (granted_bits file person) path

abbrev pub lines_if : Bool → (Person → List ℕ) → List Person → List ℕ
lines_if true line persons = flat_map line persons
lines_if false line persons = []

-- what is printed for a path whose file is gone, or new
abbrev pub reported_at : Bool → Concern → List ℕ → File → List ℕ
reported_at gone concern path file =
    path_text gone path ++ lines_if concern.each (may_line gone path file) concern.persons

abbrev pub reported_of : Bool → ImpactAsking → FileValue
    → List ℕ
reported_of gone asking file = reported_at gone asking.concern (printed_path file.path)
    (file_of asking.rules file)

abbrev pub reported_new : ImpactAsking → FileValue → List ℕ
reported_new = reported_of false

abbrev pub reported_gone : ImpactAsking → FileValue → List ℕ
reported_gone = reported_of true

-- the fault of a block, from reading its file
abbrev pub fault_of : Result FileValue BlockFault → Option BlockFault
fault_of (Ok file) = None
fault_of (Err fault) = Some fault

-- `aclctl: no path of AFTER is in BEFORE, which begins with PATH; AFTER begins with PATH`
abbrev pub apart_line : List ℕ → List ℕ → List ℕ
apart_line first second = line_of_words
    (codes "no path of AFTER is in BEFORE, which begins with " ++ printed_path first
    ++ codes "; AFTER begins with " ++ printed_path second)

abbrev pub impacting : ImpactAsking → Wording
impacting asking = record {
  names = asking.names;
  fault = λ text. fault_of (file_by asking.names text);
  stranger = asking.stranger;
  IsNew = λ text reported said. IfOk (file_by asking.names text) (λ file.
      (reported ≡ reported_new asking file) × (said ≡ []));
  IsChanged = λ old text reported said. IfOk (file_by asking.names old) (λ before.
      IfOk (file_by asking.names text) (λ after.
      ReportsChange asking before after reported × (said ≡ [])));
  IsGone = λ old reported said. IfOk (file_by asking.names old) (λ file.
      (reported ≡ reported_gone asking file) × (said ≡ []));
  apart = apart_line;
  asks = asking.asks;
}
