-- Of files that are decided about alike nothing is reported, nor of one that stays as it is.
use Rattle.std.proofs.Common.{◌≡◌, ◌∙◌, ◌↔◌, ◌&&◌, ℕ, Bool, true, false, List, [], ◌∷◌, ◌++◌, Err, None, Some, Ok, Result, ap, ap₂, append-nil, inl, inr, refl, subst, sym}
use Rattle.std.specs.List.{AllByRecursion}
use Rattle.acl_names.specs.Asker.{identity_of}
use Rattle.acl_names.specs.Requester.{Identity}
use Rattle.acl_bridge.specs.Comparison.{Granter}
use Rattle.acl_bridge.specs.Lists.{requests_between}
use Rattle.acl_access.specs.Paths.{printed_path}
use Rattle.acl_access.specs.Changes.{IsAlikeToAll, IsChangeFor, change_of}
use Rattle.acl_access.specs.declared.changes.Change.{Change}
use Rattle.acl_access.proofs.ExclusiveLemmas.{changes_are_not_alike}
use Rattle.acl_cli.specs.Reporting.{is_empty}
use Rattle.acl_bridge.specs.Files.{File, may}
use Rattle.acl_listings.specs.Block.{FileValue, file_by}
use Rattle.acl_listings.specs.declared.fault.BlockFault.{BlockFault}
use Rattle.acl_reports.specs.Files.{file_of}
use Rattle.acl_people.specs.Person.{Person}
use Rattle.acl_listing_changes.specs.ImpactSteps.{ReportsRead}
use Rattle.acl_listing_changes.specs.Impacting.{Concern, ImpactAsking, Reports, ReportsAnybody, ReportsChange, ReportsFirst, ReportsImpact, ReportsPerson, ReportsPersons, ReportsThose, fault_of}
use Rattle.acl_listing_changes.specs.WrittenChanges.{IsChanged, changed_text}
use Rattle.acl_listing_changes.specs.declared.impact.changed.Changed.{Changed}

-- ---- files that are decided about alike

module _ (before after : File) (path : List ℕ) (alike : IsAlikeToAll before after) where
  none_of_all : (persons : List Person) → ReportsPersons before after path persons []
  none_of_all [] = refl
  none_of_all (person ∷ persons) = ([], [], inl (alike person.who, refl), none_of_all persons, refl)

  none_first : (persons : List Person) → ReportsFirst before after path persons []
  none_first [] = refl
  none_first (person ∷ persons) = inl (alike person.who, none_first persons)

  none_of_those : (each : Bool) (persons : List Person) → ReportsThose each before after path persons []
  none_of_those true persons = none_of_all persons
  none_of_those false persons = none_first persons

  nobody_else : (asked : Bool) (known : List Identity) → ReportsAnybody asked known before after path []
  nobody_else true known = (None, λ requester unknown. alike requester, refl)
  nobody_else false known = refl

  pub nobody : (concern : Concern) → ReportsImpact concern before after path []
  nobody concern = record {
    lines = [];
    lines_are = none_of_those concern.each concern.persons;
    other = [];
    other_is = nobody_else (concern.somebody && true) concern.known;
    text_is = refl;
  }

  pub nobody_reported : (concern : Concern) (out : List ℕ) → Reports (ReportsImpact concern before after path) out out
  nobody_reported concern out = record { text = []; is = nobody concern; out_is = sym (append-nil out) }

  -- and whatever is reported for them is nothing

  unlike : (requester : Identity) (change : Change) → IsChangeFor before after requester change → ⊥
  unlike requester change is = changes_are_not_alike before after requester change (alike requester) is

  nothing_of : (person : Person) (text : List ℕ) → ReportsPerson before after path person text → text ≡ []
  nothing_of person text (inl (same, none)) = none
  nothing_of person text (inr (change, is, reported)) = absurd (unlike person.who change is)

  nothing_of_all : (persons : List Person) (text : List ℕ) → ReportsPersons before after path persons text → text ≡ []
  nothing_of_all [] text is = is
  nothing_of_all (person ∷ persons) text (first, rest, one, others, whole) =
      whole ∙ ap₂ (λ (a b : List ℕ). a ++ b) (nothing_of person first one) (nothing_of_all persons rest others)

  nothing_first : (persons : List Person) (text : List ℕ) → ReportsFirst before after path persons text → text ≡ []
  nothing_first [] text is = is
  nothing_first (person ∷ persons) text (inl (same, later)) = nothing_first persons text later
  nothing_first (person ∷ persons) text (inr (change, is, reported)) = absurd (unlike person.who change is)

  nothing_of_those : (each : Bool) (persons : List Person) (text : List ℕ) → ReportsThose each before after path persons text → text ≡ []
  nothing_of_those true persons text is = nothing_of_all persons text is
  nothing_of_those false persons text is = nothing_first persons text is

  nothing_else : (asked : Bool) (known : List Identity) (text : List ℕ) → ReportsAnybody asked known before after path text → text ≡ []
  nothing_else false known text is = is
  nothing_else true known text (None, found, is) = is
  nothing_else true known text (Some difference, found, is) = absurd (unlike (identity_of difference.asker) (change_of difference) found.change)

  pub reports_nothing : (concern : Concern) (text : List ℕ) → ReportsImpact concern before after path text ↔ (text ≡ [])
  reports_nothing concern text = (
    λ reports. reports.text_is
        ∙ ap₂ (λ (a b : List ℕ). a ++ b) (nothing_of_those concern.each concern.persons reports.lines reports.lines_are)
        (nothing_else (concern.somebody && is_empty reports.lines) concern.known reports.other reports.other_is),
    λ none. subst (ReportsImpact concern before after path) (sym none) (nobody concern),
  )

-- ---- a file that stays as it is

granted_alike : (granter : Granter) (requester : Identity) (requests : List ℕ)
    → AllByRecursion (λ request. granter requester request ≡ granter requester request) requests
granted_alike granter requester [] = tt
granted_alike granter requester (request ∷ requests) = (refl, granted_alike granter requester requests)

pub alike_itself : (file : File) → IsAlikeToAll file file
alike_itself file requester = record {
  bits = λ bit is. refl;
  requests = granted_alike (may file) requester (requests_between file.list file.list);
}

abbrev pub unchanged : Changed
unchanged = record { owner = false; group = false; flags = false; access = false; default = false }

pub is_unchanged : (file : FileValue) → IsChanged file file unchanged
is_unchanged file = record {
  owner = (λ is same. cc, λ differs. absurd (differs refl));
  group = (λ is same. cc, λ differs. absurd (differs refl));
  flags = (λ is same. cc, λ differs. absurd (differs refl));
  access = (λ is same. cc, λ differs. absurd (differs refl));
  default = (λ is same. cc, λ differs. absurd (differs refl));
}

nothing_written : (asked : Bool) (path : List ℕ) → [] ≡ changed_text asked unchanged path
nothing_written true path = refl
nothing_written false path = refl

stays : (asking : ImpactAsking) (file : FileValue) → ReportsChange asking file file []
stays asking file = record {
  impact = [];
  impact_is = nobody (file_of asking.rules file) (file_of asking.rules file) (printed_path file.path) (alike_itself (file_of asking.rules file)) asking.concern;
  written = [];
  written_is = (unchanged, is_unchanged file, nothing_written asking.written (printed_path file.path));
  text_is = refl;
}

-- a block with which nothing is wrong says a file
pub file_read : (reading : Result FileValue BlockFault) → fault_of reading ≡ None → (file : FileValue) × (reading ≡ Ok file)
file_read (Ok file) none = (file, refl)
file_read (Err fault) none = cc

-- of a block that has the text of the one before
pub nothing_changed : (asking : ImpactAsking) (old text : List ℕ) (file : FileValue) → old ≡ text → file_by asking.names text ≡ Ok file
    → (out : List ℕ) → Reports (ReportsRead asking (file_by asking.names old) file) out out
nothing_changed asking old text file same reads out =
    subst (λ (reading : Result FileValue BlockFault). Reports (ReportsRead asking reading file) out out) (sym (ap (file_by asking.names) same ∙ reads))
    (record { text = []; is = stays asking file; out_is = sym (append-nil out) })
