-- Whom a change concerns, person by person.
use Rattle.std.proofs.Common.{◌≡◌, ◌∙◌, ◌+◌, ◌≤◌, ◌++◌, ◌&&◌, IfOk, Result, Ok, Err, ℕ, zero, suc, Bool, true, false, List, [], ◌∷◌, Option, Some, None, ap, append_assoc, append-nil, arith, drop, inl, is_none, inr, length, length-append, refl, subst, sym, take}
use Rattle.std.specs.Prelude.{nat_eq, slice_get}
use Rattle.std.specs.List.{flat_map}
use Rattle.std.proofs.lemmas.Bool.{true≢false}
use Rattle.std.proofs.lemmas.Bool.Decides.{Decides-eqb}
use Rattle.acl_names.specs.Requester.{Identity}
use Rattle.acl_access.specs.Paths.{printed_path}
use Rattle.acl_bridge.specs.Files.{File}
use Rattle.acl_listings.specs.Block.{FileValue, file_by}
use Rattle.acl_listings.specs.declared.fault.BlockFault.{BlockFault}
use Rattle.acl_cli.specs.Reporting.{is_empty}
use Rattle.acl_reports.specs.Files.{file_of}
use Rattle.acl_people.specs.Person.{Person}
use Rattle.acl_people.specs.Asked.{persons_of}
use Rattle.acl_listing_changes.specs.ChangeSteps.{Appended}
use Rattle.acl_listing_changes.specs.Changes.{ReportsIf, ReportsOld}
use Rattle.acl_listing_changes.specs.ImpactSteps.{ReportsAt, ReportsBy, ReportsRead}
use Rattle.acl_listing_changes.specs.ImpactText.{line_at}
use Rattle.acl_listing_changes.specs.Impacting.{Concern, ImpactAsking, Reports, ReportsAnybody, ReportsChange, ReportsFirst, ReportsImpact, ReportsPerson, ReportsPersons, ReportsThose, fault_of, impacting, reported_gone, reported_new}
use Rattle.acl_listing_changes.specs.WrittenChanges.{IsChanged, changed_text}
use Rattle.acl_listing_changes.specs.declared.impact.changed.Changed.{Changed}
use Rattle.acl_listing_changes.proofs.ReporterLemmas.{nothing_if, reported_if}

-- ---- who is at a place

abbrev pub both_of : Option (List ℕ) → Option Identity → Option Person
both_of (Some name) (Some who) = Some (record { name = name; who = who })
both_of _ _ = None

pub none_right : (name : Option (List ℕ)) → both_of name None ≡ None
none_right None = refl
none_right (Some name) = refl

pub person_at : (names : List (List ℕ)) (whos : List Identity) (place : ℕ) → slice_get (persons_of names whos) place ≡ both_of (slice_get names place) (slice_get whos place)
person_at [] whos place = refl
person_at (name ∷ names) [] place = sym (none_right (slice_get (name ∷ names) place))
person_at (name ∷ names) (who ∷ whos) zero = refl
person_at (name ∷ names) (who ∷ whos) (suc place) = person_at names whos place

persons_within : (names : List (List ℕ)) (whos : List Identity) → length (persons_of names whos) ≤ length whos
persons_within [] whos = omega arith
persons_within (name ∷ names) [] = omega arith
persons_within (name ∷ names) (who ∷ whos) = omega (arith, persons_within names whos)

drop_past : {X : Type 0} (items : List X) (place : ℕ) → length items ≤ place → drop place items ≡ []
drop_past [] zero past = refl
drop_past [] (suc place) past = refl
drop_past (item ∷ items) zero past = absurd (omega (arith, past))
drop_past (item ∷ items) (suc place) past = drop_past items place (omega (arith, past))

pub none_left : (names : List (List ℕ)) (whos : List Identity) (place : ℕ) → length whos ≤ place → drop place (persons_of names whos) ≡ []
none_left names whos place past = drop_past (persons_of names whos) place (omega (arith, past, persons_within names whos))

-- ---- their lines

module _ (before after : File) (path : List ℕ) where
  either : (some : Bool) (person : Person) (text : List ℕ) → ReportsBy some before after path person text → ReportsPerson before after path person text
  either true person text reports = inr reports
  either false person text reports = inl reports

  nothing_more : (more rest : List ℕ) → more ≡ [] → rest ≡ [] → more ++ rest ≡ []
  nothing_more more rest none empty = ap (λ text. text ++ rest) none ∙ empty

  pub each_on : (place : ℕ) (persons : List Person) (some : Bool) (more : List ℕ) → ReportsAt some before after path (slice_get persons place) more
      → (rest : List ℕ) → ReportsPersons before after path (drop (suc place) persons) rest → ReportsPersons before after path (drop place persons) (more ++ rest)
  each_on zero [] some more (none, empty) rest reports = nothing_more more rest empty reports
  each_on zero (person ∷ persons) some more reported rest reports = (more, rest, either some person more reported, reports, refl)
  each_on (suc place) [] some more (none, empty) rest reports = nothing_more more rest empty reports
  each_on (suc place) (person ∷ persons) some more reported rest reports = each_on place persons some more reported rest reports

  pub first_on : (place : ℕ) (persons : List Person) (more : List ℕ) → ReportsAt false before after path (slice_get persons place) more
      → (more ≡ []) × ((text : List ℕ) → ReportsFirst before after path (drop (suc place) persons) text → ReportsFirst before after path (drop place persons) text)
  first_on zero [] more reported = (reported.1, λ text reports. reports)
  first_on zero (person ∷ persons) more reported = (reported.1, λ text reports. inl (reported.0, reports))
  first_on (suc place) [] more reported = (reported.1, λ text reports. reports)
  first_on (suc place) (person ∷ persons) more reported = first_on place persons more reported

  pub first_here : (place : ℕ) (persons : List Person) (more : List ℕ) → ReportsAt true before after path (slice_get persons place) more → ReportsFirst before after path (drop place persons) more
  first_here zero [] more reported = absurd (true≢false reported.0)
  first_here zero (person ∷ persons) more reported = inr reported
  first_here (suc place) [] more reported = absurd (true≢false reported.0)
  first_here (suc place) (person ∷ persons) more reported = first_here place persons more reported

  -- what was reported of those before a place leads on to what is reported for those from there on
  pub record IsEachTo (persons : List Person) (place : ℕ) (out out' : List ℕ) : Type 0 where
    pub reported : List ℕ
    pub out_is : out' ≡ out ++ reported
    pub leads : (rest : List ℕ) → ReportsPersons before after path (drop place persons) rest → ReportsPersons before after path persons (reported ++ rest)

  pub each_more : (persons : List Person) (place : ℕ) (out mid out' : List ℕ) → IsEachTo persons place out mid → (some : Bool) (more : List ℕ)
      → ReportsAt some before after path (slice_get persons place) more → out' ≡ mid ++ more → IsEachTo persons (place + 1) out out'
  each_more persons place out mid out' was some more reports is =
      let one : place + 1 ≡ suc place = omega arith in
      record {
        reported = was.reported ++ more;
        out_is = is ∙ ap (λ text. text ++ more) was.out_is ∙ append_assoc out was.reported more;
        leads = λ rest last.
            subst (ReportsPersons before after path persons) (sym (append_assoc was.reported more rest))
            (was.leads (more ++ rest) (each_on place persons some more reports rest (subst (λ n. ReportsPersons before after path (drop n persons) rest) one last)));
      }

  pub record IsFirstTo (persons : List Person) (place : ℕ) (out out' : List ℕ) : Type 0 where
    pub same : out' ≡ out
    pub leads : (text : List ℕ) → ReportsFirst before after path (drop place persons) text → ReportsFirst before after path persons text

  pub first_more : (persons : List Person) (place : ℕ) (out mid out' : List ℕ) → IsFirstTo persons place out mid → (more : List ℕ)
      → ReportsAt false before after path (slice_get persons place) more → out' ≡ mid ++ more → IsFirstTo persons (place + 1) out out'
  first_more persons place out mid out' was more reports is =
      let one : place + 1 ≡ suc place = omega arith in
      let on = first_on place persons more reports in
      record {
        same = is ∙ ap (λ text. mid ++ text) on.0 ∙ append-nil mid ∙ was.same;
        leads = λ text last. was.leads text (on.1 text (subst (λ n. ReportsFirst before after path (drop n persons) text) one last));
      }

  -- before the first of them, and behind the last

  pub each_none : (persons : List Person) (out : List ℕ) → IsEachTo persons 0 out out
  each_none persons out = record { reported = []; out_is = sym (append-nil out); leads = λ rest reports. reports }

  pub first_none : (persons : List Person) (out : List ℕ) → IsFirstTo persons 0 out out
  first_none persons out = record { same = refl; leads = λ text reports. reports }

  module _ (names : List (List ℕ)) (whos : List Identity) (place : ℕ) (past : length whos ≤ place) (out out' : List ℕ) where
    pub each_all : IsEachTo (persons_of names whos) place out out' → Reports (ReportsPersons before after path (persons_of names whos)) out out'
    each_all is =
        let none = none_left names whos place past in
        let last : ReportsPersons before after path (drop place (persons_of names whos)) [] = subst (λ persons. ReportsPersons before after path persons []) (sym none) refl in
        record { text = is.reported ++ []; is = is.leads [] last; out_is = is.out_is ∙ ap (λ text. out ++ text) (sym (append-nil is.reported)) }

    pub first_all : IsFirstTo (persons_of names whos) place out out' → Reports (ReportsFirst before after path (persons_of names whos)) out out'
    first_all is =
        let none = none_left names whos place past in
        let last : ReportsFirst before after path (drop place (persons_of names whos)) [] = subst (λ persons. ReportsFirst before after path persons []) (sym none) refl in
        record { text = []; is = is.leads [] last; out_is = is.same ∙ sym (append-nil out) }

  pub first_found : (persons : List Person) (place : ℕ) (out mid out' : List ℕ) → IsFirstTo persons place out mid → (more : List ℕ)
      → ReportsAt true before after path (slice_get persons place) more → out' ≡ mid ++ more → Reports (ReportsFirst before after path persons) out out'
  first_found persons place out mid out' was more reports is = record {
    text = more;
    is = was.leads more (first_here place persons more reports);
    out_is = is ∙ ap (λ text. text ++ more) was.same;
  }

-- ---- somebody else

same_length : (out lines : List ℕ) → nat_eq (length (out ++ lines)) (length out) ≡ is_empty lines
same_length out [] = ap (λ text. nat_eq (length text) (length out)) (append-nil out) ∙ (Decides-eqb (length out) (length out)).1 refl
same_length out (byte ∷ lines) = by (nat_eq (length (out ++ byte ∷ lines)) (length out)) refl
  where
    by : (b : Bool) → nat_eq (length (out ++ byte ∷ lines)) (length out) ≡ b → b ≡ false
    by false is = refl
    by true is =
        let same : length (out ++ byte ∷ lines) ≡ length out = (Decides-eqb (length (out ++ byte ∷ lines)) (length out)).0 is in
        absurd (omega (arith, same, length-append out (byte ∷ lines)))

pub impact_reported : (concern : Concern) (before after : File) (path out mid out' : List ℕ) → Reports (ReportsThose concern.each before after path concern.persons) out mid
    → (asked : Bool) → asked ≡ (concern.somebody && nat_eq (length mid) (length out)) → Reports (ReportsAnybody asked concern.known before after path) mid out' → Reports (ReportsImpact concern before after path) out out'
impact_reported concern before after path out mid out' those asked asked_is other =
    let empty : nat_eq (length mid) (length out) ≡ is_empty those.text = ap (λ text. nat_eq (length text) (length out)) those.out_is ∙ same_length out those.text in
    let is : asked ≡ (concern.somebody && is_empty those.text) = asked_is ∙ ap (λ b. concern.somebody && b) empty in
    record {
      text = those.text ++ other.text;
      is = record {
        lines = those.text;
        lines_are = those.is;
        other = other.text;
        other_is = subst (λ b. ReportsAnybody b concern.known before after path other.text) is other.is;
        text_is = refl;
      };
      out_is = other.out_is ∙ ap (λ text. text ++ other.text) those.out_is ∙ append_assoc out those.text other.text;
    }

-- and behind it what is written otherwise
pub change_reported : (asking : ImpactAsking) (before after : FileValue) (old new : File) → old ≡ file_of asking.rules before → new ≡ file_of asking.rules after → (out mid out' : List ℕ)
    → Reports (ReportsImpact asking.concern old new (printed_path after.path)) out mid → (changed : Changed) → IsChanged before after changed → out' ≡ mid ++ changed_text asking.written changed (printed_path after.path)
    → Reports (ReportsChange asking before after) out out'
change_reported asking before after old new old_is new_is out mid out' reported changed changed_is is =
    let written : List ℕ = changed_text asking.written changed (printed_path after.path) in
    record {
      text = reported.text ++ written;
      is = record {
        impact = reported.text;
        impact_is = subst (λ (old : File). ReportsImpact asking.concern old (file_of asking.rules after) (printed_path after.path) reported.text) old_is (subst (λ (new : File). ReportsImpact asking.concern old new (printed_path after.path) reported.text) new_is reported.is);
        written = written;
        written_is = (changed, changed_is, refl);
        text_is = refl;
      };
      out_is = is ∙ ap (λ text. text ++ written) reported.out_is ∙ append_assoc out reported.text written;
    }

-- what holds of a reading that gave this
pub of_reading : {T E : Type 0} (P : T → Type 0) (reading : Result T E) (value : T) → reading ≡ Ok value → P value → IfOk reading P
of_reading P reading value is holds = subst (λ reading. IfOk reading P) (sym is) holds

-- ---- blocks that read as files

abbrev nothing : List ℕ
nothing = []

module _ (asking : ImpactAsking) (text : List ℕ) (file : FileValue) (reads : file_by asking.names text ≡ Ok file) (out out' beside : List ℕ) where
  reads_well : is_none ((impacting asking).fault text) ≡ true
  reads_well = ap (λ (reading : Result FileValue BlockFault). is_none (fault_of reading)) reads

  pub new_reported : out' ≡ out ++ reported_new asking file → Appended ((impacting asking).IsNew text) out out' beside beside
  new_reported is = record {
    reported = reported_new asking file;
    said = [];
    reports = of_reading (λ other. (reported_new asking file ≡ reported_new asking other) × (nothing ≡ nothing)) (file_by asking.names text) file reads (refl, refl);
    out_is = is;
    beside_is = sym (append-nil beside);
  }

  pub gone_reported : out' ≡ out ++ reported_gone asking file → Appended (ReportsIf (is_none ((impacting asking).fault text)) ((impacting asking).IsGone text)) out out' beside beside
  gone_reported is = reported_if (is_none ((impacting asking).fault text)) ((impacting asking).IsGone text) reads_well out out' beside beside (record {
    reported = reported_gone asking file;
    said = [];
    reports = of_reading (λ other. (reported_gone asking file ≡ reported_gone asking other) × (nothing ≡ nothing)) (file_by asking.names text) file reads (refl, refl);
    out_is = is;
    beside_is = sym (append-nil beside);
  })

  pub changed_reported : (old : List ℕ) → Reports (ReportsRead asking (file_by asking.names old) file) out out' → Appended (ReportsOld (impacting asking) old text) out out' beside beside
  changed_reported old reported = record {
    reported = reported.text;
    said = [];
    reports = by (file_by asking.names old) refl reported.is;
    out_is = reported.out_is;
    beside_is = sym (append-nil beside);
  }
    where
      by : (reading : Result FileValue BlockFault) → file_by asking.names old ≡ reading → ReportsRead asking reading file reported.text
          → ReportsIf (is_none (fault_of (file_by asking.names old))) ((impacting asking).IsChanged old text) reported.text []
      by (Err fault) is none = subst (λ reading. ReportsIf (is_none (fault_of reading)) ((impacting asking).IsChanged old text) reported.text []) (sym is) (none, refl)
      by (Ok before) is reports =
          subst (λ reading. ReportsIf (is_none (fault_of reading)) ((impacting asking).IsChanged old text) reported.text []) (sym is)
          (of_reading (λ before. IfOk (file_by asking.names text) (λ after. ReportsChange asking before after reported.text × (nothing ≡ nothing))) (file_by asking.names old) before is
          (of_reading (λ after. ReportsChange asking before after reported.text × (nothing ≡ nothing)) (file_by asking.names text) file reads (reports, refl)))

pub unread_gone : (asking : ImpactAsking) (text : List ℕ) (fault : BlockFault) → file_by asking.names text ≡ Err fault → (out beside : List ℕ)
    → Appended (ReportsIf (is_none ((impacting asking).fault text)) ((impacting asking).IsGone text)) out out beside beside
unread_gone asking text fault is out beside =
    nothing_if (is_none ((impacting asking).fault text)) ((impacting asking).IsGone text) (ap (λ (reading : Result FileValue BlockFault). is_none (fault_of reading)) is) out beside

-- the lines so far, and one more
module _ (line : Person → List ℕ) where
  pub lines_more : (persons : List Person) (place : ℕ) → flat_map line (take (suc place) persons) ≡ flat_map line (take place persons) ++ line_at line (slice_get persons place)
  lines_more [] zero = refl
  lines_more [] (suc place) = refl
  lines_more (person ∷ persons) zero = append-nil (line person)
  lines_more (person ∷ persons) (suc place) =
      ap (λ lines. line person ++ lines) (lines_more persons place) ∙ sym (append_assoc (line person) (flat_map line (take place persons)) (line_at line (slice_get persons place)))

  take_past : (persons : List Person) (place : ℕ) → length persons ≤ place → take place persons ≡ persons
  take_past [] zero past = refl
  take_past [] (suc place) past = refl
  take_past (person ∷ persons) zero past = absurd (omega (arith, past))
  take_past (person ∷ persons) (suc place) past = ap (λ persons. person ∷ persons) (take_past persons place (omega (arith, past)))

  pub lines_all : (names : List (List ℕ)) (whos : List Identity) (place : ℕ) → length whos ≤ place → flat_map line (take place (persons_of names whos)) ≡ flat_map line (persons_of names whos)
  lines_all names whos place past = ap (flat_map line) (take_past (persons_of names whos) place (omega (arith, past, persons_within names whos)))
