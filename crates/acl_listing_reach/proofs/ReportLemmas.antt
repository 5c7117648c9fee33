-- What is reported for two listings, one path more.
use Rattle.std.proofs.Common.{◌≡◌, ◌∙◌, ◌≤◌, ◌+◌, ◌++◌, ◌||◌, ℕ, zero, suc, Bool, true, false, List, [], ◌∷◌, Option, Some, None, ap, append_assoc, append-nil, arith, drop, length, min, refl, subst, sym, take}
use Rattle.std.specs.Prelude.{slice_get}
use Rattle.std.specs.Io.KnownBytes.{Appends}
use Rattle.std.specs.List.{flat_map, list_any}
use Rattle.std.specs.Option.{option_map_or}
use Rattle.std.proofs.lemmas.List.{take-append-le, take_min}
use Rattle.acl_cli.specs.Output.{AppendsFront}
use Rattle.acl_cli.specs.Reporting.{LeadsOn}
use Rattle.acl_listing_reach.specs.Once.{At}
use Rattle.acl_listing_reach.specs.ReachAnswer.{first_path}
use Rattle.acl_listing_reach.specs.ReachText.{ReachAsking, after_text, gone_text}
use Rattle.acl_listing_reach.specs.ReportSteps.{BeginsLeft, ReportsLeft, left_text}
use Rattle.acl_listing_reach.specs.declared.report.Stage.TheVariants as stage

-- ---- of what stands at a place, and behind it

module _ {X : Type 0} where
  reported_on : (f : X → List ℕ) (place : ℕ) (items : List X) → flat_map f (drop place items) ≡ option_map_or f (slice_get items place) [] ++ flat_map f (drop (suc place) items)
  reported_on f zero [] = refl
  reported_on f zero (item ∷ items) = refl
  reported_on f (suc place) [] = refl
  reported_on f (suc place) (item ∷ items) = reported_on f place items

  reported_more : (f : X → List ℕ) (place : ℕ) (items : List X) → flat_map f (drop place items) ≡ option_map_or f (slice_get items place) [] ++ flat_map f (drop (place + 1) items)
  reported_more f place items =
      let one : suc place ≡ place + 1 = omega arith in
      reported_on f place items ∙ ap (λ n. option_map_or f (slice_get items place) [] ++ flat_map f (drop n items)) one

  drop_past : (items : List X) (place : ℕ) → length items ≤ place → drop place items ≡ []
  drop_past [] zero past = refl
  drop_past [] (suc place) past = refl
  drop_past (item ∷ items) zero past = absurd (omega (arith, past))
  drop_past (item ∷ items) (suc place) past = drop_past items place (omega (arith, past))

  any_on : (test : X → Bool) (place : ℕ) (items : List X) → list_any test (drop place items) ≡ (option_map_or test (slice_get items place) false || list_any test (drop (suc place) items))
  any_on test zero [] = refl
  any_on test zero (item ∷ items) = refl
  any_on test (suc place) [] = refl
  any_on test (suc place) (item ∷ items) = any_on test place items

  -- none of those before a place passes
  pub any_more : (test : X → Bool) (place : ℕ) (items : List X) → option_map_or test (slice_get items place) false ≡ false → list_any test (drop place items) ≡ list_any test (drop (place + 1) items)
  any_more test place items none =
      let one : suc place ≡ place + 1 = omega arith in
      any_on test place items ∙ ap (λ b. b || list_any test (drop (suc place) items)) none ∙ ap (λ n. list_any test (drop n items)) one

  pub any_here : (test : X → Bool) (place : ℕ) (items : List X) → option_map_or test (slice_get items place) false ≡ true → list_any test (drop place items) ≡ true
  any_here test place items some = any_on test place items ∙ ap (λ b. b || list_any test (drop (suc place) items)) some

  pub any_end : (test : X → Bool) (place : ℕ) (items : List X) → length items ≤ place → list_any test (drop place items) ≡ false
  any_end test place items past = ap (list_any test) (drop_past items place past)

module _ (asking : ReachAsking) (before after : List At) (place : ℕ) where
  pub left_after : left_text asking before after (stage.After place) ≡ option_map_or (after_text asking before) (slice_get after place) [] ++ left_text asking before after (stage.After (place + 1))
  left_after =
      ap (λ text. text ++ flat_map (gone_text asking after) before) (reported_more (after_text asking before) place after)
      ∙ append_assoc (option_map_or (after_text asking before) (slice_get after place) []) (flat_map (after_text asking before) (drop (place + 1) after)) (flat_map (gone_text asking after) before)

  pub left_between : length after ≤ place → left_text asking before after (stage.After place) ≡ left_text asking before after (stage.Gone 0)
  left_between past = ap (λ ats. flat_map (after_text asking before) ats ++ flat_map (gone_text asking after) before) (drop_past after place past)

  pub left_gone : left_text asking before after (stage.Gone place) ≡ option_map_or (gone_text asking after) (slice_get before place) [] ++ left_text asking before after (stage.Gone (place + 1))
  left_gone = reported_more (gone_text asking after) place before

  pub left_none : length before ≤ place → left_text asking before after (stage.Gone place) ≡ []
  left_none past = ap (flat_map (gone_text asking after)) (drop_past before place past)

-- ---- one step

module _ (old reported new : List ℕ) (is : old ≡ reported ++ new) where
  reports_on : LeadsOn (ReportsLeft old) (ReportsLeft new) reported []
  reports_on = λ rest others reports. (ap (λ rest. reported ++ rest) reports.0 ∙ sym is, reports.1)

  begins_on : LeadsOn (BeginsLeft old) (BeginsLeft new) reported []
  begins_on = λ rest others begins. (
    (begins.0.0, is ∙ ap (λ rest. reported ++ rest) begins.0.1 ∙ sym (append_assoc reported rest begins.0.0)),
    begins.1,
  )

  pub begins_now : BeginsLeft new [] []
  begins_now = ((new, refl), refl)

  -- what was appended, and nothing beside it
  abbrev pub IsReportedOn : List ℕ → List ℕ → List ℕ → Type 0
  IsReportedOn out out' beside = (more : List ℕ) × (others : List ℕ) × (out' ≡ out ++ more) × (beside ≡ beside ++ others)
      × LeadsOn (ReportsLeft old) (ReportsLeft new) more others × LeadsOn (BeginsLeft old) (BeginsLeft new) more others × BeginsLeft new [] []

  pub reported_step : (out out' beside : List ℕ) → out' ≡ out ++ reported → IsReportedOn out out' beside
  reported_step out out' beside appended = (reported, [], appended, sym (append-nil beside), reports_on, begins_on, begins_now)

-- a front of the first of a text is one of all of it
pub front_whole : (old new : Option (List ℕ)) (whole text rest : List ℕ) → whole ≡ text ++ rest → AppendsFront old new text → AppendsFront old new whole
front_whole old new whole text rest is (count, appends) =
    let within : min count (length text) ≤ length text = omega arith in
    let same : take (min count (length text)) whole ≡ take count text =
    ap (take (min count (length text))) is ∙ take-append-le (min count (length text)) text rest within ∙ take_min count text in
    (min count (length text), subst (Appends old new) (sym same) appends)

-- the first path of a listing
pub first_there : (ats : List At) → slice_get ats 0 ≡ None → first_path ats ≡ None
first_there [] is = refl
first_there (at ∷ ats) is = absurd (cc)

pub first_at : (ats : List At) (at : At) → slice_get ats 0 ≡ Some at → first_path ats ≡ Some at.path
first_at [] at is = absurd (cc)
first_at (first ∷ ats) at is = let same : first ≡ at = cc in ap (λ (at : At). Some at.path) same
