-- What is reported for one block, by where the path of a text stands.
use Rattle.std.proofs.Common.{◌≡◌, ◌∙◌, ◌++◌, ◌&&◌, not, ℕ, Bool, true, false, List, [], Option, Some, None, ap, append-nil, get_or, is_none, refl, subst, sym, take}
use Rattle.std.specs.Prelude.{IfSome, slice_get}
use Rattle.std.proofs.Math.Bool.{and-true}
use Rattle.acl_listings.specs.Listing.{Block}
use Rattle.acl_listings.specs.declared.fault.BlockFault.{BlockFault}
use Rattle.acl_listings.specs.declared.fault.BlockFault.TheVariants.{TooLong, BadHeader}
use Rattle.acl_reports.specs.Listed.{IsSaid}
use Rattle.acl_reports.specs.Paths.{lists}
use Rattle.acl_listing_changes.specs.ChangeSteps.{Appended, ReportsMissing}
use Rattle.acl_listing_changes.specs.Changes.{ReportsIf, ReportsNextBy, Wording, fault_before, part_of, unless_repeated}
use Rattle.acl_listing_changes.specs.Kept.{is_earlier, place_of}
use Rattle.acl_listing_changes.proofs.PlacedLemmas.{put}
use Rattle.acl_listing_changes.proofs.PlacesLemmas.{earlier_repeats}

-- a path that was there is a fault
pub some_repeated : (fault : Option BlockFault) → is_none (unless_repeated true fault) ≡ false
some_repeated None = refl
some_repeated (Some TooLong) = refl
some_repeated (Some BadHeader) = refl
some_repeated (Some fault) = refl

module _ (wording : Wording) (name : List ℕ) (was : Option Block) (block : Block) where
  -- a fault is said, and nothing else is reported
  reported_said : (fault : Option BlockFault) → is_none fault ≡ false → (said : List ℕ) → IsSaid name wording.names block (part_of fault) said → ReportsNextBy wording name was block fault [] said
  reported_said None none said is = cc
  reported_said (Some fault) some said is = (refl, is)

  pub reports_said : (fault : Option BlockFault) → is_none fault ≡ false → (out beside beside' said : List ℕ) → IsSaid name wording.names block (part_of fault) said → beside' ≡ beside ++ said
      → Appended (ReportsNextBy wording name was block fault) out out beside beside'
  reports_said fault some out beside beside' said is said_is = record { reported = []; said = said; reports = reported_said fault some said is; out_is = sym (append-nil out); beside_is = said_is }

-- ---- a block before whose path may be gone

module _ (wording : Wording) (before : List Block) (met : List Bool) (place : ℕ) where
  abbrev reports_if : Block → Bool
  reports_if block = is_none (fault_before wording (put (take place before) block)) && not (get_or met place false)

  pub missing_if : (block : Block) → slice_get before place ≡ Some block → (b : Bool) → reports_if block ≡ b → (out out' beside beside' : List ℕ)
      → Appended (ReportsIf b (wording.IsGone block.text)) out out' beside beside' → Appended (ReportsMissing wording before met place) out out' beside beside'
  missing_if block there b is out out' beside beside' appended = record {
    reported = appended.reported;
    said = appended.said;
    reports = subst (λ found. IfSome found (λ block. ReportsIf (reports_if block) (wording.IsGone block.text) appended.reported appended.said)) (sym there)
        (subst (λ b. ReportsIf b (wording.IsGone block.text) appended.reported appended.said) (sym is) appended.reports);
    out_is = appended.out_is;
    beside_is = appended.beside_is;
  }

  nothing : (out beside : List ℕ) → ReportsMissing wording before met place [] [] → Appended (ReportsMissing wording before met place) out out beside beside
  nothing out beside reports = record { reported = []; said = []; reports = reports; out_is = sym (append-nil out); beside_is = sym (append-nil beside) }

  and_false : (b : Bool) → (b && false) ≡ false
  and_false true = refl
  and_false false = refl

  pub nothing_met : get_or met place false ≡ true → (out beside : List ℕ) → Appended (ReportsMissing wording before met place) out out beside beside
  nothing_met is out beside = nothing out beside (by (slice_get before place))
    where
      by : (found : Option Block) → IfSome found (λ block. ReportsIf (reports_if block) (wording.IsGone block.text) [] [])
      by None = tt
      by (Some block) =
          let fails : reports_if block ≡ false = ap (λ b. is_none (fault_before wording (put (take place before) block)) && not b) is ∙ and_false (is_none (fault_before wording (put (take place before) block))) in
          subst (λ b. ReportsIf b (wording.IsGone block.text) [] []) (sym fails) (refl, refl)

  pub nothing_there : slice_get before place ≡ None → (out beside : List ℕ) → Appended (ReportsMissing wording before met place) out out beside beside
  nothing_there none out beside = nothing out beside (subst (λ found. IfSome found (λ block. ReportsIf (reports_if block) (wording.IsGone block.text) [] [])) (sym none) tt)

  module _ (block : Block) (there : slice_get before place ≡ Some block) where
    pub nothing_repeated : is_earlier place (place_of before block.text) ≡ true → (out beside : List ℕ) → Appended (ReportsMissing wording before met place) out out beside beside
    nothing_repeated repeats out beside =
        let listed : lists (take place before) block.text ≡ true = sym (earlier_repeats before place block.text) ∙ repeats in
        let fails : reports_if block ≡ false =
        ap (λ b. is_none (unless_repeated b (wording.fault block.text)) && not (get_or met place false)) listed ∙ ap (λ b. b && not (get_or met place false)) (some_repeated (wording.fault block.text)) in
        missing_if block there false fails out out beside beside (record { reported = []; said = []; reports = (refl, refl); out_is = sym (append-nil out); beside_is = sym (append-nil beside) })

    pub reported_gone : get_or met place false ≡ false → is_earlier place (place_of before block.text) ≡ false → (out out' beside beside' : List ℕ)
        → Appended (ReportsIf (is_none (wording.fault block.text)) (wording.IsGone block.text)) out out' beside beside' → Appended (ReportsMissing wording before met place) out out' beside beside'
    reported_gone unmet once out out' beside beside' appended =
        let listed : lists (take place before) block.text ≡ false = sym (earlier_repeats before place block.text) ∙ once in
        let is : reports_if block ≡ is_none (wording.fault block.text) =
        ap (λ b. is_none (unless_repeated b (wording.fault block.text)) && not (get_or met place false)) listed
        ∙ ap (λ b. is_none (wording.fault block.text) && not b) unmet ∙ and-true (is_none (wording.fault block.text)) in
        missing_if block there (is_none (wording.fault block.text)) is out out' beside beside' appended
