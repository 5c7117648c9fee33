-- How it is reported for two listings path by path. Private steps, which no public clause cites.
use Rattle.std.specs.Prelude.{◌≡◌, ℕ, List, [], ◌++◌, drop}
use Rattle.std.specs.List.{flat_map}
use Rattle.acl_listing_reach.specs.Once.{At}
use Rattle.acl_listing_reach.specs.ReachText.{ReachAsking, after_text, gone_text}
use Rattle.acl_listing_reach.specs.declared.report.Stage.{Stage}
use Rattle.acl_listing_reach.specs.declared.report.Stage.TheVariants as stage

-- what is left to report
abbrev pub left_text : ReachAsking → List At → List At → Stage → List ℕ
left_text asking before after (stage.After place) =
    flat_map (after_text asking before) (drop place after)
    ++ flat_map (gone_text asking after) before
left_text asking before after (stage.Gone place) =
    flat_map (gone_text asking after) (drop place before)

-- the text is all of it, or a front
abbrev pub ReportsLeft : List ℕ → List ℕ → List ℕ → Type 0
ReportsLeft left text said = (text ≡ left) × (said ≡ [])

abbrev pub BeginsLeft : List ℕ → List ℕ → List ℕ → Type 0
BeginsLeft left text said = ((rest : List ℕ) × (left ≡ text ++ rest)) × (said ≡ [])
