use Rattle.std.proofs.Common.{rules, ◌≡◌, ◌+◌, ◌++◌, ◌∷◌, [], ℕ, Err, IfErr, List, Result, Vec, reverse, subst, sym, take}
use Rattle.std.specs.declared.alloc.Global.{Global}
use Rattle.acl_listings.specs.declared.fault.FileFault.{FileFault}
use Rattle.acl_listing_queries.specs.Readings.{Reading, reading_of}
use Rattle.acl_listing_queries.specs.Ways.{chain_to}
use Rattle.acl_listing_queries.specs.WhySteps.{AreReported, IsUnknown, asked_by, known_folders, readings_of}
use Rattle.acl_listing_queries.specs.WhyText.{WhyAsking}
use Rattle.acl_listing_queries.specs.declared.why.folders.Folders.{Folders}
use Rattle.acl_listing_queries.proofs.WhyWayLemmas.{texts-more, way-next, way_unknown_behind}
use Rattle.acl_listing_queries.proofs.why.folders.report_folders.Goals as goal

pub returns-in_err-push-clause-refused : goal.returns-in_err-push-clause-refused
returns-in_err-push-clause-refused c = λ here path.
    let asking : WhyAsking = asked_by c.args.question.now in
    let texts : List (Vec ℕ Global) = c.args.texts.now in
    let place : ℕ = c.loop-text.text-index in
    let text : Vec ℕ Global = c.text-item.result in
    let way : List Reading = reverse (readings_of asking.names (take place texts)) in
    let more : take (place + 1) texts ≡ take place texts ++ text ∷ [] = texts-more texts place text c.loop-text-test.true c.text-item.is in
    let fault : FileFault = c.in_err-push.field-0.0 in
    let is : c.from_residual.result ≡ Err fault = search rules in
    let unknown : IsUnknown (known_folders (reading_of asking.names text.items ∷ way)) fault =
    subst (λ (text : List ℕ). IsUnknown (known_folders (reading_of asking.names text ∷ way)) fault) c.as_slice.ensures.value (c.in_err-push.ensures.refused way c.loop-text.invariant) in
    subst (λ (result : Result Folders FileFault). IfErr result (IsUnknown (chain_to (reverse (readings_of asking.names texts)) here))) (sym is)
    (way_unknown_behind asking.names texts place text here more fault unknown)

pub loop-text-preserved : goal.loop-text-preserved
loop-text-preserved c =
    let asking : WhyAsking = asked_by c.args.question.now in
    let texts : List (Vec ℕ Global) = c.args.texts.now in
    let place : ℕ = c.loop-text.text-index in
    let text : Vec ℕ Global = c.text-item.result in
    let way : List Reading = reverse (readings_of asking.names (take place texts)) in
    let more : take (place + 1) texts ≡ take place texts ++ text ∷ [] = texts-more texts place text c.loop-text-test.true c.text-item.is in
    subst (λ way. AreReported asking way c.push.new.self) (sym (way-next asking.names texts place text more))
    (subst (λ (text : List ℕ). AreReported asking (reading_of asking.names text ∷ way) c.push.new.self) c.as_slice.ensures.value (c.in_ok-push.ensures.reported way c.loop-text.invariant))
