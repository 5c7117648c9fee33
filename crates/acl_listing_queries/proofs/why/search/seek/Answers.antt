use Rattle.std.proofs.Common.{rules, ◌≡◌, ◌∙◌, ◌++◌, ◌∷◌, [], ℕ, List, ap, bytes_eq, false, true, subst, sym}
use Rattle.std.specs.Option.{option_map_or}
use Rattle.std.proofs.lemmas.Result.{IfOk-weaker}
use Rattle.acl_listings.specs.Block.{path_of}
use Rattle.acl_listings.specs.Cursor.{HandsOut}
use Rattle.acl_listings.specs.Listing.{Block}
use Rattle.acl_reports.specs.Paths.{has_path}
use Rattle.acl_listing_queries.specs.Readings.{reading_of}
use Rattle.acl_listing_queries.specs.WhyMeaning.{IsWhyAnswer}
use Rattle.acl_listing_queries.specs.WhySteps.{IsSought, IsWayTo, asked_by}
use Rattle.acl_listing_queries.specs.WhyText.{WhyAsking}
use Rattle.acl_listing_queries.proofs.WhySeekLemmas.{answers_there, path_found, sought_begun, sought_on}
use Rattle.acl_listing_queries.proofs.why.search.seek.Goals as goal

pub loop-init : goal.loop-init
loop-init g c =
    let asking : WhyAsking = asked_by c.args.question.now in
    sought_begun asking.names c.args.path.now c.args.blocks.now.coming c.new-way.result (c.new-way.ensures asking.names c.args.path.now)

pub returns-then-has_path-clause-made : goal.returns-then-has_path-clause-made
returns-then-has_path-clause-made g c =
    let asking : WhyAsking = asked_by c.args.question.now in
    let path : List ℕ = c.args.path.now in
    let name : List ℕ = c.args.name.now in
    let block : Block = c.advance.new.blocks.block in
    let hands : HandsOut c.loop.blocks.coming block c.advance.new.blocks.coming = search rules in
    let text : c.text-text.result.now ≡ block.text = search rules in
    let line : c.line.result ≡ block.line = search rules in
    let found : option_map_or (bytes_eq path) (path_of c.text-text.result.now) false ≡ true = search rules in
    let has : has_path path block ≡ true = ap (λ (text : List ℕ). option_map_or (bytes_eq path) (path_of text) false) (sym text) ∙ found in
    let same : record { line = c.line.result; text = c.text-text.result.now } ≡ block = λ i. record { line = line i; text = text i } in
    let sought : IsSought asking.names path c.args.blocks.now.coming c.loop.blocks.coming c.loop.way = c.loop.invariant in
    IfOk-weaker c.answer_block.result _ _
    (λ made is. answers_there asking.names path c.args.blocks.now.coming c.loop.blocks.coming c.advance.new.blocks.coming block hands c.loop.way sought asking name made has
    (subst (λ (here : Block). IsWhyAnswer asking name (record { earlier = sought.seen; here = here }) made) same is))
    (c.answer_block.ensures.made path sought.seen (path_found path (path_of c.text-text.result.now) found) sought.way_is)

pub loop-preserved : goal.loop-preserved
loop-preserved g c =
    let asking : WhyAsking = asked_by c.args.question.now in
    let path : List ℕ = c.args.path.now in
    let block : Block = c.advance.new.blocks.block in
    let hands : HandsOut c.loop.blocks.coming block c.advance.new.blocks.coming = search rules in
    let text : c.text-text.result.now ≡ block.text = search rules in
    let lost : option_map_or (bytes_eq path) (path_of c.text-text.result.now) false ≡ false = search rules in
    let lacks : has_path path block ≡ false = ap (λ (text : List ℕ). option_map_or (bytes_eq path) (path_of text) false) (sym text) ∙ lost in
    sought_on asking.names path c.args.blocks.now.coming c.loop.blocks.coming c.advance.new.blocks.coming block hands c.loop.way c.loop.invariant c.go_on.new.self lacks
    (λ earlier was. subst (λ (text : List ℕ). IsWayTo asking.names path (earlier ++ reading_of asking.names text ∷ []) c.go_on.new.self) text
    (c.in_ok-go_on.ensures asking.names earlier was))
