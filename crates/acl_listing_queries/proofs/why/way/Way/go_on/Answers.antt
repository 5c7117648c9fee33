use Rattle.std.proofs.Common.{rules, ◌≡◌, ◌∙◌, ◌++◌, ◌∷◌, [], ℕ, List, Some, Vec, ap, append-nil, cond, sym, true, false}
use Rattle.std.specs.List.{filter}
use Rattle.std.specs.declared.alloc.Global.{Global}
use Rattle.std.proofs.lemmas.Fn.{filter_same}
use Rattle.std.proofs.lemmas.List.{map-append}
use Rattle.acl_listings.specs.Block.{path_of}
use Rattle.acl_listings.specs.Way.{is_above}
use Rattle.acl_listing_queries.specs.Readings.{Reading, reading_of}
use Rattle.acl_listing_queries.specs.Ways.{may_be_above, those_above}
use Rattle.acl_listing_queries.specs.WhySteps.{readings_of}
use Rattle.acl_listing_queries.specs.declared.why.way.Way.{Way}
use Rattle.acl_listing_queries.proofs.WhyWayLemmas.{readings-left, way_grown}
use Rattle.acl_listing_queries.proofs.why.way.Way.go_on.Goals as goal

pub returns-in_ok-push : goal.returns-in_ok-push
returns-in_ok-push c = λ names earlier was.
    let own : List ℕ = c.in-Some.here.now in
    let text : List ℕ = c.args.text.now in
    let next : Reading = reading_of names text in
    let folders : List (Vec ℕ Global) = c.args.self.now.folders.items in
    let is : next.path ≡ Some own = search rules in
    let kept : c.retain.new.self.items ≡ filter (λ folder. may_be_above (path_of folder.items) (Some own)) folders = filter_same _ (λ folder. may_be_above (path_of folder.items) (Some own)) _ (λ folder b f' called. search rules) _ _ c.retain.ensures.filtered in
    let above : is_above own c.args.path.now ≡ true = search rules in
    let copy : c.in_ok-folder.folder.items ≡ text = search rules in
    let pushed : c.push.new.self.items ≡ c.retain.new.self.items ++ c.in_ok-folder.folder ∷ [] = search rules in
    let way' : Way = record { folders = c.push.new.self; beginning = c.come_to.new.self; lost = c.args.self.now.lost } in
    let more : readings_of names way'.folders.items ≡ those_above next (readings_of names folders) ++ cond (is_above own c.args.path.now) (next ∷ []) [] =
    ap (readings_of names) pushed ∙ map-append (λ text. reading_of names text.items) c.retain.new.self.items (c.in_ok-folder.folder ∷ [])
    ∙ ap (λ (kept : List (Vec ℕ Global)). readings_of names kept ++ reading_of names c.in_ok-folder.folder.items ∷ []) kept
    ∙ ap (λ (front : List Reading). front ++ reading_of names c.in_ok-folder.folder.items ∷ []) (readings-left names own next folders is)
    ∙ ap (λ (text : List ℕ). those_above next (readings_of names folders) ++ reading_of names text ∷ []) copy
    ∙ ap (λ b. those_above next (readings_of names folders) ++ cond b (next ∷ []) []) (sym above) in
    way_grown names c.args.path.now earlier c.args.self.now way' next own was c.if-self.false c.if-self.false is more
    (c.in_ok-come_to.ensures.begun earlier next (was.begun c.if-self.false) (sym was.lost ∙ c.if-self.false) is)

pub returns-else-is_above : goal.returns-else-is_above
returns-else-is_above c = λ names earlier was.
    let own : List ℕ = c.in-Some.here.now in
    let text : List ℕ = c.args.text.now in
    let next : Reading = reading_of names text in
    let folders : List (Vec ℕ Global) = c.args.self.now.folders.items in
    let is : next.path ≡ Some own = search rules in
    let kept : c.retain.new.self.items ≡ filter (λ folder. may_be_above (path_of folder.items) (Some own)) folders = filter_same _ (λ folder. may_be_above (path_of folder.items) (Some own)) _ (λ folder b f' called. search rules) _ _ c.retain.ensures.filtered in
    let apart : is_above own c.args.path.now ≡ false = search rules in
    let way' : Way = record { folders = c.retain.new.self; beginning = c.come_to.new.self; lost = c.args.self.now.lost } in
    let more : readings_of names way'.folders.items ≡ those_above next (readings_of names folders) ++ cond (is_above own c.args.path.now) (next ∷ []) [] =
    ap (readings_of names) kept ∙ readings-left names own next folders is ∙ sym (append-nil (those_above next (readings_of names folders)))
    ∙ ap (λ b. those_above next (readings_of names folders) ++ cond b (next ∷ []) []) (sym apart) in
    way_grown names c.args.path.now earlier c.args.self.now way' next own was c.if-self.false c.if-self.false is more
    (c.in_ok-come_to.ensures.begun earlier next (was.begun c.if-self.false) (sym was.lost ∙ c.if-self.false) is)
