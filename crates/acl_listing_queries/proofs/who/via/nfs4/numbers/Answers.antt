use Rattle.std.proofs.Common.{rules, ◌≡◌, ◌∙◌, ◌+◌, ◌<◌, ◌∷◌, [], ap, cond, decimal, fold, get_or, length, sym, take}
use Rattle.std.specs.List.{enumerate_from, flat_map}
use Rattle.acl_access.proofs.ReachLemmas.{enumerate_more}
use Rattle.acl_listing_queries.specs.Via.{number_words, with_word}
use Rattle.acl_listing_queries.proofs.ViaLemmas.{words_more}
use Rattle.acl_listing_queries.proofs.who.via.nfs4.numbers.Goals as goal

pub loop-place-preserved : goal.loop-place-preserved
loop-place-preserved c =
    let aces = c.args.aces.now in
    let at = c.loop-place.place in
    let ace = c.index-aces-place.result in
    let within : at < length aces = search rules in
    let here : get_or aces at ace ≡ ace = search rules in
    let words = number_words c.args.places.now in
    c.in_ok-push_number_if.ensures
    ∙ ap (λ b. fold with_word c.loop-place.out.items (cond b (decimal (at + 1) ∷ []) [])) c.is_place_of.ensures
    ∙ ap (λ text. fold with_word text (words (at, ace))) c.loop-place.invariant
    ∙ sym (ap (λ items. fold with_word [] (flat_map words items)) (enumerate_more aces at ace within here)
    ∙ words_more words [] (enumerate_from 0 (take at aces)) (at, ace))
