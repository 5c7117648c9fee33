-- Lines that are taken one by one.
use Rattle.std.proofs.Common.{◌≡◌, ◌∙◌, ◌+◌, [], ◌∷◌, List, ℕ, Bor, Option, Some, None, IfNone, ap, drop, sym}
use Rattle.std.specs.Prelude.{MatchOption}
use Rattle.std.proofs.lemmas.List.{drop-drop}

-- one more is gone behind a call that takes the next, if there is one
pub drop-next : (taken : Option (Bor (List ℕ))) (all old new : List (List ℕ)) (count : ℕ) → old ≡ drop count all → MatchOption taken (old ≡ []) (λ line. old ≡ line.now ∷ new) → IfNone taken (new ≡ [])
    → new ≡ drop (count + 1) all
drop-next None all old new count is none gone = gone ∙ ap (drop 1) (sym none ∙ is) ∙ drop-drop 1 count all
drop-next (Some line) all old new count is some gone = ap (drop 1) (sym some ∙ is) ∙ drop-drop 1 count all
