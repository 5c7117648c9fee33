-- Things in their places in a list.
use Rattle.std.proofs.Common.{◌≡◌, ◌∙◌, ◌++◌, List, [], ◌∷◌, ap, append_assoc, append-nil, sym}
use Rattle.acl_reports.specs.Placed.{Placed, in_places, in_places_after}

module _ {A : Type 0} where
  abbrev pub put : List A → A → Placed A
  put earlier here = record { earlier = earlier; here = here }

  -- ---- where they stand

  split_behind : (earlier seen left : List A) → in_places_after earlier (seen ++ left) ≡ in_places_after earlier seen ++ in_places_after (earlier ++ seen) left
  split_behind earlier [] left = ap (λ e. in_places_after e left) (sym (append-nil earlier))
  split_behind earlier (here ∷ seen) left =
      ap (λ items. put earlier here ∷ items)
      (split_behind (earlier ++ here ∷ []) seen left
      ∙ ap (λ e. in_places_after (earlier ++ here ∷ []) seen ++ in_places_after e left) (append_assoc earlier (here ∷ []) seen))

  pub placed_split : (seen left : List A) → in_places (seen ++ left) ≡ in_places seen ++ in_places_after seen left
  placed_split seen left = split_behind [] seen left
