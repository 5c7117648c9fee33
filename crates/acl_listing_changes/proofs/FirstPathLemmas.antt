-- The first path of a listing.
use Rattle.std.proofs.Common.{◌≡◌, ◌∙◌, ◌++◌, ℕ, List, [], ◌∷◌, Option, Some, None, ap, drop, refl, sym, take}
use Rattle.std.proofs.lemmas.List.{take-append-drop}
use Rattle.acl_listings.specs.Block.{path_of}
use Rattle.acl_listings.specs.Listing.{Block}
use Rattle.acl_reports.specs.Paths.{first_path, or_first}

or_first_more : (first second third : Option (List ℕ)) → or_first (or_first first second) third ≡ or_first first (or_first second third)
or_first_more None second third = refl
or_first_more (Some path) second third = refl

first_of_both : (blocks more : List Block) → first_path (blocks ++ more) ≡ or_first (first_path blocks) (first_path more)
first_of_both [] more = refl
first_of_both (block ∷ blocks) more = ap (or_first (path_of block.text)) (first_of_both blocks more) ∙ sym (or_first_more (path_of block.text) (first_path blocks) (first_path more))

or_none : (path : Option (List ℕ)) → or_first path None ≡ path
or_none None = refl
or_none (Some path) = refl

pub first_more : (earlier : List Block) (block : Block) → first_path (earlier ++ block ∷ []) ≡ or_first (first_path earlier) (path_of block.text)
first_more earlier block = first_of_both earlier (block ∷ []) ∙ ap (or_first (first_path earlier)) (or_none (path_of block.text))

module _ (blocks : List Block) (place more : ℕ) (block : Block) (grown : take more blocks ≡ take place blocks ++ block ∷ []) (none : first_path (take place blocks) ≡ None) where
  first_to : first_path (take more blocks) ≡ path_of block.text
  first_to = ap first_path grown ∙ first_more (take place blocks) block ∙ ap (λ first. or_first first (path_of block.text)) none

  pub none_so_far : path_of block.text ≡ None → first_path (take more blocks) ≡ None
  none_so_far lacks = first_to ∙ lacks

  pub first_there : (path : List ℕ) → path_of block.text ≡ Some path → first_path blocks ≡ Some path
  first_there path is =
      ap first_path (sym (take-append-drop more blocks)) ∙ first_of_both (take more blocks) (drop more blocks)
      ∙ ap (λ first. or_first first (first_path (drop more blocks))) (first_to ∙ is)
