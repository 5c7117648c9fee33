-- Words with commas between them, and the entries that decide.
use Rattle.std.proofs.Common.{◌≡◌, ◌∙◌, ◌+◌, ◌<◌, ◌++◌, ◌∷◌, [], ℕ, List, ap, fold, get_or, length, refl, sym, take, true}
use Rattle.std.specs.List.{flat_map}
use Rattle.std.proofs.lemmas.List.{flat_map_more}
use Rattle.std.proofs.lemmas.List.Sums.{fold-append}
use Rattle.acl_names.proofs.TakeLemmas.{flat_map-take-next}
use Rattle.acl_listing_queries.specs.Via.{with_word}
use Rattle.acl_listing_queries.specs.ViaSteps.{asked_of, is_in_words}
use Rattle.acl_listing_queries.specs.declared.who.asked.What.{What}
use Rattle.acl_listing_queries.specs.declared.who.asked.What.TheVariants as what

-- the words of the items so far, and of the next
pub words_next : {X : Type 0} (f : X → List (List ℕ)) (start : List ℕ) (items : List X) (at : ℕ) (item : X) → at < length items → item ≡ get_or items at item
    → fold with_word start (flat_map f (take (at + 1) items)) ≡ fold with_word (fold with_word start (flat_map f (take at items))) (f item)
words_next f start items at item within here =
    ap (fold with_word start) (flat_map-take-next f items at item within here)
    ∙ fold-append with_word start (flat_map f (take at items)) (f item)

-- and of one more
pub words_more : {X : Type 0} (f : X → List (List ℕ)) (start : List ℕ) (items : List X) (item : X)
    → fold with_word start (flat_map f (items ++ item ∷ [])) ≡ fold with_word (fold with_word start (flat_map f items)) (f item)
words_more f start items item =
    ap (fold with_word start) (sym (flat_map_more f [] items item))
    ∙ fold-append with_word start (flat_map f items) (f item)

-- what the words of a command ask is reported in words
pub asked_in_words : (what : What) → is_in_words (asked_of what) ≡ true
asked_in_words what.Letters = refl
asked_in_words what.AllLetters = refl
asked_in_words (what.Perms perms) = refl
