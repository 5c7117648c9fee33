-- The block of a path, as it is sought block by block, and what `why` comes to.
use Rattle.std.proofs.Common.{◌≡◌, ◌∙◌, ◌++◌, ◌||◌, ℕ, true, false, List, [], ◌∷◌, Option, Some, None, ap, bytes_eq, refl, subst, sym}
use Rattle.std.specs.Option.{option_map_or}
use Rattle.std.proofs.lemmas.List.{map-append}
use Rattle.std.proofs.lemmas.List.Folds.{list_any-append}
use Rattle.std.proofs.lemmas.Slice.Eq.{bytes_eq-Decides}
use Rattle.clap.specs.Words.{Text}
use Rattle.acl_cli.specs.Commands.{Answer}
use Rattle.acl_listings.specs.Cursor.{HandsOut}
use Rattle.acl_listings.specs.Listing.{Block}
use Rattle.acl_names.specs.Names.{Names}
use Rattle.acl_reports.specs.Paths.{has_path}
use Rattle.acl_reports.specs.Seen.{Splits}
use Rattle.acl_listing_queries.specs.Readings.{Reading, reading_of}
use Rattle.acl_listing_queries.specs.WhyMeaning.{AnswersPath, IsWhyAnswer, readings}
use Rattle.acl_listing_queries.specs.WhySteps.{IsSought, IsWayTo}
use Rattle.acl_listing_queries.specs.WhyText.{WhyAsking}
use Rattle.acl_listing_queries.specs.declared.why.way.Way.{Way}
use Rattle.acl_reports.proofs.SeenLemmas.{splits_begun, splits_on}

-- ---- a block that has the path

-- a path that is found is the path
pub path_found : (path : List ℕ) (found : Option (List ℕ)) → option_map_or (bytes_eq path) found false ≡ true → found ≡ Some path
path_found path None is = cc
path_found path (Some own) is = ap Some (sym ((bytes_eq-Decides path own).0 is))

module _ (names : Names) (path : List ℕ) (coming : Option (List Block)) where
  -- before the first block
  pub sought_begun : (way : Way) → IsWayTo names path [] way → IsSought names path coming coming way
  sought_begun way is = record { seen = []; splits = splits_begun coming; none = refl; way_is = is }

  module _ (old new : Option (List Block)) (block : Block) (hands : HandsOut old block new) (way : Way) (sought : IsSought names path coming old way) where
    -- behind one more, which doesn't have it
    pub sought_on : (way' : Way) → has_path path block ≡ false
        → ((earlier : List Reading) → IsWayTo names path earlier way → IsWayTo names path (earlier ++ reading_of names block.text ∷ []) way') → IsSought names path coming new way'
    sought_on way' lacks goes_on = record {
      seen = sought.seen ++ block ∷ [];
      splits = splits_on coming sought.seen old new block sought.splits hands;
      none = list_any-append (has_path path) sought.seen (block ∷ []) ∙ ap (λ b. b || (has_path path block || false)) sought.none ∙ ap (λ b. b || false) lacks;
      way_is = subst (λ (earlier : List Reading). IsWayTo names path earlier way') (sym (map-append (λ block. reading_of names block.text) sought.seen (block ∷ [])))
          (goes_on (readings names sought.seen) sought.way_is);
    }

    -- at the first that has it
    pub answers_there : (asking : WhyAsking) (name : Text) (answer : Answer) → has_path path block ≡ true
        → IsWhyAnswer asking name (record { earlier = sought.seen; here = block }) answer → AnswersPath asking name path coming answer
    answers_there asking name answer has is = by coming old new sought.splits hands
      where
        by : (coming old new : Option (List Block)) → Splits coming sought.seen old → HandsOut old block new → AnswersPath asking name path coming answer
        by None old new splits hands = tt
        by (Some blocks) None new splits hands = absurd splits
        by (Some blocks) (Some left) None splits hands = absurd hands
        by (Some blocks) (Some left) (Some more) splits hands = (
          record { earlier = sought.seen; here = block },
          record { later = more; are = splits ∙ ap (λ left. sought.seen ++ left) hands; none_before = sought.none; has = has },
          is,
        )
