-- The blocks of a listing that were seen, one more at a time.
use Rattle.std.proofs.Common.{◌∙◌, ◌++◌, List, [], ◌∷◌, Option, Some, None, ap, append_assoc, refl, sym}
use Rattle.acl_listings.specs.Cursor.{HandsOut}
use Rattle.acl_listings.specs.Listing.{Block}
use Rattle.acl_reports.specs.Seen.{Splits}

pub splits_begun : (coming : Option (List Block)) → Splits coming [] coming
splits_begun None = tt
splits_begun (Some blocks) = refl

pub splits_on : (coming : Option (List Block)) (seen : List Block) (old new : Option (List Block)) (block : Block)
    → Splits coming seen old → HandsOut old block new → Splits coming (seen ++ block ∷ []) new
splits_on None seen old new block splits hands = tt
splits_on (Some blocks) seen None new block splits hands = absurd splits
splits_on (Some blocks) seen (Some left) None block splits hands = absurd hands
splits_on (Some blocks) seen (Some left) (Some more) block splits hands =
    splits ∙ ap (λ blocks. seen ++ blocks) hands ∙ sym (append_assoc seen (block ∷ []) more)
