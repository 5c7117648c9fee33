-- What a command about two listings came to.
use Rattle.std.proofs.Common.{ℕ, List, Option, None, Some, Err, inl, refl, subst, sym}
use Rattle.std.specs.Prelude.{IfSome}
use Rattle.std.proofs.KnownBytes.{Keeps-refl}
use Rattle.acl_cli.specs.Commands.{Answer, Comes, FrontWentOut, Meaning, WentOut}
use Rattle.acl_cli.specs.ErrorOutput.{ErrorText}
use Rattle.acl_cli.specs.declared.command.Ending.{Ending}
use Rattle.acl_cli.specs.declared.failure.Failure.{Failure}
use Rattle.acl_listings.specs.Cursor.{blocks_to_come}
use Rattle.acl_listings.specs.Listing.{Block}
use Rattle.acl_listing_changes.specs.Changes.{Named, OfAfter, OfListings}
use Rattle.acl_listing_changes.specs.Kept.{AreAll}

module _ {I : Type 0} (meaning : Meaning) (out : Option (List ℕ)) (err : ErrorText) (input : I) where
  -- nothing was reported, for this failure
  pub comes_refused : (failure : Failure) → meaning.Fails failure → Comes meaning (Err failure) out out err err input input
  comes_refused failure fails = record {
    answered = tt;
    fails = fails;
    silent = λ few. (Keeps-refl out, refl);
    cut = inl (Keeps-refl out, refl);
    untouched = λ none. refl;
    unread = λ two. refl;
  }

-- what is reported of blocks is reported for the listing whose blocks they are
module _ (Is : Named → Named → Answer → Type 0) (name : List ℕ) (bytes : Option (List ℕ)) (other : List ℕ) (others : Option (List ℕ)) (blocks : List Block)
    (are : AreAll (blocks_to_come 1 bytes) blocks) where
  of_all : (answer : Answer) → OfAfter Is (record { name = name; blocks = blocks }) other others answer → OfListings Is name bytes other others answer
  of_all answer is = by (blocks_to_come 1 bytes) are
    where
      by : (coming : Option (List Block)) → AreAll coming blocks → IfSome coming (λ blocks. OfAfter Is (record { name = name; blocks = blocks }) other others answer)
      by None are = tt
      by (Some known) are = subst (λ blocks. OfAfter Is (record { name = name; blocks = blocks }) other others answer) (sym are) is

  pub went_all : (ending : Ending) (out out' : Option (List ℕ)) (err err' : ErrorText) → WentOut (OfAfter Is (record { name = name; blocks = blocks }) other others) ending out out' err err'
      → WentOut (OfListings Is name bytes other others) ending out out' err err'
  went_all ending out out' err err' went = record { answer = went.answer; is = of_all went.answer went.is; ends = went.ends; text = went.text; beside = went.beside }

  pub front_all : (out out' : Option (List ℕ)) (err err' : ErrorText) → FrontWentOut (OfAfter Is (record { name = name; blocks = blocks }) other others) out out' err err'
      → FrontWentOut (OfListings Is name bytes other others) out out' err err'
  front_all out out' err err' went = record { answer = went.answer; is = of_all went.answer went.is; text = went.text; said = went.said; beside = went.beside }
