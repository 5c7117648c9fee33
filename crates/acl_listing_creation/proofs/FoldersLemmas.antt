-- What is reported for the blocks of a listing is each, and behind a folder's what would be created in it.
use Rattle.std.proofs.Common.{◌≡◌, ◌∙◌, ◌||◌, ℕ, Bool, true, false, cond, List, [], ◌∷◌, ◌++◌, Option, None, Result, Ok, Err, ap, append-nil, append_assoc, refl}
use Rattle.std.specs.List.{cons_option}
use Rattle.std.proofs.lemmas.Grind.{fold-append}
use Rattle.acl_listings.specs.Listing.{Block}
use Rattle.acl_listings.specs.declared.fault.BlockFault.{BlockFault}
use Rattle.acl_names.specs.Steps.{◌>>=◌}
use Rattle.acl_reports.specs.Listed.{items_after, reported, reported_of}
use Rattle.acl_listing_creation.specs.Next.{NextAsking, Reading, Pending, as_it_stands, if_unknown, is_known_folder, next_part, reading_of, reported_at, reported_before, pending_behind, pending_after}
use Rattle.acl_listing_creation.specs.NextLaws.{Answered, ReportsEachFolder, answered, begins_below, if_answered, with_next}

pub pending_behind-more : (asking : NextAsking) (earlier : List (List ℕ)) (text : List ℕ)
    → pending_behind asking (earlier ++ text ∷ []) ≡ pending_after asking (pending_behind asking earlier) (reading_of asking text)
pending_behind-more asking earlier text = fold-append (λ pending text. pending_after asking pending (reading_of asking text)) None earlier (text ∷ [])

-- what is reported for the file that is pending before the first of those behind it
abbrev before_first : Option Pending → List Answered → List ℕ
before_first pending [] = []
before_first pending (first ∷ more) = reported_before pending first.reading.file.path

module _ (asking : NextAsking) where
  -- what a block's own part and the next one report of what is created in it
  own_and_before : (known : Bool) (reading : Reading) (behind : List Answered)
      → cond known reading.next [] ++ before_first (if_unknown known reading) behind
      ≡ cond (known || begins_below reading.file.path behind) reading.next []
  own_and_before true reading [] = append-nil reading.next
  own_and_before true reading (first ∷ more) = append-nil reading.next
  own_and_before false reading [] = refl
  own_and_before false reading (first ∷ more) = refl

  regrouped : (before text own first more : List ℕ) → (before ++ (text ++ own)) ++ (first ++ more) ≡ before ++ (text ++ ((own ++ first) ++ more))
  regrouped before text own first more = simp append_assoc

  -- one block more
  one_reported : (read : Result Reading BlockFault) (pending : Option Pending) (text : List ℕ) (behind : List Answered) (rest : List ℕ)
      → rest ≡ before_first (pending_after asking pending read) behind ++ with_next asking behind
      → reported_of (read >>= (λ reading. Ok (reported_at asking pending text reading))) ++ rest
      ≡ before_first pending (cons_option (if_answered text read) behind) ++ with_next asking (cons_option (if_answered text read) behind)
  one_reported (Ok reading) pending text behind rest is =
      let before = reported_before pending reading.file.path in
      let here = as_it_stands text in
      let known = is_known_folder asking reading in
      let own = cond known reading.next [] in
      let first = before_first (if_unknown known reading) behind in
      ap (λ rest. (before ++ (here ++ own)) ++ rest) is
      ∙ regrouped before here own first (with_next asking behind)
      ∙ ap (λ (own : List ℕ). before ++ (here ++ (own ++ with_next asking behind))) (own_and_before known reading behind)
  one_reported (Err fault) pending text behind rest is = is

  reported_behind : (earlier : List (List ℕ)) (blocks : List Block)
      → reported (items_after (next_part asking) earlier blocks)
      ≡ before_first (pending_behind asking earlier) (answered asking blocks) ++ with_next asking (answered asking blocks)
  reported_behind earlier [] = refl
  reported_behind earlier (block ∷ blocks) =
      let behind = answered asking blocks in
      one_reported (reading_of asking block.text) (pending_behind asking earlier) block.text behind (reported (items_after (next_part asking) (earlier ++ block.text ∷ []) blocks))
      (reported_behind (earlier ++ block.text ∷ []) blocks
      ∙ ap (λ pending. before_first pending behind ++ with_next asking behind) (pending_behind-more asking earlier block.text))

  pub each_folder : (blocks : List Block) → ReportsEachFolder asking blocks
  each_folder blocks = reported_behind [] blocks ∙ none (answered asking blocks)
    where
      none : (behind : List Answered) → before_first None behind ++ with_next asking behind ≡ with_next asking behind
      none [] = refl
      none (first ∷ more) = refl
