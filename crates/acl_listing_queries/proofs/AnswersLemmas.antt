-- What is kept of a file is answered of each file whose block has the same lines behind its first.
use Rattle.std.proofs.Common.{◌≡◌, ◌∙◌, ◌<◌, ◌≤◌, ℕ, zero, suc, true, false, List, [], ◌∷◌, Option, Some, None, Ok, IfSome, ap, arith, bytes_eq, length, option_map, refl, set, subst, sym}
use Rattle.std.specs.Prelude.{is_some}
use Rattle.std.specs.Option.{option_map_or}
use Rattle.std.proofs.lemmas.List.{get_or-set_same}
use Rattle.std.proofs.lemmas.Slice.Eq.{bytes_eq-Decides}
use Rattle.acl_listings.specs.Block.{FileValue, file_by, path_of}
use Rattle.acl_listings.specs.Lines.{after_line}
use Rattle.acl_listings.specs.declared.limits.TheConstants.{MAX_BLOCK}
use Rattle.acl_listings.proofs.AlikeLemmas.{file_at, file_of-alike}
use Rattle.acl_reports.proofs.SightedLemmas.{block_sighted}
use Rattle.acl_listing_queries.specs.WhoSteps.{AreRight, IsAnsweredAt, IsKept, kept_at, names_by, strange_kept, stranger_by}
use Rattle.acl_listing_queries.specs.declared.who.answers.Answers.{Answers}
use Rattle.acl_listing_queries.specs.declared.who.answers.Kept.{Kept}
use Rattle.acl_listing_queries.specs.declared.who.answers.Users.{Users}

-- ---- nothing is kept at first

-- ---- one more is kept

module _ (users : Users) (new : Kept) (is : IsKept users new) where
  pub each_kept : (kept : List (Option Kept)) (at : ℕ) → at < length kept → ((place : ℕ) → IfSome (kept_at kept place) (IsKept users))
      → (place : ℕ) → IfSome (kept_at (set kept at (Some new)) place) (IsKept users)
  each_kept [] at within was place = absurd (omega (arith, within))
  each_kept (first ∷ kept) zero within was zero = is
  each_kept (first ∷ kept) zero within was (suc place) = was (suc place)
  each_kept (first ∷ kept) (suc at) within was zero = was zero
  each_kept (first ∷ kept) (suc at) within was (suc place) = each_kept kept at (omega (arith, within)) (λ place. was (suc place)) place

pub now_kept : (kept : List (Option Kept)) (at : ℕ) (new : Kept) → at < length kept → kept_at (set kept at (Some new)) at ≡ Some new
now_kept kept at new within = get_or-set_same kept at (Some new) None within

-- ---- what is kept of the same lines

there_is : {T U : Type 0} (shown : T → U) (found : Option T) (value : Option U) → option_map shown found ≡ value → is_some found ≡ true → (item : U) × (value ≡ Some item)
there_is shown (Some item) value is some = (shown item, sym is)
there_is shown None value is some = cc

pub path_there : {T : Type 0} (shown : T → List ℕ) (found : Option T) (path : Option (List ℕ)) → option_map shown found ≡ path → is_some found ≡ true → (item : List ℕ) × (path ≡ Some item)
path_there = there_is

with_lines : (lines : List ℕ) (found : Option Kept) → option_map_or (λ kept. bytes_eq kept.lines.items lines) found false ≡ true → (kept : Kept) × (found ≡ Some kept) × (kept.lines.items ≡ lines)
with_lines lines (Some kept) is = (kept, refl, (bytes_eq-Decides kept.lines.items lines).0 is)
with_lines lines None is = cc

pub same_lines : (answers : Answers) (place : ℕ) (text lines path : List ℕ) → AreRight answers → lines ≡ after_line text → length text ≤ MAX_BLOCK → path_of text ≡ Some path
    → option_map_or (λ kept. bytes_eq kept.lines.items lines) (kept_at answers.kept.items place) false ≡ true
    → (file : FileValue) × (file_by (names_by answers.users) text ≡ Ok file) × IsAnsweredAt answers place file
same_lines answers place text lines path right lines_are short path_is holds =
    let (kept, there, same) = with_lines lines (kept_at answers.kept.items place) holds in
    let is : IsKept answers.users kept = subst (λ found. IfSome found (IsKept answers.users)) there (right.each place) in
    let alike : after_line is.text ≡ after_line text = is.lines ∙ same ∙ lines_are in
    let own = is.answers in (
      file_at path is.file,
      file_of-alike (names_by answers.users) is.text text is.file path alike short path_is is.reads,
      record { kept = kept; there = there; are = record { granted = own.granted; search = own.search } },
    )

-- ---- whether a block names an id without an account

pub same_strange : (answers : Answers) (place : ℕ) (text lines path : List ℕ) → AreRight answers → lines ≡ after_line text → length text ≤ MAX_BLOCK → path_of text ≡ Some path
    → option_map_or (λ kept. bytes_eq kept.lines.items lines) (kept_at answers.kept.items place) false ≡ true
    → strange_kept (kept_at answers.kept.items place) ≡ is_some (stranger_by answers.users text)
unfolding same_lines
same_strange answers place text lines path right lines_are short path_is holds =
    let (kept, there, same) = with_lines lines (kept_at answers.kept.items place) holds in
    let is : IsKept answers.users kept = subst (λ found. IfSome found (IsKept answers.users)) there (right.each place) in
    let (file, reads, at) = same_lines answers place text lines path right lines_are short path_is holds in
    ap strange_kept there ∙ is.strange ∙ block_sighted answers.users.host.now text file reads
