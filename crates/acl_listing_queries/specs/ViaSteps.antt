-- How it is kept and reported by which entries users are granted what is asked. Private steps,
-- which no public clause cites.
use Rattle.std.specs.Prelude.{ℕ, ◌==◌, Bool, true, false, List, [], ◌++◌, Option, Some, None}
use Rattle.std.specs.Prelude.{codes, get_or, if◌then◌else◌, option_map}
use Rattle.std.specs.List.{enumerate_from, flat_map}
use Rattle.acl_names.specs.Requester.{Identity}
use Rattle.acl_access.specs.Letters.{effective, granted_mask, mask_text}
use Rattle.acl_access.specs.Marks.{is_set}
use Rattle.acl_posix.specs.Perms.{bits_of}
use Rattle.acl_posix.specs.PermsText.{perms_text}
use Rattle.acl_bridge.specs.Files.{File, may}
use Rattle.acl_listing_queries.specs.WhoText.{AllLetters, Asked, Numbers, Request, ThreeLetters}
use Rattle.acl_listing_queries.specs.WhoText.{via_text}
use Rattle.acl_listing_queries.specs.declared.who.asked.What.{What}
use Rattle.acl_listing_queries.specs.declared.who.asked.What.TheVariants as what
use Rattle.acl_listing_queries.specs.declared.who.decided.Decided.{Decided}

-- what users are asked about
abbrev pub asked_of : What → Asked
asked_of what.Letters = ThreeLetters
asked_of what.AllLetters = AllLetters
asked_of (what.Perms perms) = Request (bits_of perms)

-- it is reported in words
abbrev pub is_in_words : Asked → Bool
is_in_words Numbers = false
is_in_words asked = true

-- what stands before the name of somebody with these letters, if there are any; and of somebody who
-- is granted what is asked
abbrev pub letters_shown : (ℕ → List ℕ) → ℕ → Option (List ℕ)
letters_shown text letters = if letters == 0 then None else Some (text letters ++ codes " ")

abbrev pub granted_shown : Asked → File → Identity → Option (List ℕ)
granted_shown ThreeLetters file who = letters_shown perms_text (effective file who)
granted_shown AllLetters file who = letters_shown mask_text (granted_mask file who)
granted_shown (Request perms) file who = if may file who perms then Some [] else None
granted_shown Numbers file who = None

-- that, and the entries that decide so
abbrev pub decided_of : Asked → File → Identity → Option (List ℕ × List ℕ)
decided_of asked file who =
    option_map (λ letters. (letters, via_text asked file who)) (granted_shown asked file who)

abbrev pub shown_decided : Decided → List ℕ × List ℕ
shown_decided decided = (decided.letters.items, decided.via.items)

abbrev pub shown_if : Option Decided → Option (List ℕ × List ℕ)
shown_if decided = option_map shown_decided decided

-- the line of somebody who is granted something
abbrev pub decided_line : List ℕ → List ℕ → List ℕ × List ℕ → List ℕ
decided_line path name decided = decided.0 ++ name ++ codes " " ++ decided.1 ++ codes " " ++ path
    ++ codes "\n"

abbrev pub decided_line_if : List ℕ → List ℕ → Option (List ℕ × List ℕ) → List ℕ
decided_line_if path name None = []
decided_line_if path name (Some decided) = decided_line path name decided

-- of the name at a place, if who is there reaches the file
abbrev pub decided_at : List (Option (List ℕ × List ℕ)) → List Bool → ℕ
    → Option (List ℕ × List ℕ)
decided_at decided reach place = if is_set reach place then get_or decided place None else None

abbrev pub decided_line_at : List ℕ → List (Option (List ℕ × List ℕ)) → List Bool → ℕ × List ℕ
    → List ℕ
decided_line_at path decided reach here =
    decided_line_if path here.1 (decided_at decided reach here.0)

abbrev pub decided_lines : List ℕ → List (List ℕ) → List (Option (List ℕ × List ℕ)) → List Bool
    → List ℕ
decided_lines path names decided reach =
    flat_map (decided_line_at path decided reach) (enumerate_from 0 names)
