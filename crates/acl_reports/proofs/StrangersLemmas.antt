-- What is counted of the files that name ids without an account.
use Rattle.std.proofs.Common.{◌≡◌, ◌∙◌, ℕ, ◌+◌, List, [], ◌∷◌, Option, Some, None, ap, ap₂, arith, length, option_map, refl, unwrap_or}
use Rattle.std.specs.List.{cons_option, filter_map}
use Rattle.std.specs.Option.{option_or}
use Rattle.std.specs.Prelude.{slice_get}
use Rattle.acl_reports.specs.Listed.{Item, strangers_with, with_stranger_of}
use Rattle.acl_reports.specs.Strangers.{first_of, no_strangers, with_stranger}
use Rattle.acl_reports.specs.StrangersLaws.{CountsStrangers, sighting}
use Rattle.acl_reports.specs.declared.stranger.Stranger.{Stranger}
use Rattle.acl_reports.specs.declared.strangers.FirstStranger.{FirstStranger}
use Rattle.acl_reports.specs.declared.strangers.Strangers.{Strangers}

-- what is counted after so much, of files with these sightings
abbrev counted : Strangers → List FirstStranger → Strangers
counted start sightings = record {
  files = start.files + length sightings;
  first = option_or start.first (slice_get sightings 0);
}

or_none : (first : Option FirstStranger) → first ≡ option_or first None
or_none None = refl
or_none (Some first) = refl

still_first : (first : Option FirstStranger) (more : Option FirstStranger) (now : FirstStranger) → option_or (Some (unwrap_or first now)) more ≡ option_or first (Some now)
still_first None more now = refl
still_first (Some first) more now = refl

none_more : (start : Strangers) → start ≡ counted start []
none_more start =
    let files : start.files ≡ start.files + 0 = omega arith in
    ap₂ (λ files first. record { files = files; first = first }) files (or_none start.first)

one_more : (start : Strangers) (line : ℕ) (found : Option Stranger) (rest : List FirstStranger) → counted (with_stranger start line found) rest ≡ counted start (cons_option (option_map (first_of line) found) rest)
one_more start line None rest = refl
one_more start line (Some found) rest =
    let files : (start.files + 1) + length rest ≡ start.files + length (first_of line found ∷ rest) = omega arith in
    ap₂ (λ files first. record { files = files; first = first }) files (still_first start.first (slice_get rest 0) (first_of line found))

counted_on : (stranger : List ℕ → Option Stranger) (start : Strangers) (items : List Item) → strangers_with stranger start items ≡ counted start (filter_map (sighting stranger) items)
counted_on stranger start [] = none_more start
counted_on stranger start (item ∷ items) =
    counted_on stranger (with_stranger_of stranger start item) items
    ∙ one_more start item.block.line (stranger item.block.text) (filter_map (sighting stranger) items)

pub counts_strangers : CountsStrangers
counts_strangers stranger items =
    let sightings = filter_map (sighting stranger) items in
    let files : 0 + length sightings ≡ length sightings = omega arith in
    counted_on stranger no_strangers items ∙ ap (λ files. record { files = files; first = slice_get sightings 0 }) files
