-- What is reported for two listings by reach, and how the answer ends.
use Rattle.std.specs.Prelude.{◌≡◌, ℕ, Bool, false, not, ◌&&◌, List, [], ◌∷◌, ◌++◌, Option}
use Rattle.std.specs.Prelude.{Some, None}
use Rattle.std.specs.List.{list_any}
use Rattle.acl_names.specs.Names.{Names}
use Rattle.acl_cli.specs.Commands.{Answer}
use Rattle.acl_cli.specs.Reporting.{is_empty}
use Rattle.acl_cli.specs.declared.command.Ending.{Ending}
use Rattle.acl_reports.specs.Endings.{ending_of_both, with_difference}
use Rattle.acl_reports.specs.Listed.{AreSaid, Item, ending_of, last_lines_with, no_blocks}
use Rattle.acl_reports.specs.Listed.{tally_with}
use Rattle.acl_reports.specs.Strangers.{no_strangers}
use Rattle.acl_reports.specs.declared.stranger.Stranger.{Stranger}
use Rattle.acl_reports.specs.declared.tally.Tally.{Tally}
use Rattle.acl_listing_changes.specs.Impacting.{apart_line}
use Rattle.acl_listing_reach.specs.Once.{At, has_path, paths_of}
use Rattle.acl_listing_reach.specs.ReachText.{ReachAsking, report_text}

-- a listing as it is answered: its name, the names by which the line of a block is found that is at
-- fault, which id without an account a block names first, and what each block results in
pub record Side : Type 0 where
  pub name : List ℕ
  pub names : Names
  pub stranger : List ℕ → Option Stranger
  pub items : List Item

abbrev pub paths_in : Side → List At
paths_in side = paths_of side.items

abbrev pub tally_in : Side → Tally
tally_in side = tally_with no_blocks side.items

-- all that is said at its end
abbrev pub closing_in : Side → List ℕ
closing_in side = last_lines_with side.name side.stranger no_blocks no_strangers side.items

-- what is said if both listings have paths, but none that is in both
abbrev pub first_path : List At → Option (List ℕ)
first_path [] = None
first_path (at ∷ ats) = Some at.path

abbrev pub apart_by : Bool → Option (List ℕ) → Option (List ℕ) → List ℕ
apart_by false (Some first) (Some second) = apart_line first second
apart_by _ _ _ = []

abbrev pub apart_text : List At → List At → List ℕ
apart_text before after = apart_by (list_any (λ at. has_path at.path before) after)
    (first_path before) (first_path after)

-- The texts are what is reported for both, and what is said of them: the faults of the listing
-- before, how many there are, and which ids without an account it names; and the same of the
-- listing after.
pub record IsReport (asking : ReachAsking) (before after : Side) (text beside : List ℕ) : Type 0
  where
    pub text_is : text ≡ report_text asking (paths_in before) (paths_in after)
    pub first : List ℕ
    pub first_are : AreSaid before.name before.names before.items first
    pub second : List ℕ
    pub second_are : AreSaid after.name after.names after.items second
    pub beside_is : beside ≡ first ++ closing_in before ++ second
        ++ apart_text (paths_in before) (paths_in after) ++ closing_in after

abbrev pub ending_between : ReachAsking → Side → Side → List ℕ → Ending
ending_between asking before after text = with_difference (asking.asks && not (is_empty text))
    (ending_of_both (ending_of (tally_in before)) (ending_of (tally_in after)))

-- the answer about both
pub record IsReachAnswer (asking : ReachAsking) (before after : Side) (answer : Answer) : Type 0
  where
    pub report : IsReport asking before after answer.text answer.beside
    pub ending : answer.ending ≡ ending_between asking before after answer.text

-- and however it ends
abbrev pub IsReachBegun : ReachAsking → Side → Side → Answer → Type 0
IsReachBegun asking before after answer =
    IsReport asking before after answer.text answer.beside
