-- How it is reported block by block who may do what. Private steps, which no public clause cites.
use Rattle.std.specs.Prelude.{◌≡◌, ℕ, Bool, true, false, List, [], ◌∷◌, Option, Some, None}
use Rattle.std.specs.Prelude.{Result, Ok, Err, IfSome, get_or, is_none, length, map, option_map}
use Rattle.std.specs.Prelude.{⊤, nat_lt, reverse, slice_get, if◌then◌else◌}
use Rattle.std.specs.List.{enumerate_from, flat_map, fold, list_all, list_any}
use Rattle.std.specs.Option.{option_map_or}
use Rattle.acl_names.specs.Names.{Names}
use Rattle.acl_names.specs.Requester.{Identity}
use Rattle.acl_access.specs.Letters.{effective, granted_mask}
use Rattle.acl_access.specs.Marks.{is_set, letters_at, places_from}
use Rattle.acl_access.specs.Reach.{reaches}
use Rattle.acl_access.specs.Standings.{standing_of}
use Rattle.acl_access.specs.Who.{may_line}
use Rattle.acl_access.specs.declared.rules.Rules.{Rules}
use Rattle.acl_access.specs.declared.standing.Standing.{Standing}
use Rattle.acl_listings.specs.Block.{FileValue, file_by}
use Rattle.acl_listings.specs.Lines.{after_line}
use Rattle.acl_listings.specs.declared.fault.BlockFault.{BlockFault}
use Rattle.acl_nfs4.specs.Mask.{mask_bits}
use Rattle.acl_posix.specs.Perms.{bits_of}
use Rattle.acl_posix.specs.declared.perms.Perms.{Perms}
use Rattle.acl_bridge.specs.Files.{File, may}
use Rattle.acl_people.specs.Asked.{names_of_people, persons_of}
use Rattle.acl_reports.specs.Files.{file_of, files_of}
use Rattle.acl_reports.specs.Strangers.{names_stranger, stranger_in}
use Rattle.acl_reports.specs.declared.stranger.Stranger.{Stranger}
use Rattle.acl_people.specs.Host.{names_of_host}
use Rattle.acl_listing_queries.specs.Readings.{Reading, reading_of}
use Rattle.acl_listing_queries.specs.RootSteps.{IsBegun}
use Rattle.acl_listing_queries.specs.Ways.{chain_to, folder_of, may_be_above, way_on}
use Rattle.acl_listing_queries.specs.Ways.{with_folder}
use Rattle.acl_listing_queries.specs.ViaSteps.{asked_of, decided_of, is_in_words, shown_if}
use Rattle.acl_listing_queries.specs.WhoPart.{Asking, Deletion, Question, Via, What}
use Rattle.acl_listing_queries.specs.WhoText.{AllLetters, Asked, Numbers, Request, ThreeLetters}
use Rattle.acl_listing_queries.specs.WhoText.{letters_line_if}
use Rattle.acl_listing_queries.specs.declared.who.answers.Answers.{Answers}
use Rattle.acl_listing_queries.specs.declared.who.answers.Granted.{Granted}
use Rattle.acl_listing_queries.specs.declared.who.answers.Granted.TheVariants.{Entries, Letters}
use Rattle.acl_listing_queries.specs.declared.who.answers.Granted.TheVariants.{Masks, Numbered}
use Rattle.acl_listing_queries.specs.declared.who.answers.Granted.TheVariants.{Standings, Those}
use Rattle.acl_listing_queries.specs.declared.who.answers.Kept.{Kept}
use Rattle.acl_listing_queries.specs.declared.places.TheConstants.{PLACES}
use Rattle.acl_listing_queries.specs.declared.who.answers.Users.{Users}
use Rattle.acl_listing_queries.specs.declared.who.asked.Asked.{Asked as AskedValue}
use Rattle.acl_listing_queries.specs.declared.who.asked.Asked.TheVariants as asked
use Rattle.acl_listing_queries.specs.declared.who.listed.ListedReporter.{ListedReporter}
use Rattle.acl_listing_queries.specs.declared.who.reach.Before.{Before}
use Rattle.acl_listing_queries.specs.declared.who.reach.ReachReporter.{ReachReporter}
use Rattle.acl_listing_queries.specs.declared.who.way.Folder.{Folder}
use Rattle.acl_listing_queries.specs.declared.who.way.Inside.{Inside}

-- ---- who is asked about, and what for

abbrev pub whos_of : Users → List Identity
whos_of users = users.people.now.requesters.items

abbrev pub names_by : Users → Names
names_by users = names_of_host users.host.now

abbrev pub question_of : AskedValue → Question
question_of (asked.What what) = What (asked_of what)
question_of (asked.Via what) = Via (asked_of what)
question_of asked.Numbers = What Numbers
question_of asked.Deletion = Deletion

abbrev pub question_by : Users → Question
question_by users = question_of users.asked

abbrev pub asking_of : Users → Asking
asking_of users = record {
  names = names_by users;
  rules = users.rules;
  persons = persons_of (names_of_people users.people.now) (whos_of users);
  question = question_by users;
  reach = users.reach;
}

-- which id without an account a block names first
abbrev pub stranger_by : Users → List ℕ → Option Stranger
stranger_by users text = stranger_in users.host.now text

-- ---- the lines of a file

-- what is reported for the name at a place and its letters
abbrev pub reported_at : (List ℕ → ℕ → List ℕ) → List ℕ → List Bool → ℕ × List ℕ → List ℕ
reported_at report letters reach here = report here.1 (letters_at letters reach here.0)

abbrev pub may_line_of : List ℕ → Option (List ℕ) → List ℕ
may_line_of path None = []
may_line_of path (Some name) = may_line path name

-- the line of the name at a place, if who is there reaches the file
abbrev pub may_line_at : List ℕ → List (List ℕ) → List Bool → ℕ → List ℕ
may_line_at path names reach place =
    if is_set reach place then may_line_of path (slice_get names place) else []

-- of all names
abbrev pub reported_of_each : (List ℕ → ℕ → List ℕ) → List (List ℕ) → List ℕ → List Bool → List ℕ
reported_of_each report names letters reach =
    flat_map (reported_at report letters reach) (enumerate_from 0 names)

-- the number of the letters at a place, if somebody is there; and of all of them who have names
abbrev pub number_there : List ℕ → List Bool → ℕ → List ℕ
number_there letters reach place =
    if nat_lt place (length letters) then letters_at letters reach place ∷ [] else []

abbrev pub numbers_of_each : List (List ℕ) → List ℕ → List Bool → List ℕ
numbers_of_each names letters reach =
    flat_map (λ here. number_there letters reach here.0) (enumerate_from 0 names)

-- these are the numbers of whichever names, if there are so many
abbrev pub AreNumbersOf : ℕ → List Perms → List Bool → List ℕ → Type 0
AreNumbersOf count letters reach numbers = (names : List (List ℕ)) → length names ≡ count
    → numbers ≡ numbers_of_each names (map bits_of letters) reach

-- the lines of letters that are written so; and of the names at the places
abbrev pub letters_lines : (ℕ → List ℕ) → List ℕ → List (List ℕ) → List ℕ → List Bool → List ℕ
letters_lines text path names letters reach =
    reported_of_each (letters_line_if text path) names letters reach

abbrev pub may_lines : List ℕ → List (List ℕ) → List ℕ → List Bool → List ℕ
may_lines path names places reach = flat_map (may_line_at path names reach) places

-- ---- what is kept of a file

-- of all of these what the file grants: the letters, or the places of those who are granted it all
abbrev pub IsGranted : List Identity → Asked → File → Granted → Type 0
IsGranted whos ThreeLetters file (Letters letters) =
    map bits_of letters.items ≡ map (effective file) whos
IsGranted whos Numbers file (Numbered letters) =
    map bits_of letters.items ≡ map (effective file) whos
IsGranted whos AllLetters file (Masks masks) =
    map mask_bits masks.items ≡ map (granted_mask file) whos
IsGranted whos (Request perms) file (Those places) =
    places.items ≡ places_from (λ who. may file who perms) 0 whos
IsGranted whos _ file _ = ⊥

-- or also the entries that decide so; or how each of them stands to it, with the sticky bit or not
abbrev pub IsAnswered : List Identity → Question → Bool → File → Granted → Type 0
IsAnswered whos (What asked) sticky file granted = IsGranted whos asked file granted
IsAnswered whos (Via asked) sticky file (Entries decided) = (is_in_words asked ≡ true)
    × (map shown_if decided.items ≡ map (decided_of asked file) whos)
IsAnswered whos (Via asked) sticky file _ = ⊥
IsAnswered whos Deletion sticky file (Standings standings) =
    standings.items ≡ map (standing_of sticky file) whos
IsAnswered whos Deletion sticky file _ = ⊥

-- and, if it is asked, of each whether the file may be searched
abbrev pub IsSearch : List Identity → Bool → File → List Bool → Type 0
IsSearch whos false file marks = ⊤
IsSearch whos true file marks = marks ≡ map (λ who. may file who 1) whos

pub record AreAnswersOf (users : Users) (file : FileValue) (kept : Kept) : Type 0 where
  pub granted : IsAnswered (whos_of users) (question_by users) file.flags.sticky
      (file_of users.rules file) kept.granted
  pub search : IsSearch (whos_of users) users.reach (file_of users.rules file) kept.search.items

-- the answers are those of the file of a block with these lines behind its first
pub record IsKept (users : Users) (kept : Kept) : Type 0 where
  pub text : List ℕ
  pub lines : after_line text ≡ kept.lines.items
  pub file : FileValue
  pub reads : file_by (names_by users) text ≡ Ok file
  pub answers : AreAnswersOf users file kept
  pub strange : kept.strange ≡ names_stranger users.host.now file

-- what is kept at a place, if anything is
abbrev pub kept_at : List (Option Kept) → ℕ → Option Kept
kept_at kept place = get_or kept place None

-- whether the file names an id without an account
abbrev pub strange_kept : Option Kept → Bool
strange_kept kept = option_map_or (λ kept. kept.strange) kept false

pub record AreRight (answers : Answers) : Type 0 where
  pub places : length answers.kept.items ≡ PLACES
  pub each : (place : ℕ) → IfSome (kept_at answers.kept.items place) (IsKept answers.users)

-- the answers of a block's file are kept at the place
pub record IsAnsweredAt (answers : Answers) (place : ℕ) (file : FileValue) : Type 0 where
  pub kept : Kept
  pub there : kept_at answers.kept.items place ≡ Some kept
  pub are : AreAnswersOf answers.users file kept

-- ---- the way

abbrev pub folders_to : Reading → List Reading → Option (List FileValue)
folders_to folder above = with_folder (folder_of folder) (chain_to above folder)

-- of each user whether each folder of a known way may be searched
abbrev pub marks_of : Users → Option (List FileValue) → Option (List Bool)
marks_of users way =
    option_map (λ way. map (reaches (files_of users.rules way)) (whos_of users)) way

-- how users stand to a file, as far as it is kept
abbrev pub standings_kept : Granted → List Standing
standings_kept (Standings standings) = standings.items
standings_kept granted = []

-- if that is asked, how each of these stands to a folder of which this is said
abbrev pub standings_for : Rules → Question → List Identity → Result FileValue BlockFault
    → List Standing
standings_for rules (What asked) who said = []
standings_for rules (Via asked) who said = []
standings_for rules Deletion who (Ok file) =
    map (standing_of file.flags.sticky (file_of rules file)) who
standings_for rules Deletion who (Err fault) = []

-- what is kept of a folder: its path, who reaches what is in it, and how users stand to it
abbrev pub Level : Type 0
Level = Option (List ℕ) × Option (List Bool) × List Standing

abbrev pub level_of : Users → Reading → List Reading → Level
level_of users folder above = (
  folder.path,
  marks_of users (folders_to folder above),
  standings_for users.rules (question_by users) (whos_of users) folder.file,
)

-- of a way's folders, the nearest first
abbrev pub levels : Users → List Reading → List Level
levels users [] = []
levels users (folder ∷ above) = level_of users folder above ∷ levels users above

abbrev pub shown_folder : Folder → Level
shown_folder folder = (
  Some folder.path.items,
  option_map (λ marks. marks.items) folder.reach,
  folder.standings.items,
)

-- these are kept of the way
abbrev pub AreFolders : Users → List Folder → List Reading → Type 0
AreFolders users folders way = map shown_folder (reverse folders) ≡ levels users way

-- where a file lies: who reaches it, and, if it is asked, how these stand to its folder
abbrev pub IsFolder : Question → List Identity → Bool → List File → Option (List Standing) → Type 0
IsFolder (What asked) who sticky way found = ⊤
IsFolder (Via asked) who sticky way found = ⊤
IsFolder Deletion who sticky [] found = found ≡ None
IsFolder Deletion who sticky (folder ∷ above) found =
    found ≡ Some (map (standing_of sticky folder) who)

pub record IsInside (users : Users) (sticky : Bool) (way : List File) (inside : Inside) : Type 0
  where
    pub reach : inside.reach.now ≡ map (reaches way) (whos_of users)
    pub folder : IsFolder (question_by users) (whos_of users) sticky way
        (option_map (λ standings. standings.now) inside.folder)

-- if it is known
abbrev pub IsInsideOf : Users → Bool → Option (List FileValue) → Option Inside → Type 0
IsInsideOf users sticky way None = way ≡ None
IsInsideOf users sticky way (Some inside) = (above : List FileValue) × (way ≡ Some above)
    × IsInside users sticky (files_of users.rules above) inside

abbrev pub lacks_path : Reading → Bool
lacks_path reading = is_none reading.path

-- each of the folders on a way is above all that are nearer
abbrev pub IsChain : List Reading → Type 0
IsChain [] = ⊤
IsChain (folder ∷ above) =
    (list_all (λ other. may_be_above other.path folder.path) above ≡ true) × IsChain above

-- a block that reads, whose answers are kept there
abbrev pub IsPlacedAt : Answers → Option ℕ → Reading → Type 0
IsPlacedAt answers None block = (fault : BlockFault) × (block.file ≡ Err fault)
IsPlacedAt answers (Some place) block =
    (file : FileValue) × (block.file ≡ Ok file) × IsAnsweredAt answers place file

-- the block before and the folders above it are kept, where the way stands so
abbrev pub IsBehind : Answers → Option Before → List Folder → List Reading → Type 0
IsBehind answers None folders [] = folders ≡ []
IsBehind answers (Some before) folders (block ∷ way) =
    (block.path ≡ Some before.path.items)
    × IsPlacedAt answers before.place block
    × AreFolders answers.users folders way
IsBehind answers _ folders _ = ⊥

-- ---- where reporters stand

abbrev pub IsEveryone : List Identity → List Bool → Type 0
IsEveryone who marks = marks ≡ map (reaches []) who

abbrev pub readings_of : Users → List (List ℕ) → List Reading
readings_of users texts = map (reading_of (names_by users)) texts

-- it reports for each block by itself
pub record IsListing (reporter : ListedReporter) (earlier : List (List ℕ)) : Type 0 where
  pub reach : reporter.answers.users.reach ≡ false
  pub everyone : IsEveryone (whos_of reporter.answers.users) reporter.everyone.items
  pub right : AreRight reporter.answers

-- it has come so far
pub record IsOnWay (state : ReachReporter) (earlier : List (List ℕ)) : Type 0 where
  pub reach : state.answers.users.reach ≡ true
  pub right : AreRight state.answers
  pub everyone : IsEveryone (whos_of state.answers.users) state.everyone.items
  pub lost : state.lost ≡ list_any lacks_path (readings_of state.answers.users earlier)
  pub begun : state.lost ≡ false
      → IsBegun state.beginning (readings_of state.answers.users earlier)
  pub behind : state.lost ≡ false → IsBehind state.answers state.before state.folders.items
      (fold way_on [] (readings_of state.answers.users earlier))

-- it has brought a block to which this is the way
pub record IsCome (state : ReachReporter) (way : List Reading) : Type 0 where
  pub reach : state.answers.users.reach ≡ true
  pub right : AreRight state.answers
  pub everyone : IsEveryone (whos_of state.answers.users) state.everyone.items
  pub lost : state.lost ≡ true → (here : Reading) → chain_to way here ≡ None
  pub folders : state.lost ≡ false
      → AreFolders state.answers.users state.folders.items way
