-- How the way to a file goes on from block to block.
use Rattle.std.proofs.Common.{◌≡◌, ◌∙◌, ◌++◌, ◌&&◌, ◌||◌, ℕ, Bool, true, false, cond, List, [], ◌∷◌, Option, Some, None, Ok, Err, Result, ap, map, refl, subst, sym}
use Rattle.std.specs.Prelude.{is_none, Vec}
use Rattle.std.specs.List.{filter, fold, list_all, list_any}
use Rattle.std.proofs.Math.Bool.{or-false}
use Rattle.std.proofs.lemmas.Bool.{or_parts}
use Rattle.std.proofs.lemmas.Grind.{fold-append}
use Rattle.std.proofs.lemmas.List.{map-append}
use Rattle.std.proofs.lemmas.List.Folds.{list_any-append}
use Rattle.acl_names.specs.Names.{Names}
use Rattle.acl_names.specs.Requester.{Identity}
use Rattle.acl_access.specs.Marks.{both}
use Rattle.acl_access.specs.Reach.{reaches}
use Rattle.acl_access.specs.declared.rules.Rules.{Rules}
use Rattle.acl_access.proofs.ReachLemmas.{both_are}
use Rattle.acl_listings.specs.Block.{FileValue, file_by, path_of}
use Rattle.acl_listings.specs.Faults.{IsFaultOf}
use Rattle.acl_listings.specs.declared.fault.BlockFault.{BlockFault}
use Rattle.acl_listings.proofs.PathLemmas.{path_of-file}
use Rattle.acl_bridge.specs.Files.{may}
use Rattle.acl_listings.specs.declared.fault.FileFault.{FileFault}
use Rattle.acl_listings.specs.declared.fault.FileFault.TheVariants as file
use Rattle.acl_reports.specs.Files.{file_of, files_of}
use Rattle.acl_reports.specs.Reporting.{IsPart, UnlessMemory}
use Rattle.acl_listing_queries.specs.Readings.{Reading, reading_of}
use Rattle.acl_listing_queries.specs.RootSteps.{IsBegun}
use Rattle.acl_listing_queries.specs.Ways.{begins_apart, chain_to, folder_of, holds, is_sticky, known_way, may_be_above, those_above, way_of, way_on, with_folder}
use Rattle.acl_listing_queries.specs.WhoPart.{Asking, Deletion, Question, Via, What, part_by, part_on, way_for, who_part}
use Rattle.acl_listing_queries.specs.WhoText.{AllLetters, Numbers, Request, ThreeLetters}
use Rattle.acl_listing_queries.specs.declared.who.reach.ReachReporter.{ReachReporter}
use Rattle.std.specs.declared.alloc.Global.{Global}
use Rattle.std.proofs.lemmas.Option.{none-some}
use Rattle.acl_listing_queries.specs.WhoSteps.{AreAnswersOf, AreFolders, AreRight, IsAnswered, IsBehind, IsChain, IsCome, IsEveryone, IsOnWay, IsPlacedAt, IsSearch, asking_of, folders_to, kept_at, lacks_path, marks_of, names_by, question_by, readings_of, standings_for, standings_kept, whos_of}
use Rattle.acl_listing_queries.specs.declared.who.answers.Answers.{Answers}
use Rattle.acl_listing_queries.specs.declared.who.answers.Granted.{Granted}
use Rattle.acl_listing_queries.specs.declared.who.answers.Granted.TheVariants.{Entries, Letters, Masks, Numbered, Standings, Those}
use Rattle.acl_listing_queries.specs.declared.who.answers.Kept.{Kept}
use Rattle.acl_listing_queries.specs.declared.who.answers.Users.{Users}
use Rattle.acl_listing_queries.specs.declared.who.reach.Before.{Before}
use Rattle.acl_listing_queries.specs.declared.who.way.Folder.{Folder}
use Rattle.acl_listing_queries.proofs.WhyWayLemmas.{none_either, none_with}

-- ---- what is on a way

pub all_of_filter : {X : Type 0} (test : X → Bool) (items : List X) → list_all test (filter test items) ≡ true
all_of_filter test [] = refl
all_of_filter test (item ∷ items) = by (test item) refl (all_of_filter test items)
  where
    by : (b : Bool) → test item ≡ b → list_all test (filter test items) ≡ true → list_all test (cond b (item ∷ filter test items) (filter test items)) ≡ true
    by true is rest = ap (λ b. b && list_all test (filter test items)) is ∙ rest
    by false is rest = rest

all_still : {X : Type 0} (test left : X → Bool) (items : List X) → list_all test items ≡ true → list_all test (filter left items) ≡ true
all_still test left [] all = refl
all_still test left (item ∷ items) all = by (test item) (left item) refl all (all_still test left items)
  where
    by : (b c : Bool) → test item ≡ b → (b && list_all test items) ≡ true → (list_all test items ≡ true → list_all test (filter left items) ≡ true)
        → list_all test (cond c (item ∷ filter left items) (filter left items)) ≡ true
    by true true is all rest = ap (λ b. b && list_all test (filter left items)) is ∙ rest all
    by true false is all rest = rest all
    by false c is all rest = cc

chain_left : (here : Reading) (way : List Reading) → IsChain way → IsChain (those_above here way)
chain_left here [] chain = tt
chain_left here (folder ∷ above) chain = by (may_be_above folder.path here.path) (chain_left here above chain.1)
  where
    by : (b : Bool) → IsChain (those_above here above) → IsChain (cond b (folder ∷ those_above here above) (those_above here above))
    by true rest = (all_still (λ other. may_be_above other.path folder.path) (λ other. may_be_above other.path here.path) above chain.0, rest)
    by false rest = rest

pub chain_on : (way seen : List Reading) → IsChain way → IsChain (fold way_on way seen)
chain_on way [] chain = chain
chain_on way (here ∷ seen) chain = chain_on (way_on way here) seen (all_of_filter (λ folder. may_be_above folder.path here.path) way, chain_left here way chain)

pub none_left : (here : Reading) (way : List Reading) → list_any lacks_path way ≡ false → list_any lacks_path (those_above here way) ≡ false
none_left here [] none = refl
none_left here (folder ∷ above) none =
    let parts = or_parts (lacks_path folder) (list_any lacks_path above) none in
    by (may_be_above folder.path here.path) parts.0 (none_left here above parts.1)
  where
    by : (b : Bool) → lacks_path folder ≡ false → list_any lacks_path (those_above here above) ≡ false
        → list_any lacks_path (cond b (folder ∷ those_above here above) (those_above here above)) ≡ false
    by true lacks rest = ap (λ b. b || list_any lacks_path (those_above here above)) lacks ∙ rest
    by false lacks rest = rest

pub known_on : (way seen : List Reading) → list_any lacks_path way ≡ false → list_any lacks_path seen ≡ false → list_any lacks_path (fold way_on way seen) ≡ false
known_on way [] none known = none
known_on way (here ∷ seen) none known =
    let parts = or_parts (lacks_path here) (list_any lacks_path seen) known in
    known_on (way_on way here) seen (ap (λ b. b || list_any lacks_path (those_above here way)) parts.0 ∙ none_left here way none) parts.1

-- ---- a way that is lost

pub lost_left : (here : Reading) (way : List Reading) → list_any lacks_path way ≡ true → list_any lacks_path (those_above here way) ≡ true
lost_left here [] lost = cc
lost_left here (folder ∷ above) lost = by folder.path refl (lost_left here above)
  where
    stays : (b : Bool) → list_any lacks_path (those_above here above) ≡ true → list_any lacks_path (cond b (folder ∷ those_above here above) (those_above here above)) ≡ true
    stays true rest = both (lacks_path folder) rest
      where
        both : (b : Bool) → list_any lacks_path (those_above here above) ≡ true → (b || list_any lacks_path (those_above here above)) ≡ true
        both true rest = refl
        both false rest = rest
    stays false rest = rest

    by : (path : Option (List ℕ)) → folder.path ≡ path → (list_any lacks_path above ≡ true → list_any lacks_path (those_above here above) ≡ true)
        → list_any lacks_path (cond (may_be_above folder.path here.path) (folder ∷ those_above here above) (those_above here above)) ≡ true
    by None is rest =
        ap (λ path. list_any lacks_path (cond (may_be_above path here.path) (folder ∷ those_above here above) (those_above here above))) is
        ∙ ap (λ path. is_none path || list_any lacks_path (those_above here above)) is
    by (Some path) is rest =
        let behind : list_any lacks_path above ≡ true = ap (λ path. is_none path || list_any lacks_path above) (sym is) ∙ lost in
        stays (may_be_above folder.path here.path) (rest behind)

pub lost_on : (way seen : List Reading) → (list_any lacks_path way || list_any lacks_path seen) ≡ true → list_any lacks_path (fold way_on way seen) ≡ true
lost_on way [] lost = by (list_any lacks_path way) lost
  where
    by : (b : Bool) → (b || false) ≡ true → b ≡ true
    by true is = refl
    by false is = is
lost_on way (here ∷ seen) lost =
    lost_on (way_on way here) seen (by (list_any lacks_path way) (lacks_path here) refl lost)
  where
    by : (b c : Bool) → list_any lacks_path way ≡ b → (b || (c || list_any lacks_path seen)) ≡ true
        → ((c || list_any lacks_path (those_above here way)) || list_any lacks_path seen) ≡ true
    by b true is lost = refl
    by true false is lost = ap (λ b. b || list_any lacks_path seen) (lost_left here way is)
    by false false is lost = after (list_any lacks_path (those_above here way))
      where
        after : (b : Bool) → (b || list_any lacks_path seen) ≡ true
        after true = refl
        after false = lost

pub lost_none : (way : List Reading) → list_any lacks_path way ≡ true → (here : Reading) → chain_to way here ≡ None
lost_none [] lost here = cc
lost_none (folder ∷ above) lost here = by folder.path refl (λ lost. lost_none above lost folder)
  where
    none : (b : Bool) → cond b (with_folder (folder_of folder) None) None ≡ None
    none true = none_with (folder_of folder)
    none false = refl

    by : (path : Option (List ℕ)) → folder.path ≡ path → (list_any lacks_path above ≡ true → chain_to above folder ≡ None)
        → cond (holds folder.path here.path) (with_folder (folder_of folder) (chain_to above folder)) None ≡ None
    by None is rest = ap (λ path. cond (holds path here.path) (with_folder (folder_of folder) (chain_to above folder)) None) is
    by (Some path) is rest =
        let behind : list_any lacks_path above ≡ true = ap (λ path. is_none path || list_any lacks_path above) (sym is) ∙ lost in
        ap (λ way. cond (holds folder.path here.path) (with_folder (folder_of folder) way) None) (rest behind) ∙ none (holds folder.path here.path)

-- where a path was lost, no way is known
pub way_lost : (seen : List Reading) → list_any lacks_path seen ≡ true → (next here : Reading) → chain_to (way_of seen next) here ≡ None
way_lost seen lost next here = lost_none (way_of seen next) (lost_left next (fold way_on [] seen) (lost_on [] seen lost)) here

pub known_if_lost : (seen : List Reading) (here : Reading) → list_any lacks_path seen ≡ true → known_way seen here ≡ None
known_if_lost seen here lost = none_either (begins_apart seen here) (chain_to (way_of seen here) here) (way_lost seen lost here here)

-- ---- the block before

pub record StandsAt (answers : Answers) (before : Before) (folders : List Folder) (stack : List Reading) : Type 0 where
  pub block : Reading
  pub way : List Reading
  pub stack_is : stack ≡ block ∷ way
  pub path : block.path ≡ Some before.path.items
  pub placed : IsPlacedAt answers before.place block
  pub are : AreFolders answers.users folders way

pub stands : (answers : Answers) (before : Before) (folders : List Folder) (found : Option Before) (stack : List Reading) → found ≡ Some before
    → IsBehind answers found folders stack → StandsAt answers before folders stack
stands answers before folders found stack is behind = by stack (subst (λ found. IsBehind answers found folders stack) is behind)
  where
    by : (stack : List Reading) → IsBehind answers (Some before) folders stack → StandsAt answers before folders stack
    by [] behind = absurd behind
    by (block ∷ way) (path, placed, are) = record { block = block; way = way; stack_is = refl; path = path; placed = placed; are = are }

-- ---- what is reported

-- a block without a path doesn't read
pub pathless : (names : Names) (text : List ℕ) (file : FileValue) → path_of text ≡ None → file_by names text ≡ Ok file → ⊥
pathless names text file none is = none-some _ (sym none ∙ path_of-file names text file is)

-- of a block that doesn't read its fault, whatever the way
pub faulty_part : (A : Type 0) (asking : Asking) (earlier : List (List ℕ)) (text : List ℕ) (fault : FileFault) (old : List ℕ) → IsFaultOf (file_by asking.names text) fault
    → IsPart {A = A} (who_part asking earlier text) (Err fault) old old
faulty_part A asking earlier text (file.Block fault) old is =
    let here = reading_of asking.names text in
    let before = map (reading_of asking.names) earlier in
    (ap (λ said. part_by asking (is_sticky (way_of before here)) said (way_for asking.reach before here)) is, refl)
faulty_part A asking earlier text file.Memory old is = tt

-- of one that reads what its way reports
pub known_part : {A : Type 0} (users one : Users) (earlier : List (List ℕ)) (text : List ℕ) (file : FileValue) (result : Result A FileFault) (old new : List ℕ) → one ≡ users → users.reach ≡ true
    → file_by (names_by users) text ≡ Ok file
    → IsPart (part_on (asking_of one) (is_sticky (way_of (readings_of users earlier) (reading_of (names_by users) text))) file
    (cond (begins_apart (readings_of users earlier) (reading_of (names_by users) text)) (chain_to (way_of (readings_of users earlier) (reading_of (names_by users) text)) (reading_of (names_by one) text)) None)) result old new
    → IsPart (who_part (asking_of users) earlier text) result old new
known_part users one earlier text file result old new same reach reads reported =
    let asking = asking_of users in
    let before = readings_of users earlier in
    let here = reading_of (names_by users) text in
    let way = way_of before here in
    let apart = begins_apart before here in
    let own = subst (λ (one : Users). IsPart (part_on (asking_of one) (is_sticky way) file (cond apart (chain_to way (reading_of (names_by one) text)) None)) result old new) same reported in
    subst (λ b. IsPart (part_by asking (is_sticky way) (file_by (names_by users) text) (way_for b before here)) result old new) (sym reach)
    (subst (λ said. IsPart (part_by asking (is_sticky way) said (known_way before here)) result old new) (sym reads) own)

-- ---- where a block's answers are kept

pub some_way : (users : Users) (way : Option (List FileValue)) (marks : List Bool) → Some marks ≡ marks_of users way
    → (above : List FileValue) × (way ≡ Some above) × (marks ≡ map (reaches (files_of users.rules above)) (whos_of users))
some_way users (Some above) marks is = (above, refl, by is)
  where
    by : Some marks ≡ Some (map (reaches (files_of users.rules above)) (whos_of users)) → marks ≡ map (reaches (files_of users.rules above)) (whos_of users)
    by is = cc
some_way users None marks is = cc

abbrev folder_said : Option (List ℕ) → Result FileValue BlockFault → Option FileValue
folder_said path said = folder_of (record { path = path; file = said })

pub no_folders_to : (block : Reading) (way : List Reading) (fault : BlockFault) → block.file ≡ Err fault → folders_to block way ≡ None
no_folders_to block way fault is = ap (λ said. with_folder (folder_said block.path said) (chain_to way block)) is

searched : (users : Users) (file : FileValue) (kept : Kept) → users.reach ≡ true → AreAnswersOf users file kept
    → kept.search.items ≡ map (λ user. may (file_of users.rules file) user 1) (whos_of users)
searched users file kept asks are =
    (subst (λ asks. IsSearch (whos_of users) asks (file_of users.rules file) kept.search.items) asks are.search)

-- how users stand to a file, as it is kept
pub standings_are : (rules : Rules) (whos : List Identity) (question : Question) (file : FileValue) (granted : Granted) → IsAnswered whos question file.flags.sticky (file_of rules file) granted
    → standings_kept granted ≡ standings_for rules question whos (Ok file)
standings_are rules whos (What asked) file (Letters letters) is = refl
standings_are rules whos (What asked) file (Numbered letters) is = refl
standings_are rules whos (What asked) file (Masks masks) is = refl
standings_are rules whos (What asked) file (Those places) is = refl
standings_are rules whos (What asked) file (Entries decided) is = refl
standings_are rules whos (Via asked) file (Letters letters) is = absurd is
standings_are rules whos (Via asked) file (Numbered letters) is = absurd is
standings_are rules whos (Via asked) file (Masks masks) is = absurd is
standings_are rules whos (Via asked) file (Those places) is = absurd is
standings_are rules whos (Via asked) file (Standings standings) is = absurd is
standings_are rules whos (Via asked) file (Entries decided) is = refl
standings_are rules whos (What ThreeLetters) file (Standings standings) is = absurd is
standings_are rules whos (What Numbers) file (Standings standings) is = absurd is
standings_are rules whos (What AllLetters) file (Standings standings) is = absurd is
standings_are rules whos (What (Request perms)) file (Standings standings) is = absurd is
standings_are rules whos Deletion file (Letters letters) is = absurd is
standings_are rules whos Deletion file (Numbered letters) is = absurd is
standings_are rules whos Deletion file (Masks masks) is = absurd is
standings_are rules whos Deletion file (Those places) is = absurd is
standings_are rules whos Deletion file (Entries decided) is = absurd is
standings_are rules whos Deletion file (Standings standings) is = is

-- and if it doesn't read
pub no_standings : (rules : Rules) (whos : List Identity) (question : Question) (said : Result FileValue BlockFault) (fault : BlockFault) → said ≡ Err fault → [] ≡ standings_for rules question whos said
no_standings rules whos (What asked) said fault is = refl
no_standings rules whos (Via asked) said fault is = refl
no_standings rules whos Deletion said fault is = ap (standings_for rules Deletion whos) (sym is)

-- ---- what is known of a folder

module _ (answers : Answers) (place : ℕ) (block : Reading) (at : IsPlacedAt answers (Some place) block) where
  abbrev users : Users
  users = answers.users

  pub kept_there : kept_at answers.kept.items place ≡ None → ⊥
  kept_there none = by (sym none ∙ at.2.there)
    where
      by : {kept : Kept} → None ≡ Some kept → ⊥
      by is = cc

  same_kept : (kept : Kept) → Some kept ≡ kept_at answers.kept.items place → kept ≡ at.2.kept
  same_kept kept there = by (there ∙ at.2.there)
    where
      by : {other : Kept} → Some kept ≡ Some other → kept ≡ other
      by is = cc

  pub standings_there : (kept : Kept) → Some kept ≡ kept_at answers.kept.items place → standings_kept kept.granted ≡ standings_for users.rules (question_by users) (whos_of users) block.file
  standings_there kept there =
      ap (λ (kept : Kept). standings_kept kept.granted) (same_kept kept there)
      ∙ standings_are users.rules (whos_of users) (question_by users) at.0 at.2.kept.granted at.2.are.granted
      ∙ ap (standings_for users.rules (question_by users) (whos_of users)) (sym at.1)

  module _ (way : List Reading) where
    pub below_reach : users.reach ≡ true → (kept : Kept) (marks made : List Bool) → Some kept ≡ kept_at answers.kept.items place → Some marks ≡ marks_of users (chain_to way block)
        → made ≡ both kept.search.items marks → Some made ≡ marks_of users (folders_to block way)
    below_reach asks kept marks made there shown is =
        let who = whos_of users in
        let folder = file_of users.rules at.0 in
        let known = some_way users (chain_to way block) marks shown in
        let all : made ≡ map (reaches (folder ∷ files_of users.rules known.0)) who =
        is ∙ ap (λ (kept : Kept). both kept.search.items marks) (same_kept kept there) ∙ ap (λ search. both search marks) (searched users at.0 at.2.kept asks at.2.are)
        ∙ ap (both (map (λ user. may folder user 1) who)) known.2 ∙ both_are (λ user. may folder user 1) (reaches (files_of users.rules known.0)) who in
        ap (λ (marks : List Bool). Some marks) all
        ∙ sym (ap (λ said. marks_of users (with_folder (folder_said block.path said) (chain_to way block))) at.1 ∙ ap (λ way. marks_of users (with_folder (Some at.0) way)) known.1)

    pub no_reach_below : None ≡ marks_of users (chain_to way block) → None ≡ marks_of users (folders_to block way)
    no_reach_below none = by (chain_to way block) none
      where
        by : (known : Option (List FileValue)) → None ≡ marks_of users known → None ≡ marks_of users (with_folder (folder_of block) known)
        by (Some above) none = cc
        by None none = sym (ap (marks_of users) (none_with (folder_of block)))

-- ---- the next block

-- the way has come to it
pub come_here : (was mid : ReachReporter) (earlier : List (List ℕ)) (text path : List ℕ) → mid.answers ≡ was.answers → mid.everyone ≡ was.everyone → mid.lost ≡ was.lost
    → ((seen : List Reading) (here : Reading) → was.answers.users.reach ≡ true → here.path ≡ Some path → list_any lacks_path seen ≡ false → IsEveryone (whos_of was.answers.users) was.everyone.items
    → IsBehind was.answers was.before was.folders.items (fold way_on [] seen) → AreFolders was.answers.users mid.folders.items (way_of seen here))
    → IsOnWay was earlier → path_of text ≡ Some path
    → IsCome mid (way_of (readings_of was.answers.users earlier) (reading_of (names_by was.answers.users) text))
come_here was mid earlier text path answers everyone lost folders on path_is =
    let users = was.answers.users in
    let here = reading_of (names_by users) text in
    let readings = readings_of users earlier in
    record {
      reach = ap (λ (answers : Answers). answers.users.reach) answers ∙ on.reach;
      right = subst AreRight (sym answers) on.right;
      everyone = ap (λ (marks : Vec Bool Global). marks.items) everyone ∙ on.everyone ∙ ap (λ (answers : Answers). map (reaches []) (whos_of answers.users)) (sym answers);
      lost = λ is next. way_lost readings (sym on.lost ∙ sym lost ∙ is) here next;
      folders = λ found. subst (λ (answers : Answers). AreFolders answers.users mid.folders.items (way_of readings here)) (sym answers)
          (folders readings here on.reach path_is (sym on.lost ∙ sym lost ∙ found) on.everyone (on.behind (sym lost ∙ found)));
    }

-- it is read
pub come_on : (mid : ReachReporter) (answers : Answers) (way : List Reading) → answers.users ≡ mid.answers.users → AreRight answers → IsCome mid way → IsCome (record mid { answers = answers }) way
come_on mid answers way same right come = record {
  reach = ap (λ (users : Users). users.reach) same ∙ come.reach;
  right = right;
  everyone = come.everyone ∙ ap (λ (users : Users). map (reaches []) (whos_of users)) (sym same);
  lost = come.lost;
  folders = λ found. subst (λ (users : Users). AreFolders users mid.folders.items way) (sym same) (come.folders found);
}

pub unless_memory : {A : Type 0} (result : Result A FileFault) (P : Type 0) → P → UnlessMemory result P
unless_memory (Ok value) P holds = holds
unless_memory (Err (file.Block fault)) P holds = holds
unless_memory (Err file.Memory) P holds = tt

-- and stands behind it
pub on_behind : (was mid new : ReachReporter) (earlier : List (List ℕ)) (text path : List ℕ) (before : Before) → IsOnWay was earlier → mid.lost ≡ was.lost → mid.answers.users ≡ was.answers.users
    → IsCome mid (way_of (readings_of was.answers.users earlier) (reading_of (names_by was.answers.users) text)) → path_of text ≡ Some path → before.path.items ≡ path
    → IsPlacedAt mid.answers before.place (reading_of (names_by mid.answers.users) text) → new ≡ record mid { before = Some before }
    → (mid.lost ≡ false → IsBegun mid.beginning (readings_of was.answers.users earlier ++ reading_of (names_by was.answers.users) text ∷ []))
    → IsOnWay new (earlier ++ text ∷ [])
on_behind was mid new earlier text path before on lost same come path_is there placed is begun =
    let users = mid.answers.users in
    let here = reading_of (names_by users) text in
    let readings = readings_of users earlier in
    let more : readings_of users (earlier ++ text ∷ []) ≡ readings ++ here ∷ [] = map-append (reading_of (names_by users)) earlier (text ∷ []) in
    let here_come : IsCome mid (way_of readings here) = subst (λ (users : Users). IsCome mid (way_of (readings_of users earlier) (reading_of (names_by users) text))) (sym same) come in
    let none : list_any lacks_path (readings ++ here ∷ []) ≡ list_any lacks_path readings =
    list_any-append lacks_path readings (here ∷ []) ∙ ap (λ path. list_any lacks_path readings || (is_none path || false)) path_is ∙ or-false (list_any lacks_path readings) in
    let stack : fold way_on [] (readings ++ here ∷ []) ≡ here ∷ way_of readings here = fold-append way_on [] readings (here ∷ []) in
    let behind : mid.lost ≡ false → IsBehind mid.answers (Some before) mid.folders.items (here ∷ way_of readings here) =
    λ found. (path_is ∙ ap (λ path. Some path) (sym there), placed, here_come.folders found) in
    let stands : IsOnWay (record mid { before = Some before }) (earlier ++ text ∷ []) = record {
      reach = come.reach;
      right = come.right;
      everyone = come.everyone;
      lost = lost ∙ on.lost ∙ ap (λ (users : Users). list_any lacks_path (readings_of users earlier)) (sym same) ∙ sym none ∙ ap (list_any lacks_path) (sym more);
      begun = λ found. subst (IsBegun mid.beginning) (sym more)
          (subst (λ (users : Users). IsBegun mid.beginning (readings_of users earlier ++ reading_of (names_by users) text ∷ [])) (sym same) (begun found));
      behind = λ found. subst (λ readings. IsBehind mid.answers (Some before) mid.folders.items (fold way_on [] readings)) (sym more)
          (subst (IsBehind mid.answers (Some before) mid.folders.items) (sym stack) (behind found));
    } in
    subst (λ (state : ReachReporter). IsOnWay state (earlier ++ text ∷ [])) (sym is) stands
