-- Where a file lies, by what is kept of its way.
use Rattle.std.proofs.Common.{◌≡◌, ◌∙◌, ◌-◌, Bool, true, false, cond, List, [], ◌∷◌, Option, Some, None, Ok, Err, Result, ap, length, map, option_map, refl, subst, sym}
use Rattle.std.specs.Prelude.{slice_get}
use Rattle.acl_names.specs.Requester.{Identity}
use Rattle.acl_access.specs.Standings.{standing_of}
use Rattle.acl_access.specs.declared.rules.Rules.{Rules}
use Rattle.acl_access.specs.declared.standing.Standing.{Standing}
use Rattle.acl_listings.specs.Block.{FileValue}
use Rattle.acl_listings.specs.declared.fault.BlockFault.{BlockFault}
use Rattle.acl_reports.specs.Files.{file_of, files_of}
use Rattle.acl_listing_queries.specs.Readings.{Reading}
use Rattle.acl_listing_queries.specs.Ways.{folder_of, holds, is_sticky, chain_to, with_folder}
use Rattle.acl_listing_queries.specs.WhoPart.{Deletion, Question, Via, What}
use Rattle.acl_listing_queries.specs.WhoSteps.{AreFolders, IsFolder, IsInside, marks_of, question_by, standings_for, whos_of}
use Rattle.acl_listing_queries.specs.declared.who.answers.Users.{Users}
use Rattle.acl_listing_queries.specs.declared.who.way.Folder.{Folder}
use Rattle.acl_listing_queries.specs.declared.who.way.Inside.{Inside}
use Rattle.acl_listing_queries.proofs.ReachSteps.{some_way}
use Rattle.acl_listing_queries.proofs.WaysLemmas.{last_is, no_folders, no_last, on_top}

-- the nearest folder of a known way
record IsNearest (nearest : Reading) (above : List FileValue) : Type 0 where
  file : FileValue
  rest : List FileValue
  reads : nearest.file ≡ Ok file
  are : above ≡ file ∷ rest

nearest_of : (nearest : Reading) (way : List Reading) (here : Reading) (above : List FileValue) → chain_to (nearest ∷ way) here ≡ Some above → IsNearest nearest above
nearest_of nearest way here above known = by (holds nearest.path here.path) known
  where
    read : (said : Result FileValue BlockFault) (found : Option (List FileValue)) → nearest.file ≡ said → with_folder (folder_of (record { path = nearest.path; file = said })) found ≡ Some above
        → IsNearest nearest above
    read (Ok file) (Some rest) is known = record { file = file; rest = rest; reads = is; are = same known }
      where
        same : Some (file ∷ rest) ≡ Some above → above ≡ file ∷ rest
        same known = cc
    read (Ok file) None is known = cc
    read (Err fault) found is known = cc

    by : (b : Bool) → cond b (with_folder (folder_of nearest) (chain_to way nearest)) None ≡ Some above → IsNearest nearest above
    by true known = read nearest.file (chain_to way nearest) refl known
    by false known = cc

-- how these stand to it
nearest_standings : (rules : Rules) (who : List Identity) (nearest : Reading) (way : List Reading) (above : List FileValue) → IsNearest nearest above → (standings : List Standing)
    → standings_for rules Deletion who nearest.file ≡ standings → IsFolder Deletion who (is_sticky (nearest ∷ way)) (files_of rules above) (Some standings)
nearest_standings rules who nearest way above is standings kept =
    subst (λ above. IsFolder Deletion who (is_sticky (nearest ∷ way)) (files_of rules above) (Some standings)) (sym is.are)
    (ap (λ standings. Some standings) (sym kept ∙ ap (standings_for rules Deletion who) is.reads)
    ∙ ap (λ sticky. Some (map (standing_of sticky (file_of rules is.file)) who)) (sym (ap (λ said. is_sticky (record { path = nearest.path; file = said } ∷ way)) is.reads)))

module _ (users : Users) (folders : List Folder) (here : Reading) (way : List Reading) (are : AreFolders users folders way) where
  lies_in : (question : Question) → question_by users ≡ question → (above : List FileValue) → chain_to way here ≡ Some above → (found : Option Folder) → slice_get folders (length folders - 1) ≡ found
      → IsFolder question (whos_of users) (is_sticky way) (files_of users.rules above) (option_map (λ (folder : Folder). folder.standings.items) found)
  lies_in (What asked) asks above known found last = tt
  lies_in (Via asked) asks above known found last = tt
  lies_in Deletion asks above known None last =
      let empty : way ≡ [] = no_folders users way (subst (λ folders. AreFolders users folders way) (no_last folders last) are) in
      subst (λ above. IsFolder Deletion (whos_of users) (is_sticky way) (files_of users.rules above) None) (by (sym (ap (λ way. chain_to way here) empty) ∙ known)) refl
    where
      by : Some [] ≡ Some above → [] ≡ above
      by is = cc
  lies_in Deletion asks above known (Some top) last =
      let on = on_top users folders _ top way (last_is folders top last) are in
      let way_is = on.way_is in
      let nearest = nearest_of on.nearest on.above here above (sym (ap (λ way. chain_to way here) way_is) ∙ known) in
      subst (λ way. IsFolder Deletion (whos_of users) (is_sticky way) (files_of users.rules above) (Some top.standings.items)) (sym way_is)
      (nearest_standings users.rules (whos_of users) on.nearest on.above above nearest top.standings.items (sym (ap (λ question. standings_for users.rules question (whos_of users) on.nearest.file) asks) ∙ on.standings))

  pub inside_is : (inside : Inside) → Some inside.reach.now ≡ marks_of users (chain_to way here) → (found : Option Folder) → slice_get folders (length folders - 1) ≡ found
      → option_map (λ standings. standings.now) inside.folder ≡ option_map (λ (folder : Folder). folder.standings.items) found
      → (above : List FileValue) × (chain_to way here ≡ Some above) × IsInside users (is_sticky way) (files_of users.rules above) inside
  inside_is inside shown found last kept =
      let known = some_way users (chain_to way here) inside.reach.now shown in (
        known.0,
        known.1,
        record {
          reach = known.2;
          folder = subst (IsFolder (question_by users) (whos_of users) (is_sticky way) (files_of users.rules known.0)) (sym kept) (lies_in (question_by users) refl known.0 known.1 found last);
        },
      )

-- no way is known where no marks are
pub no_way : (users : Users) (way : List Reading) (here : Reading) → None ≡ marks_of users (chain_to way here) → chain_to way here ≡ None
no_way users way here none = by (chain_to way here) none
  where
    by : (known : Option (List FileValue)) → None ≡ marks_of users known → known ≡ None
    by (Some above) none = cc
    by None none = refl

-- where nothing is known of a folder
pub no_folder : (question : Question) (who : List Identity) (sticky : Bool) → IsFolder question who sticky [] None
no_folder (What asked) who sticky = tt
no_folder (Via asked) who sticky = tt
no_folder Deletion who sticky = refl
