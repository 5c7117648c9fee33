use Rattle.std.proofs.Common.{rules, ◌≡◌, ◌∙◌, ◌-◌, true, false, Bool, List, Some, None, ap, length, option_map, sym}
use Rattle.std.specs.Prelude.{slice_get}
use Rattle.acl_listings.specs.Way.{is_folder_of}
use Rattle.acl_listing_queries.specs.declared.who.way.Folder.{Folder}
use Rattle.acl_listing_queries.proofs.WaysLemmas.{reached_by_all, reached_through}
use Rattle.acl_listing_queries.proofs.who.way.reach_of.Goals as goal

pub returns-in_default : goal.returns-in_default
returns-in_default c = λ users way here path everyone are.
    let folders : List Folder = c.args.folders.now in
    let none : slice_get folders (length folders - 1) ≡ None = search rules in
    ap (λ (marks : List Bool). Some marks) everyone ∙ sym (reached_by_all users folders here c.args.path.now path none way are)

pub returns-in-Inside : goal.returns-in-Inside
returns-in-Inside c = λ users way here path everyone are.
    let folders : List Folder = c.args.folders.now in
    let top : Folder = c.in-Some.folder.now in
    let last : slice_get folders (length folders - 1) ≡ Some top = search rules in
    let holds : is_folder_of top.path.items c.args.path.now ≡ true = search rules in
    let shown : option_map (λ marks. marks.now) c.map.result ≡ option_map (λ marks. marks.items) top.reach = search rules in
    shown ∙ sym (reached_through users folders here c.args.path.now path top last true holds way are)

pub returns-in_default-place_below : goal.returns-in_default-place_below
returns-in_default-place_below c = λ users way here path everyone are.
    let folders : List Folder = c.args.folders.now in
    let top : Folder = c.in-Some.folder.now in
    let last : slice_get folders (length folders - 1) ≡ Some top = search rules in
    let not_holds : is_folder_of top.path.items c.args.path.now ≡ false = search rules in
    sym (reached_through users folders here c.args.path.now path top last false not_holds way are)
