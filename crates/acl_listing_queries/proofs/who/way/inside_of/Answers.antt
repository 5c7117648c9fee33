use Rattle.std.proofs.Common.{rules, ◌≡◌, ◌∙◌, ◌-◌, List, None, Option, Some, ap, length, option_map}
use Rattle.std.specs.Prelude.{slice_get}
use Rattle.acl_access.specs.declared.standing.Standing.{Standing}
use Rattle.acl_listing_queries.specs.declared.who.way.Folder.{Folder}
use Rattle.acl_listing_queries.specs.declared.who.way.Inside.{Inside}
use Rattle.acl_listing_queries.proofs.InsideLemmas.{inside_is, no_way}
use Rattle.acl_listing_queries.proofs.who.way.inside_of.Goals as goal
use Rattle.acl_listing_queries.proofs.who.way.inside_of.Goals.{in-Some-last, in-None}

pub returns-in_default : goal.returns-in_default
returns-in_default c = λ users way here path everyone are.
    let none : None ≡ option_map (λ marks. marks.now) c.reach_of.result = search rules in
    no_way users way here (none ∙ c.reach_of.ensures users way here path everyone are)

pub returns : goal.returns
returns c = λ users way here path everyone are.
    let folders : List Folder = c.args.folders.now in
    let shown : Some c.in-Some.reach.now ≡ option_map (λ marks. marks.now) c.reach_of.result = search rules in
    let known = shown ∙ c.reach_of.ensures users way here path everyone are in
    let inside : Inside = record { reach = c.in-Some.reach; folder = c.match-last.folder } in
    let standings : Option Folder → Option (List Standing) = option_map (λ (folder : Folder). folder.standings.items) in
    elim c.match-last.branch [
      | in-Some-last w ↦
          let top : Folder = w.in-Some-last.folder.now in
          let last : slice_get folders (length folders - 1) ≡ Some top = search rules in
          let kept : option_map (λ standings. standings.now) c.match-last.folder ≡ standings (Some top) =
          ap (option_map (λ standings. standings.now)) w.folder-is ∙ ap (λ standings. Some standings) w.as_slice.ensures.value in
          inside_is users folders here way are inside known (Some top) last kept
      | in-None w ↦
          let last : slice_get folders (length folders - 1) ≡ None = search rules in
          let kept : option_map (λ standings. standings.now) c.match-last.folder ≡ standings None = ap (option_map (λ standings. standings.now)) w.folder-is in
          inside_is users folders here way are inside known None last kept
    ]
