use Rattle.std.proofs.Common.{rules, ◌≡◌, ◌∙◌, List, Some, None, ap, option_map, subst, sym}
use Rattle.acl_access.specs.Marks.{both}
use Rattle.acl_listing_queries.specs.Ways.{chain_to}
use Rattle.acl_listing_queries.specs.WhoSteps.{AreFolders, IsPlacedAt, kept_at, marks_of}
use Rattle.acl_listing_queries.specs.declared.who.way.Folder.{Folder}
use Rattle.acl_listing_queries.proofs.ReachSteps.{below_reach, kept_there, no_folders_to, no_reach_below}
use Rattle.acl_listing_queries.proofs.who.reach.ReachReporter.reach_below.Goals as goal
use Rattle.acl_listing_queries.proofs.who.reach.ReachReporter.reach_below.Goals.{in_default-2-via-in-Some+in_default, in_default-2-via-in_default}

pub returns-in_default : goal.returns-in_default
returns-in_default c = λ block way asks path placed everyone are.
    let answers = c.args.self.now.answers in
    let is : c.args.before.now.place ≡ None = search rules in
    let at : IsPlacedAt answers None block = subst (λ place. IsPlacedAt answers place block) is placed in
    sym (ap (marks_of answers.users) (no_folders_to block way at.0 at.1))

pub returns-in_ok-both-in-Some-Some : goal.returns-in_ok-both-in-Some-Some
returns-in_ok-both-in-Some-Some c = λ block way asks path placed everyone are.
    let answers = c.args.self.now.answers in
    let place = c.in-Some.place in
    let is : c.args.before.now.place ≡ Some place = search rules in
    let at : IsPlacedAt answers (Some place) block = subst (λ place. IsPlacedAt answers place block) is placed in
    let above : option_map (λ marks. marks.now) c.reach_of-above.result ≡ marks_of answers.users (chain_to way block) =
    c.reach_of-above.ensures answers.users way block (path ∙ ap (λ path. Some path) (sym c.as_slice-2.ensures.value)) (c.as_slice.ensures.value ∙ everyone)
    (subst (λ (folders : List Folder). AreFolders answers.users folders way) (sym c.as_slice-folders.ensures.value) are) in
    let marks : Some c.in-Some-Some.above.now ≡ option_map (λ marks. marks.now) c.reach_of-above.result = search rules in
    let kept : Some c.in-Some-Some.kept.now ≡ kept_at answers.kept.items place = search rules in
    let made : c.in_ok-both-in-Some-Some.field-0.items ≡ both c.in-Some-Some.kept.now.search.items c.in-Some-Some.above.now = search rules in
    below_reach answers place block at way asks c.in-Some-Some.kept.now c.in-Some-Some.above.now c.in_ok-both-in-Some-Some.field-0.items kept (marks ∙ above) made

pub returns-in_default-2 : goal.returns-in_default-2
returns-in_default-2 c = λ block way asks path placed everyone are.
    let answers = c.args.self.now.answers in
    let place = c.in-Some.place in
    let is : c.args.before.now.place ≡ Some place = search rules in
    let at : IsPlacedAt answers (Some place) block = subst (λ place. IsPlacedAt answers place block) is placed in
    let above : option_map (λ marks. marks.now) c.reach_of-above.result ≡ marks_of answers.users (chain_to way block) =
    c.reach_of-above.ensures answers.users way block (path ∙ ap (λ path. Some path) (sym c.as_slice-2.ensures.value)) (c.as_slice.ensures.value ∙ everyone)
    (subst (λ (folders : List Folder). AreFolders answers.users folders way) (sym c.as_slice-folders.ensures.value) are) in
    elim c.in_default-2.branch [
      | in_default-2-via-in-Some+in_default w ↦
          let none : None ≡ option_map (λ marks. marks.now) c.reach_of-above.result = search rules in
          no_reach_below answers place block at way (none ∙ above)
      | in_default-2-via-in_default w ↦
          let none : kept_at answers.kept.items place ≡ None = search rules in
          absurd (kept_there answers place block at none)
    ]
