use Rattle.std.proofs.Common.{rules, ◌≡◌, ◌∙◌, ◌++◌, true, false, cond, List, [], ◌∷◌, Some, ap, option_map, refl, subst, sym}
use Rattle.std.specs.List.{fold, list_any}
use Rattle.std.proofs.lemmas.Bool.{or_parts}
use Rattle.acl_listings.specs.Way.{is_above}
use Rattle.acl_listing_queries.specs.Ways.{may_be_above, those_above, way_on}
use Rattle.acl_listing_queries.specs.WhoSteps.{AreFolders, IsChain, folders_to, lacks_path, marks_of}
use Rattle.acl_listing_queries.specs.declared.who.reach.Before.{Before}
use Rattle.acl_listing_queries.specs.declared.who.way.Folder.{Folder}
use Rattle.acl_listing_queries.proofs.ReachSteps.{StandsAt, chain_on, known_on, stands}
use Rattle.acl_listing_queries.proofs.WaysLemmas.{all_left, one_folder_more}
use Rattle.acl_listing_queries.proofs.who.reach.ReachReporter.come_to.Goals as goal

pub returns-in_ok-push-clause-folders : goal.returns-in_ok-push-clause-folders
returns-in_ok-push-clause-folders c = λ seen here asks path known everyone behind.
    let users = c.args.self.now.answers.users in
    let folders : List Folder = c.args.self.now.folders.items in
    let before : Before = c.in-Some.before in
    let was : c.args.self.now.before ≡ Some before = search rules in
    let at : StandsAt c.args.self.now.answers before folders (fold way_on [] seen) = stands c.args.self.now.answers before folders c.args.self.now.before (fold way_on [] seen) was behind in
    let above : is_above before.path.items c.args.path.now ≡ true = search rules in
    let above_here : may_be_above at.block.path here.path ≡ true = ap (λ found. may_be_above found here.path) at.path ∙ ap (may_be_above (Some before.path.items)) path ∙ above in
    let chain : IsChain (at.block ∷ at.way) = subst IsChain at.stack_is (chain_on [] seen tt) in
    let none = or_parts (lacks_path at.block) (list_any lacks_path at.way) (ap (list_any lacks_path) (sym at.stack_is) ∙ known_on [] seen refl known) in
    let left : those_above here at.way ≡ at.way = all_left here at.block c.args.path.now path above_here none.0 at.way chain.0 in
    let way_is : those_above here (fold way_on [] seen) ≡ at.block ∷ at.way =
    ap (those_above here) at.stack_is ∙ ap (λ b. cond b (at.block ∷ those_above here at.way) (those_above here at.way)) above_here ∙ ap (λ more. at.block ∷ more) left in
    let reach : option_map (λ marks. marks.items) c.in_ok-reach.reach ≡ marks_of users (folders_to at.block at.way) = c.in_ok-reach.ensures at.block at.way asks at.path at.placed everyone at.are in
    let standings = c.in_ok-standings.ensures at.block at.placed in
    let top : Folder = record { path = before.path; reach = c.in_ok-reach.reach; standings = c.in_ok-standings.standings } in
    let more : c.push.new.self.items ≡ folders ++ top ∷ [] = search rules in
    let kept : AreFolders users (folders ++ top ∷ []) (at.block ∷ at.way) = one_folder_more users folders top at.block at.way at.are at.path reach standings in
    subst (λ folders. AreFolders users folders (those_above here (fold way_on [] seen))) (sym more) (subst (AreFolders users (folders ++ top ∷ [])) (sym way_is) kept)

pub returns-else-is_above-clause-folders : goal.returns-else-is_above-clause-folders
returns-else-is_above-clause-folders c = λ seen here asks path known everyone behind.
    let users = c.args.self.now.answers.users in
    let folders : List Folder = c.args.self.now.folders.items in
    let before : Before = c.in-Some.before in
    let was : c.args.self.now.before ≡ Some before = search rules in
    let at : StandsAt c.args.self.now.answers before folders (fold way_on [] seen) = stands c.args.self.now.answers before folders c.args.self.now.before (fold way_on [] seen) was behind in
    let not_above : is_above before.path.items c.args.path.now ≡ false = search rules in
    let not_here : may_be_above at.block.path here.path ≡ false = ap (λ found. may_be_above found here.path) at.path ∙ ap (may_be_above (Some before.path.items)) path ∙ not_above in
    let chain : IsChain (at.block ∷ at.way) = subst IsChain at.stack_is (chain_on [] seen tt) in
    let none = or_parts (lacks_path at.block) (list_any lacks_path at.way) (ap (list_any lacks_path) (sym at.stack_is) ∙ known_on [] seen refl known) in
    let way_is : those_above here (fold way_on [] seen) ≡ those_above here at.way =
    ap (those_above here) at.stack_is ∙ ap (λ b. cond b (at.block ∷ those_above here at.way) (those_above here at.way)) not_here in
    subst (AreFolders users c.leave.new.folders.items) (sym way_is) (c.leave.ensures users at.way here path chain.1 none.1 at.are)
