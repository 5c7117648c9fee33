use Rattle.std.proofs.Common.{rules, ◌≡◌, ◌∙◌, ◌-◌, true, false, List, Some, None, length, subst, sym, take}
use Rattle.std.specs.Prelude.{slice_get}
use Rattle.acl_listings.specs.Way.{is_above}
use Rattle.acl_listing_queries.specs.WhoSteps.{AreFolders}
use Rattle.acl_listing_queries.specs.declared.who.way.Folder.{Folder}
use Rattle.acl_listing_queries.proofs.WaysLemmas.{goes, none_left, stays}
use Rattle.acl_listing_queries.proofs.who.way.leave.Goals as goal

pub returns-then-is_above : goal.returns-then-is_above
returns-then-is_above c = λ users way here path chain known are.
    let folders : List Folder = c.loop-folder.folders.items in
    let top : Folder = c.in-Some.folder.now in
    let last : slice_get folders (length folders - 1) ≡ Some top = search rules in
    let above : is_above top.path.items c.args.path.now ≡ true = search rules in
    let (left, kept, left_chain, left_known, same) = c.loop-folder.invariant users way here path chain known are in
    subst (AreFolders users folders) (sym (stays users folders here c.args.path.now path top last above left left_chain left_known kept) ∙ same) kept

pub returns : goal.returns
returns c = λ users way here path chain known are.
    let folders : List Folder = c.loop-folder.folders.items in
    let none : slice_get folders (length folders - 1) ≡ None = search rules in
    let (left, kept, left_chain, left_known, same) = c.loop-folder.invariant users way here path chain known are in
    subst (AreFolders users folders) (sym (none_left users folders here c.args.path.now path none left kept) ∙ same) kept

pub loop-folder-preserved-else-is_above : goal.loop-folder-preserved-else-is_above
loop-folder-preserved-else-is_above c = λ users way here path chain known are.
    let folders : List Folder = c.loop-folder.folders.items in
    let top : Folder = c.in-Some.folder.now in
    let last : slice_get folders (length folders - 1) ≡ Some top = search rules in
    let not_above : is_above top.path.items c.args.path.now ≡ false = search rules in
    let rest : c.pop.new.self.items ≡ take (length folders - 1) folders = search rules in
    let (left, kept, left_chain, left_known, same) = c.loop-folder.invariant users way here path chain known are in
    let (fewer, fewer_kept, fewer_chain, fewer_known, fewer_same) = goes users folders here c.args.path.now path top last not_above left left_chain left_known kept in
    (fewer, subst (λ folders. AreFolders users folders fewer) (sym rest) fewer_kept, fewer_chain, fewer_known, fewer_same ∙ same)
