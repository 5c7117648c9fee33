use Rattle.std.proofs.Common.{◌∙◌, ◌&&◌, ap₂, sym}
use Rattle.acl_wire.proofs.DeletionLemmas.{deletes-decided}
use Rattle.acl_wire.proofs.deletion.raws_delete.Goals as goal

pub returns : goal.returns
returns c =
    deletes-decided c.args.sticky c.args.folder.now c.args.folder_owner c.args.folder_group c.args.raws.now c.args.owner c.args.group
    (record { uid = c.args.uid; gids = c.args.gids.now }) c.in_ok-in_folder.in_folder c.in_ok-of_file.of_file
    (ap₂ (λ a b. a && b) (sym c.are_ids.ensures ∙ c.if-not-are_ids.false) (sym c.are_ids-else-not-are_ids.ensures ∙ c.if-not-are_ids-2.false))
    c.in_ok-in_folder.ensures c.in_ok-of_file.ensures c.is_free-is_free.result c.is_free-is_free.ensures c.is_granted.result c.is_granted.ensures
