use Rattle.std.proofs.Common.{ap, sym}
use Rattle.acl_names.specs.Letters.{letters_text}
use Rattle.acl_names.proofs.Pushed.{PushesInRoom-as}
use Rattle.acl_nfs4.specs.Letters.{mask_table}
use Rattle.acl_nfs4.proofs.letters.push_mask.Goals as goal

pub returns : goal.returns
returns c = PushesInRoom-as (ap (letters_text mask_table) (sym (c.bits.ensures tt))) c.push_letters.ensures.printed
