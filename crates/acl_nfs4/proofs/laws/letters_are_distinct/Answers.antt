use Rattle.acl_nfs4.proofs.LetterLemmas.{flag_table_is, mask_table_is}
use Rattle.acl_nfs4.proofs.laws.letters_are_distinct.Goals as goal

pub returns : goal.returns
returns c = record { flags = flag_table_is; mask = mask_table_is }
