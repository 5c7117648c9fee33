use Rattle.acl_names.proofs.Fields.{front_field}
use Rattle.acl_nfs4.proofs.front.split_field.Goals as goal

pub returns-clause-field : goal.returns-clause-field
returns-clause-field c = rw c.split_at.ensures.front (front_field c.args.text.now c.field_len.result c.field_len.ensures.value c.field_len.ensures.within)
