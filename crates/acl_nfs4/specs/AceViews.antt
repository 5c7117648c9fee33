-- What the type that cuts entries stands for.
use Rattle.acl_nfs4.specs.AceFields as text
use Rattle.acl_nfs4.specs.declared.reading.AceFields.{AceFields}

-- without where the fields lie in memory
abbrev pub view_fields : AceFields → text.AceFields
view_fields fields = record {
  kind = fields.kind.now;
  flags = fields.flags.now;
  who = fields.who.now;
  letters = fields.letters.now;
}
