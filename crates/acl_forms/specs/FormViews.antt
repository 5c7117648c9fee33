-- Private steps, which no public clause cites: what the fields that are read stand for.
use Rattle.std.specs.Prelude.{option_map}
use Rattle.acl_forms.specs.FormText as text
use Rattle.acl_forms.specs.declared.fields.FormFields.{FormFields}

-- without where the fields lie in memory
abbrev pub view_fields : FormFields → text.FormFields
view_fields fields = record {
  tag = fields.tag.now;
  name = option_map (λ name. name.now) fields.name;
  perms = fields.perms.now;
  flags = fields.flags.now;
  kind = fields.kind.now;
}
