-- Private steps, which no public clause cites: what the types that read entries stand for.
use Rattle.std.specs.Prelude.{option_map}
use Rattle.acl_posix.specs.EntryText as text
use Rattle.acl_posix.specs.declared.reading.Fields.{Fields}

-- without where the fields lie in memory
abbrev pub view_fields : Fields → text.Fields
view_fields fields = record {
  tag = fields.tag.now;
  qualifier = option_map (λ bytes. bytes.now) fields.qualifier;
  perms = fields.perms.now;
}
