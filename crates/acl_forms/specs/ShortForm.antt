-- Printing entries with decimal ids, which are read as themselves whatever users and groups there
-- are.
use Rattle.std.specs.Prelude.{ℕ, List, decimal}
use Rattle.acl_nfs4.specs.Ace.{Nfsace4}
use Rattle.acl_nfs4.specs.declared.who.Who.{Who}
use Rattle.acl_forms.specs.PrintedForm.{fields_text, tag_by}
use Rattle.acl_forms.specs.declared.printing.Places.{Places}

abbrev pub short_tag : Who → List ℕ
short_tag = tag_by decimal decimal

-- `tag:perms:flags:type`
abbrev pub short_entry : Places → Nfsace4 → List ℕ
short_entry places ace = fields_text places (short_tag ace.who) ace
