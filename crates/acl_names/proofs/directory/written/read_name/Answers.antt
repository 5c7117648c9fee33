use Rattle.acl_names.proofs.IdTexts.{name_is_utf8}
use Rattle.std.proofs.Common.{sym}
use Rattle.acl_names.proofs.directory.written.read_name.Goals as goal

pub returns-in-Err : goal.returns-in-Err
returns-in-Err c = absurd (c.in-Err.ensures.cases.0 (name_is_utf8 c.args.text.now (sym c.if-not-is_name.ensures)))
