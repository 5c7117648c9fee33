use Rattle.std.proofs.Common.{flat_map, take}
use Rattle.acl_names.specs.Shown.{shown_byte}
use Rattle.acl_cli.specs.ErrorOutput.{Reports}
use Rattle.acl_cli.proofs.error_output.ErrorOutput.write_escaped.Given as goal

-- the bytes so far went there
abbrev pub invariant-loop-byte : goal.invariant-loop-byte
invariant-loop-byte g l = Reports (flat_map shown_byte (take l.byte-index l.byte-items)) l.fn.self l.self
