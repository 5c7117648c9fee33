use Rattle.std.proofs.Common.{take, Ok}
use Rattle.std.specs.declared.alloc.AllocError.{AllocError}
use Rattle.acl_names.specs.Pushing.{PushesInRoom}
use Rattle.acl_nfs4.specs.PrintedText.{aces_text, HaveIds}
use Rattle.acl_nfs4.proofs.printing.push_lines.Given as goal

-- the lines so far are those of the entries so far, whose ids are within their range
abbrev pub invariant-loop-ace : goal.invariant-loop-ace
invariant-loop-ace l = record {
  printed : PushesInRoom {E = AllocError} (aces_text l.directory (take l.ace-index l.aces)) (Ok (tt {0})) l.fn.out l.out;
  have_ids : HaveIds (take l.ace-index l.aces);
}
