use Rattle.std.proofs.Common.{take, Ok}
use Rattle.std.specs.declared.alloc.AllocError.{AllocError}
use Rattle.acl_names.specs.Pushing.{PushesInRoom}
use Rattle.acl_nfs4.specs.PrintedText.{HaveIds}
use Rattle.acl_forms.specs.PrintedForm.{entries_text}
use Rattle.acl_forms.proofs.printing.push_lines.Given as goal

-- the lines so far are those of the entries so far, whose ids are within their range
abbrev pub invariant-loop-ace : goal.invariant-loop-ace
invariant-loop-ace l = record {
  printed : PushesInRoom {E = AllocError} (entries_text l.places l.directory (take l.ace-index l.aces)) (Ok (tt {0})) l.fn.out l.out;
  have_ids : HaveIds (take l.ace-index l.aces);
}
