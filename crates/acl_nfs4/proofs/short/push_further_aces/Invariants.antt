use Rattle.std.proofs.Common.{◌∷◌, take, flat_map, Ok}
use Rattle.std.specs.declared.alloc.AllocError.{AllocError}
use Rattle.acl_names.specs.Bytes.{comma}
use Rattle.acl_names.specs.Pushing.{PushesInRoom}
use Rattle.acl_nfs4.specs.PrintedText.{short_ace, HaveIds}
use Rattle.acl_nfs4.proofs.short.push_further_aces.Given as goal

-- the text so far is that of the entries so far, whose ids are within their range
abbrev pub invariant-loop-ace : goal.invariant-loop-ace
invariant-loop-ace l = record {
  printed : PushesInRoom {E = AllocError} (flat_map (λ ace. comma ∷ short_ace ace) (take l.ace-index l.aces)) (Ok (tt {0})) l.fn.out l.out;
  have_ids : HaveIds (take l.ace-index l.aces);
}
