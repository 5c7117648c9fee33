use Rattle.std.proofs.Common.{◌≡◌, ◌++◌, take}
use Rattle.acl_nfs4.specs.PrintedText.{HaveIds, short_ace}
use Rattle.acl_listings.specs.Nfs4Block.{aces_lines}
use Rattle.acl_listings.proofs.printing.push_aces.Given as goal

-- what was put is the entries so far, whose ids are within their range
abbrev pub invariant-loop-ace : goal.invariant-loop-ace
invariant-loop-ace l = record {
  text : l.out.items ≡ l.fn.out.items ++ aces_lines short_ace (take l.ace-index l.aces);
  have_ids : HaveIds (take l.ace-index l.aces);
}
