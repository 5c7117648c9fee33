use Rattle.std.proofs.Common.{◌≡◌, ◌++◌, flat_map, take, length}
use Rattle.acl_names.specs.Shown.{shown_byte}
use Rattle.acl_names.proofs.text.shown.push_shown.Given as goal

-- what was put is the bytes so far
abbrev pub invariant-loop-byte : goal.invariant-loop-byte
invariant-loop-byte l = record {
  text : l.out.items ≡ l.fn.out.items ++ flat_map shown_byte (take l.byte-index l.front);
  kept : take (length l.fn.out.items) l.out.items ≡ l.fn.out.items;
}
