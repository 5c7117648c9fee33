use Rattle.std.proofs.Common.{◌≡◌, ◌≤◌, All, length, map, take}
use Rattle.acl_cli.specs.SessionFiles.{HaveBytes, input_count}
use Rattle.acl_cli.proofs.session_files.read_sessions.Given as goal

-- there is a text for each name so far, of the bytes that are reported for it; and standard input is as it was, unless one was it
abbrev pub invariant-loop-name : goal.invariant-loop-name
invariant-loop-name g l = record {
  count : length l.texts.items ≡ l.name-index;
  capped : All (λ text. length text.items ≤ l.cap) l.texts.items;
  untouched : input_count (map (λ name. name.now) (take l.name-index l.names)) ≡ 0 → l.input ≡ l.initial.input;
  reported : HaveBytes (g.F.OpenFiles.bytes_of l.files) (g.I.Read.remaining l.initial.input) (map (λ name. name.now) (take l.name-index l.names)) l.texts.items;
}
