use Rattle.std.proofs.Common.{◌≡◌, ◌||◌, ◌==◌, drop}
use Rattle.std.specs.List.{list_any}
use Rattle.acl_wire.proofs.caller.CallerSubject.is_in_group.Given as goal

-- what was found, or is among the rest, is among all
abbrev pub invariant-loop-own : goal.invariant-loop-own
invariant-loop-own l =
    (l.found || list_any (λ own. own == l.gid) (drop l.own-index l.self.gids.now)) ≡ list_any (λ own. own == l.gid) l.self.gids.now
