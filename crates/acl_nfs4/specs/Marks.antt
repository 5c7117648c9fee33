-- Private steps, which no public clause cites: marks of whos, a fast test whether a list may have
-- an entry for somebody.
use Rattle.std.specs.Prelude.{◌≡◌, ℕ, ◌%◌, Bool, true, false, List, slice_index_or}
use Rattle.std.specs.List.{list_any}
use Rattle.acl_nfs4.specs.Ace.{Nfsace4}
use Rattle.acl_nfs4.specs.Who.{id_of}
use Rattle.acl_nfs4.specs.declared.marks.TheConstants.{MARKS}
use Rattle.acl_nfs4.specs.declared.who.Who.{Who}

abbrev pub mark_of : Who → ℕ
mark_of who = id_of who % MARKS

-- if a who has no mark, no entry passes the test of this who
abbrev pub IsMarked : (Who → Nfsace4 → Bool) → List Bool → List Nfsace4 → Type 0
IsMarked test marks aces = (who : Who) → slice_index_or marks (mark_of who) true ≡ false
    → list_any (test who) aces ≡ false
