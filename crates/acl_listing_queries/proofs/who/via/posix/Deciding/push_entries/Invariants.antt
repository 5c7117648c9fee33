use Rattle.std.proofs.Common.{◌≡◌, fold, option_map, take}
use Rattle.std.specs.List.{flat_map}
use Rattle.acl_posix.specs.Perms.{bits_of}
use Rattle.acl_listing_queries.specs.Via.{entry_words, with_word}
use Rattle.acl_listing_queries.proofs.who.via.posix.Deciding.push_entries.Given as goal

-- the words of the entries so far
abbrev pub invariant-loop-entry : goal.invariant-loop-entry
invariant-loop-entry l =
    l.out.items ≡ fold with_word l.fn.out.items (flat_map (entry_words l.self.class l.self.acl.now l.self.group l.self.requester.now (option_map bits_of l.self.perms)) (take l.entry-index l.entries))
