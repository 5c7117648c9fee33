use Rattle.std.proofs.Common.{◌∙◌, ap, fold, option_map, sym}
use Rattle.acl_posix.specs.Perms.{bits_of}
use Rattle.acl_listing_queries.specs.Via.{entry_words, with_word}
use Rattle.acl_listing_queries.proofs.ViaLemmas.{words_next}
use Rattle.acl_listing_queries.proofs.who.via.posix.Deciding.push_entries.Goals as goal

pub loop-entry-preserved : goal.loop-entry-preserved
loop-entry-preserved c =
    let self = c.args.self.now in
    let words = entry_words self.class self.acl.now self.group self.requester.now (option_map bits_of self.perms) in
    c.in_ok-push_entry.ensures ∙ ap (λ text. fold with_word text (words c.entry-item.result)) c.loop-entry.invariant
    ∙ sym (words_next words c.args.out.now.items c.args.entries.now c.loop-entry.entry-index c.entry-item.result c.loop-entry-test.true c.entry-item.is)
