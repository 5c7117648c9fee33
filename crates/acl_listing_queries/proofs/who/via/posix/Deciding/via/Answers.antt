use Rattle.std.proofs.Common.{◌∙◌, [], ap, fold, option_map, sym}
use Rattle.std.specs.List.{flat_map}
use Rattle.std.proofs.lemmas.List.Sums.{fold-append}
use Rattle.acl_posix.specs.Perms.{bits_of}
use Rattle.acl_listing_queries.specs.Via.{entry_words, mask_words, with_word}
use Rattle.acl_listing_queries.proofs.who.via.posix.Deciding.via.Goals as goal

pub returns : goal.returns
returns c =
    let self = c.args.self.now in
    let words = entry_words self.class self.acl.now self.group self.requester.now (option_map bits_of self.perms) in
    let mask = mask_words self.class self.acl.now self.group self.requester.now (option_map bits_of self.perms) in
    c.in_ok-push_mask.ensures
    ∙ ap (λ text. fold with_word text mask) (c.in_ok-push_entries.ensures ∙ ap (λ text. fold with_word text (flat_map words c.entries.result.now)) c.new-out.ensures.items)
    ∙ ap (λ entries. fold with_word (fold with_word [] (flat_map words entries)) mask) c.entries.ensures.value
    ∙ sym (fold-append with_word [] (flat_map words self.acl.now) mask)
