use Rattle.std.proofs.Common.{List, subst}
use Rattle.acl_posix.specs.Entry.{EntryValue}
use Rattle.acl_posix.specs.PrintedText.{HaveIds}
use Rattle.acl_posix.proofs.ShortRoundTrip.{short_spells}
use Rattle.acl_posix.proofs.acl.Acl.print_short.Goals as goal

pub returns-clause-read_again : goal.returns-clause-read_again
returns-clause-read_again c =
    let acl = c.entries-entries.ensures.acl in
    let have = subst (λ (entries : List EntryValue). HaveIds entries) c.entries-entries.ensures.value c.put_short_entries.ensures.have_ids in
    λ known. short_spells known c.args.self.now have acl.permissions acl.within
