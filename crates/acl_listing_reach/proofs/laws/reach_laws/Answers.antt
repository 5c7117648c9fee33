use Rattle.acl_listing_reach.proofs.ReachLawLemmas.{letters_are, lines_are}
use Rattle.acl_listing_reach.proofs.laws.reach_laws.Goals as goal

pub returns : goal.returns
returns c = record { letters = letters_are; lines = lines_are }
