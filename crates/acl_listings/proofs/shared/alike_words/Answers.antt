use Rattle.acl_listings.proofs.SharedLemmas.{alike-on}
use Rattle.acl_listings.proofs.shared.alike_words.Goals as goal

pub loop-alike-preserved : goal.loop-alike-preserved
loop-alike-preserved c =
    let was = c.loop-alike.invariant in
    let on = alike-on c.args.one.now c.args.other.now c.loop-alike.alike 8 was.alike was.first was.second c.loop-alike-test.ensures in
    record { alike = on.0; first = on.1; second = on.2 }
