-- The users to evaluate, as the code has them.
use Rattle.acl_people.specs.Asked.{persons_in}
use Rattle.acl_listing_reach.specs.ReachText.{ReachAsking}
use Rattle.acl_listing_reach.specs.declared.lines.Asking.{Asking}

abbrev pub asking_by : Asking → ReachAsking
asking_by asking = record {
  persons = persons_in asking.people.now;
  each = asking.each;
  asks = asking.asks;
}
