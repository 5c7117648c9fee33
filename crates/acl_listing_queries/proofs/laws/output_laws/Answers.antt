use Rattle.acl_listing_queries.proofs.OutputLemmas.{who_answers_print, who_begins_print}
use Rattle.acl_listing_queries.proofs.laws.output_laws.Goals as goal

pub returns : goal.returns
returns c = record { answered = who_answers_print; begun = who_begins_print }
