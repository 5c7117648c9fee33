use Rattle.std.proofs.Common.{rules, ◌≡◌, ◌∙◌, ◌<◌, ◌≤◌, true, false, bytes_eq, length, sym}
use Rattle.std.specs.Prelude.{is_some}
use Rattle.std.specs.Option.{option_map_or}
use Rattle.acl_listings.specs.Block.{path_of}
use Rattle.acl_listings.specs.declared.limits.TheConstants.{MAX_BLOCK}
use Rattle.acl_reports.proofs.SightedLemmas.{block_sighted}
use Rattle.acl_listing_queries.specs.WhoSteps.{IsKept, kept_at}
use Rattle.acl_listing_queries.proofs.AnswersLemmas.{each_kept, now_kept, path_there, same_lines, same_strange}
use Rattle.acl_listing_queries.proofs.who.answers.Answers.find.Goals as goal

pub returns-then-is_of : goal.returns-then-is_of
returns-then-is_of c =
    let was = c.args.self.now in
    let place = c.place_for_text-place.result in
    let text = c.args.text.now in
    let lines = c.args.lines.now in
    let some : is_some c.args.path ≡ true = search rules in
    let path = path_there (λ path. path.now) c.args.path (path_of text) c.requires.path some in
    let short : length text ≤ MAX_BLOCK = search rules in
    let holds : option_map_or (λ kept. bytes_eq kept.lines.items lines) (kept_at was.kept.items place) false ≡ true = search rules in
    record {
      users = search rules;
      right = λ right. record { places = right.places; each = right.each };
      found = λ right.
          let (file, reads, at) = same_lines was place text lines path.0 right c.requires.lines short path.1 holds in
          (file, reads, record { kept = at.kept; there = at.there; are = at.are });
      refused = search rules;
      stranger = λ right. c.strange_at-self.ensures ∙ same_strange was place text lines path.0 right c.requires.lines short path.1 holds;
    }

pub returns-then-place-len-clause-right : goal.returns-then-place-len-clause-right
returns-then-place-len-clause-right c = λ right.
    let said = c.in_ok-kept.ensures.answers in
    let is : IsKept c.args.self.now.users c.in_ok-kept.kept = record {
      text = c.args.text.now;
      lines = sym c.in_ok-kept.ensures.lines;
      file = said.0;
      reads = said.1;
      answers = said.2;
      strange = said.3;
    } in
    let within : c.place_for_text-place.result < length c.args.self.now.kept.items = search rules in
    record {
      places = search rules;
      each = each_kept c.args.self.now.users c.in_ok-kept.kept is c.args.self.now.kept.items c.place_for_text-place.result within right.each;
    }

pub returns-then-place-len-clause-found : goal.returns-then-place-len-clause-found
returns-then-place-len-clause-found c = λ right.
    let said = c.in_ok-kept.ensures.answers in
    let within : c.place_for_text-place.result < length c.args.self.now.kept.items = search rules in
    (said.0, said.1, record { kept = c.in_ok-kept.kept; there = now_kept c.args.self.now.kept.items c.place_for_text-place.result c.in_ok-kept.kept within; are = said.2 })

pub returns-then-place-len-clause-stranger : goal.returns-then-place-len-clause-stranger
returns-then-place-len-clause-stranger c = λ right.
    let said = c.in_ok-kept.ensures.answers in
    said.3 ∙ block_sighted c.args.self.now.users.host.now c.args.text.now said.0 said.1
