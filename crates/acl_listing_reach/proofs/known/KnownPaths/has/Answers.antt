use Rattle.std.proofs.Common.{◌∙◌, ap}
use Rattle.acl_listing_reach.specs.Once.{has_path}
use Rattle.acl_listing_reach.proofs.KnownLemmas.{has_entry}
use Rattle.acl_listing_reach.proofs.known.KnownPaths.has.Goals as goal

pub returns : goal.returns
returns c =
    let inside = c.self.inside in
    c.contains_key.ensures ∙ has_entry c.args.path.now inside.letters.keys inside.paths.entries ∙ ap (has_path c.args.path.now) c.self.view_is
