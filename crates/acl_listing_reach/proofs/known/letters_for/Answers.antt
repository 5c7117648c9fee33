use Rattle.std.proofs.Common.{◌≡◌, ◌∙◌, None, Some, ap, option_map, sym}
use Rattle.std.specs.Option.{option_copied}
use Rattle.std.specs.Map.{lookup}
use Rattle.acl_listing_reach.specs.KnownSteps.{letters_in}
use Rattle.acl_listing_reach.proofs.KnownLemmas.{is_key, letters_entry}
use Rattle.acl_listing_reach.proofs.known.letters_for.Goals as goal

pub returns-in-Some : goal.returns-in-Some
returns-in-Some c =
    let path = c.args.path.now in
    let known = c.args.known.now.keys in
    let entries = c.args.paths.now.entries in
    let found : lookup (is_key path known) entries ≡ Some c.in-Some.place.now = sym c.get.ensures.value ∙ ap option_copied c.in-Some.is in
    ap Some c.letters_at.ensures ∙ ap (option_map (letters_in known)) (sym found) ∙ letters_entry path known entries

pub returns-in-None : goal.returns-in-None
returns-in-None c =
    let path = c.args.path.now in
    let known = c.args.known.now.keys in
    let entries = c.args.paths.now.entries in
    let found : lookup (is_key path known) entries ≡ None = sym c.get.ensures.value ∙ ap option_copied c.in-None.is in
    ap (option_map (letters_in known)) (sym found) ∙ letters_entry path known entries
