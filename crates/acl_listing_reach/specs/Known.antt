-- What is known of a path, as the code has it.
use Rattle.std.specs.Prelude.{option_map}
use Rattle.acl_listing_reach.specs.Once.{At}
use Rattle.acl_listing_reach.specs.declared.known.KnownPath.{KnownPath}

abbrev pub shown_path : KnownPath → At
shown_path known = record {
  path = known.path.now;
  letters = option_map (λ letters. letters.now) known.letters;
}
