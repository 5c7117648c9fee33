-- What blocks result in, by their texts.
use Rattle.std.specs.Prelude.{ℕ, List, Option, Result}
use Rattle.acl_names.specs.Names.{Names}
use Rattle.acl_listings.specs.Block.{FileValue, file_by, path_of}
use Rattle.acl_listings.specs.declared.fault.BlockFault.{BlockFault}

-- the path of a block, if its first line reads, and what it says of a file
pub record Reading : Type 0 where
  pub path : Option (List ℕ)
  pub file : Result FileValue BlockFault

abbrev pub reading_of : Names → List ℕ → Reading
reading_of names text = record { path = path_of text; file = file_by names text }
