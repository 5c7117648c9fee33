-- That the listing of a tree is in pre-order.
use Rattle.std.specs.Prelude.{◌≡◌, ℕ, Bool, true, List, IsSome, Option, is_ok, map}
use Rattle.std.specs.List.{list_all}
use Rattle.clap.specs.Words.{Row, Text}
use Rattle.acl_names.specs.Directory.{Known}
use Rattle.acl_names.specs.Names.{Names}
use Rattle.acl_nfs4.specs.NamedAces.{ReadNumbers}
use Rattle.acl_listings.specs.Listing.{blocks_of}
use Rattle.acl_tree.specs.Tree.{NodesUnderUmask}
use Rattle.acl_listing_queries.specs.Readings.{Reading, reading_of}
use Rattle.acl_listing_queries.specs.WayLaws.{AreInPreOrder, IsPlaced}
use Rattle.acl_listing_queries.specs.Ways.{known_way, way_of}
use Rattle.acl_tree_queries.specs.ListAnswer.{IsList}
use Rattle.acl_tree_queries.specs.SetupTree.{IsSetupTree}

-- what is read of the blocks of a text
abbrev pub readings_of : Names → List ℕ → List Reading
readings_of names text = map (λ block. reading_of names block.text) (blocks_of text)

-- Whatever files the words name: of the blocks that `list` prints, whoever reads them, none behind
-- a folder's is that of a folder above it, and those of all that is in it stand directly behind it.
abbrev pub ListsAreInPreOrder : Type 0
ListsAreInPreOrder =
    (bytes_of : Text → Option (List ℕ)) (input : Option (List ℕ)) (rows : List Row)
    (known : Known) (tree : NodesUnderUmask) (text : List ℕ)
    → IsSetupTree bytes_of input rows known tree → IsList known tree text
    → (names : Names) → ReadNumbers names → AreInPreOrder (readings_of names text)

-- And the way to a block is known if each of its folders reads: no block lacks an answer by reach
-- for the place where it stands, or for a folder that the listing lacks.
abbrev pub reads : Reading → Bool
reads reading = is_ok reading.file

abbrev pub ListsHaveKnownWays : Type 0
ListsHaveKnownWays =
    (bytes_of : Text → Option (List ℕ)) (input : Option (List ℕ)) (rows : List Row)
    (known : Known) (tree : NodesUnderUmask) (text : List ℕ)
    → IsSetupTree bytes_of input rows known tree → IsList known tree text
    → (names : Names) → ReadNumbers names
    → (before : List Reading) (here : Reading) → IsPlaced (readings_of names text) before here
    → list_all reads (way_of before here) ≡ true → IsSome (known_way before here)
