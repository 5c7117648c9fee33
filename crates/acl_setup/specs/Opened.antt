-- What a setup opens: whom the directory knows, and the tree.
use Rattle.std.specs.Prelude.{◌≡◌, ◌≢◌, ◌≤◌, ⊤, ℕ, List, Option, Some, None, Result, Ok, Err}
use Rattle.std.specs.Prelude.{IsOkAnd, length, option_and_then, option_map, take}
use Rattle.toml.specs.Data.{Members}
use Rattle.acl_names.specs.Directory.{AnswersAs, Known, fault_of, gid_of, uid_of}
use Rattle.acl_names.specs.Steps.{◌>>=◌, map_fault, or_fault}
use Rattle.acl_names.specs.declared.directory.fault.SetupFault.{SetupFault}
use Rattle.acl_posix.specs.Mode.{Classes}
use Rattle.acl_bridge.specs.declared.style.Style.{Style}
use Rattle.acl_tree.specs.Commands.{root_alone}
use Rattle.acl_tree.specs.Tree.{NodesUnderUmask}
use Rattle.acl_setup.specs.PartsKeys.{key_of_parts}
use Rattle.acl_setup.specs.Setup.{Setup, setup_in}
use Rattle.acl_setup.specs.SetupTable.{IsToml, ReadsAs}
use Rattle.acl_setup.specs.Spots.{spot_after}
use Rattle.acl_setup.specs.declared.fault.SetupError.{SetupError}
use Rattle.acl_setup.specs.declared.fault.SetupError.TheVariants.{NotToml, BadField, Parts}
use Rattle.acl_setup.specs.declared.fault.SetupError.TheVariants.{Memory}
use Rattle.acl_setup.specs.declared.key.Key.TheVariants as at
use Rattle.acl_setup.specs.declared.spot.Spot.{Spot}

-- the users and groups, and whose the root of the tree is, with which mode, style and umask
pub record Opened : Type 0 where
  pub known : Known
  pub owner : ℕ
  pub group : ℕ
  pub mode : Classes
  pub style : Style
  pub umask : Classes

-- users and groups with this fault are refused for it, at the first key that has it
abbrev pub refused_for : Known → SetupFault → Option SetupError
refused_for known fault =
    option_map (Parts fault) (key_of_parts known.domain known.users known.groups fault)

-- the users and groups, unless they are refused
abbrev pub unless : Known → Option SetupError → Result Known SetupError
unless known None = Ok known
unless known (Some error) = Err error

-- the users and groups, if nothing is wrong with them
abbrev pub faultless : Known → Result Known SetupError
faultless known = unless known (option_and_then (refused_for known) (fault_of known))

-- the users and groups, and the root's owner and group, which are among them
unfoldable pub opened_by : Setup → Result Opened SetupError
opened_by setup = do
  known ← faultless setup.known
  owner ← or_fault (BadField at.RootOwner) (uid_of known setup.root.owner)
  group ← or_fault (BadField at.RootGroup) (gid_of known setup.root.group)
  Ok (record {
    known = known;
    owner = owner;
    group = group;
    mode = setup.root.mode;
    style = setup.root.style;
    umask = setup.umask;
  })

-- the tree, of the root alone
abbrev pub tree_of : Opened → NodesUnderUmask
tree_of opened = root_alone opened.owner opened.group opened.mode opened.style opened.umask

-- what a table opens, or the first fault that it has: its fields come first, then what is wrong
-- with the users and groups
abbrev pub opened_in : Members → Result Opened SetupError
opened_in table = map_fault BadField (setup_in table) >>= opened_by

-- a directory that answers as these users and groups
abbrev pub KnowsThem : Result Opened SetupError → Known → Type 0
KnowsThem reading known = IsOkAnd reading (λ opened. AnswersAs known opened.known)

-- and this tree
abbrev pub IsOpened : Result Opened SetupError → Known → NodesUnderUmask → Type 0
IsOpened reading known tree = IsOkAnd reading
    (λ opened. AnswersAs known opened.known × (tree ≡ tree_of opened))

-- the fault is that of the reading, or out of memory
abbrev pub ExplainsSetup : Result Opened SetupError → SetupError → Type 0
ExplainsSetup reading (NotToml spot) = ⊥
ExplainsSetup reading Memory = ⊤
ExplainsSetup reading fault = reading ≡ Err fault

-- the bytes are a document, and open this directory, with a tree of which nothing is said
abbrev pub OpensDirectory : List ℕ → Known → Type 0
OpensDirectory bytes known = (table : Members) × ReadsAs bytes table
    × KnowsThem (opened_in table) known

-- the bytes are a document, and open this directory and this tree
abbrev pub Opens : List ℕ → Known → NodesUnderUmask → Type 0
Opens bytes known tree = (table : Members) × ReadsAs bytes table
    × IsOpened (opened_in table) known tree

-- the spot is that of the byte at this place, or of the end
abbrev pub IsSpotAt : List ℕ → ℕ → Spot → Type 0
IsSpotAt bytes at spot = (at ≤ length bytes) × (spot ≡ spot_after (take at bytes))

-- the spot is that of one of these bytes, or of their end
abbrev pub IsSpotIn : List ℕ → Spot → Type 0
IsSpotIn bytes spot = (at : ℕ) × IsSpotAt bytes at spot

-- the bytes are refused for this: they are no document, or its table has this fault; out of memory
-- says nothing of them
abbrev pub IsRefusedSetup : List ℕ → SetupError → Type 0
IsRefusedSetup bytes (NotToml spot) = (¬ IsToml bytes) × IsSpotIn bytes spot
IsRefusedSetup bytes Memory = ⊤
IsRefusedSetup bytes fault = (table : Members) × ReadsAs bytes table × (opened_in table ≡ Err fault)

-- the setup is refused for this, and not because memory ran out
pub record IsRefusedBy (bytes : List ℕ) (error : SetupError) : Type 0 where
  pub refused : IsRefusedSetup bytes error
  pub because : error ≢ Memory
