-- What `translate` prints for a block of a listing: its file with an NFSv4 list.
use Rattle.std.specs.Prelude.{ℕ, Bool, true, false, ◌+◌, nat_le, List, [], ◌∷◌, ◌++◌, length}
use Rattle.std.specs.Prelude.{Option, Some, None, Result, Ok, Err, if◌then◌else◌}
use Rattle.std.specs.List.{flat_map}
use Rattle.acl_accounts.specs.Names.{unquoted}
use Rattle.acl_names.specs.Bytes.{comma, newline}
use Rattle.acl_names.specs.Names.{Names}
use Rattle.acl_names.specs.Steps.{◌>>=◌}
use Rattle.acl_posix.specs.Entry.{EntryValue}
use Rattle.acl_posix.specs.Linux.{linux_list}
use Rattle.acl_posix.specs.declared.acl_text.AclFault.TheVariants.{TooMany}
use Rattle.acl_nfs4.specs.Ace.{Nfsace4, ace_of}
use Rattle.acl_nfs4.specs.PrintedText.{short_ace}
use Rattle.acl_nfs4.specs.declared.ace.AceType.TheVariants.{Allow}
use Rattle.acl_nfs4.specs.declared.limits.TheConstants.{MAX_ACES}
use Rattle.acl_nfs4.specs.declared.who.Who.TheVariants.{Owner, Everyone}
use Rattle.acl_bridge.specs.Translation.{default_translation, translation}
use Rattle.acl_forms.specs.ShortForm.{short_entry}
use Rattle.acl_forms.specs.declared.printing.Places.TheVariants.{Full}
use Rattle.acl_listings.specs.Block.{file_by}
use Rattle.acl_listings.specs.Nfs4Block.{nfs4_block}
use Rattle.acl_listings.specs.declared.fault.BlockFault.{BlockFault}
use Rattle.acl_listings.specs.declared.fault.BlockFault.TheVariants.{Acl, TooLong}
use Rattle.acl_listings.specs.declared.limits.TheConstants.{MAX_BLOCK}
use Rattle.acl_listings.specs.declared.lists.Lists.{Lists}
use Rattle.acl_listings.specs.declared.lists.Lists.TheVariants.{Posix, Nfs4}
use Rattle.acl_reports.specs.Listed.{Part}
use Rattle.acl_listing_translation.specs.declared.form.AceForm.{AceForm}
use Rattle.acl_listing_translation.specs.declared.form.AceForm.TheVariants as form
use Rattle.acl_listing_translation.specs.declared.lists.TheConstants.{ATTRIBUTES}
use Rattle.acl_listing_translation.specs.declared.lists.TheConstants.{OWNER_ATTRIBUTES}

-- the names that blocks have, the form in which entries are printed, whether entries for what
-- servers also check are appended, and whether pairs of a list and a path are printed
pub record Translating : Type 0 where
  pub names : Names
  pub form : AceForm
  pub attributes : Bool
  pub pairs : Bool

-- ---- the list

-- what servers also check: `A::OWNER@:tTnNcCoy` and `A::EVERYONE@:tncy`
abbrev pub attributes_if : Bool → List Nfsace4
attributes_if false = []
attributes_if true = ace_of Allow 0 Owner OWNER_ATTRIBUTES ∷ ace_of Allow 0 Everyone ATTRIBUTES ∷ []

-- the translation of a default list, if there is one
abbrev pub below_of : Option (List EntryValue) → List Nfsace4
below_of None = []
below_of (Some default) = default_translation (linux_list default)

-- A file's NFSv4 list: its own; or the translation of its POSIX lists, as Linux evaluates them.
abbrev pub aces_of : Bool → Lists → List Nfsace4
aces_of attributes (Posix access default) =
    translation (linux_list access) ++ (below_of default ++ attributes_if attributes)
aces_of attributes (Nfs4 acl) = acl

-- it has at most 128 entries
abbrev pub as_list : List Nfsace4 → Result (List Nfsace4) BlockFault
as_list aces = if nat_le (length aces) MAX_ACES then Ok aces else Err (Acl TooMany)

-- ---- how it is reported, with ids in decimal

abbrev pub entry_in : AceForm → Nfsace4 → List ℕ
entry_in form.Nfs4 ace = short_ace ace
entry_in form.Freebsd ace = short_entry Full ace

-- a block of the same file, no longer than one may be, and an empty line
abbrev pub if_short : List ℕ → Part
if_short block = if nat_le (length block) (MAX_BLOCK + 1) then Ok (block ++ newline ∷ [])
    else Err TooLong

-- entries with commas between them
abbrev pub spec_in : AceForm → List Nfsace4 → List ℕ
spec_in form [] = []
spec_in form (first ∷ more) = entry_in form first
    ++ flat_map (λ ace. comma ∷ entry_in form ace) more

-- the list and the path without escapes, each with a zero byte after it
abbrev pub pair_in : AceForm → List ℕ → List Nfsace4 → List ℕ
pair_in form path aces = spec_in form aces ++ (0 ∷ (unquoted path ++ 0 ∷ []))

abbrev pub reported_as : Bool → AceForm → List ℕ → List ℕ → List Nfsace4 → Part
reported_as true form text path aces = Ok (pair_in form path aces)
reported_as false form text path aces = if_short (nfs4_block (entry_in form) text aces)

-- what `translate` prints for a block, by its text
abbrev pub translated : Translating → List ℕ → Part
translated asking text = do
  file ← file_by asking.names text
  aces ← as_list (aces_of asking.attributes file.lists)
  reported_as asking.pairs asking.form text file.path aces

-- whatever comes before it
abbrev pub translate_part : Translating → List (List ℕ) → List ℕ → Part
translate_part asking earlier text = translated asking text
