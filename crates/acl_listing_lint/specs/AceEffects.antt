-- Entries of NFSv4 lists without which everybody is granted the same.
use Rattle.std.specs.Prelude.{◌≡◌, ◌+◌, ◌==◌, ◌&&◌, ◌||◌, ℕ, Bool, true, false, List, [], ◌++◌}
use Rattle.std.specs.Prelude.{drop, take}
use Rattle.acl_names.specs.Bits.{◌∩◌}
use Rattle.acl_access.specs.Changes.{IsAlikeToAll}
use Rattle.acl_bridge.specs.Files.{File, file_with}
use Rattle.acl_bridge.specs.declared.any_acl.AnyAcl.TheVariants.{Nfs4}
use Rattle.acl_nfs4.specs.Ace.{Nfsace4, is_allow, is_deny}
use Rattle.acl_nfs4.specs.Flags.{inheritance_flags}
use Rattle.acl_nfs4.specs.declared.owners.Owners.{Owners}
use Rattle.acl_listing_lint.specs.Effects.{SaysExactly, no_effect_line}
use Rattle.acl_listing_lint.specs.Found.{Spot}

-- the entry allows or denies, and says nothing of inheritance: any other may be there for more than
-- access to the file
abbrev pub is_asked : Nfsace4 → Bool
is_asked ace = (is_allow ace.kind || is_deny ace.kind) && (ace.flags ∩ inheritance_flags == 0)

-- the entries but for the one at this place
abbrev pub but_place : ℕ → List Nfsace4 → List Nfsace4
but_place place aces = take place aces ++ drop (place + 1) aces

-- both lists grant every requester the same, of whatever uid and groups
abbrev pub nfs4_file : Owners → List Nfsace4 → File
nfs4_file owners aces = file_with owners (Nfs4 aces)

abbrev pub AcesDecideAlike : Owners → List Nfsace4 → List Nfsace4 → Type 0
AcesDecideAlike owners aces other = IsAlikeToAll (nfs4_file owners aces) (nfs4_file owners other)

-- the line is reported exactly if the list without the entry decides alike
abbrev pub IsAceEffectSaidIf : Bool → Owners → List Nfsace4 → ℕ → Spot → List ℕ → Type 0
IsAceEffectSaidIf true owners aces place spot text =
    SaysExactly (AcesDecideAlike owners aces (but_place place aces)) (no_effect_line spot) text
IsAceEffectSaidIf false owners aces place spot text = text ≡ []

abbrev pub IsAceEffectSaid : Owners → List Nfsace4 → ℕ → Spot → Nfsace4 → List ℕ → Type 0
IsAceEffectSaid owners aces place spot ace text =
    IsAceEffectSaidIf (is_asked ace) owners aces place spot text
