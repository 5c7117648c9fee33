-- The entries of a list that decide about a request.
use Rattle.std.specs.Prelude.{ℕ, ◌+◌, ◌^◌, Bool, List, [], ◌∷◌, ◌++◌, Option, Some, None, codes}
use Rattle.std.specs.Prelude.{decimal, if◌then◌else◌, slice_get}
use Rattle.std.specs.List.{flat_map}
use Rattle.acl_names.specs.Bits.{has_all}
use Rattle.acl_names.specs.Directory.{Known}
use Rattle.acl_names.specs.Letters.{letters_text}
use Rattle.acl_names.specs.Requester.{Identity}
use Rattle.acl_posix.specs.Access.{effective_perms}
use Rattle.acl_posix.specs.Entry.{EntryValue, perms_of}
use Rattle.acl_posix.specs.PermsText.{perms_text}
use Rattle.acl_posix.specs.PrintedText.{entry_text}
use Rattle.acl_posix.specs.declared.entry.Tag.TheVariants.{Mask}
use Rattle.acl_nfs4.specs.Ace.{Nfsace4}
use Rattle.acl_nfs4.specs.Letters.{mask_table}
use Rattle.acl_nfs4.specs.Mask.{append_data, execute, mask_of, read_data, write_data}
use Rattle.acl_nfs4.specs.PrintedText.{ace_text}
use Rattle.acl_nfs4.specs.Who.{matches}
use Rattle.acl_nfs4.specs.declared.who.Who.{Who}
use Rattle.acl_bridge.specs.declared.any_acl.AnyAcl.{AnyAcl}
use Rattle.acl_bridge.specs.declared.any_acl.AnyAcl.TheVariants.{Posix, Nfs4}
use Rattle.acl_queries.specs.Explanation.{class_of, first_speaker, is_limited, is_of_class, lacks}
use Rattle.acl_queries.specs.declared.explanation.Class.TheVariants as class
use Rattle.acl_queries.specs.declared.explanation.Class.{Class}

-- a request of permissions, by a requester, for a file of this owner and this group
pub record FileRequestValue : Type 0 where
  pub owner : ℕ
  pub group : ℕ
  pub requester : Identity
  pub request : ℕ

-- ---- POSIX lists

abbrev pub class_word : Class → List ℕ
class_word class.Owner = codes "owner"
class_word class.User = codes "user"
class_word class.Group = codes "group"
class_word class.Other = codes "other"

-- `class CLASS`
abbrev pub class_line : Class → List ℕ
class_line class = codes "class " ++ class_word class ++ codes "\n"

-- `entry ENTRY EFFECTIVE LACKS`: the entry, its permissions under the mask, and those of the
-- request that it lacks
abbrev pub entry_line : Known → List EntryValue → ℕ → EntryValue → List ℕ
entry_line known acl request entry = codes "entry " ++ entry_text known entry ++ codes " "
    ++ perms_text (effective_perms acl entry) ++ codes " " ++ perms_text (lacks acl entry request)
    ++ codes "\n"

-- for an entry of the class
abbrev pub entry_line_if : Known → Class → FileRequestValue → List EntryValue → EntryValue → List ℕ
entry_line_if known class asked acl entry =
    if is_of_class class asked.group asked.requester entry.tag
    then entry_line known acl asked.request entry else []

-- `mask PERMS`
abbrev pub mask_line : Option ℕ → List ℕ
mask_line None = []
mask_line (Some mask) = codes "mask " ++ perms_text mask ++ codes "\n"

-- the mask, if it limits the class
abbrev pub mask_line_if : Class → List EntryValue → List ℕ
mask_line_if class acl = if is_limited class then mask_line (perms_of Mask acl) else []

-- the class that decides, its entries, and the mask that limits it
abbrev pub class_reasons : Known → Class → FileRequestValue → List EntryValue → List ℕ
class_reasons known class asked acl = class_line class
    ++ flat_map (entry_line_if known class asked acl) acl ++ mask_line_if class acl

abbrev pub posix_reasons : Known → FileRequestValue → List EntryValue → List ℕ
posix_reasons known asked acl =
    class_reasons known (class_of acl asked.owner asked.group asked.requester) asked acl

-- ---- NFSv4 lists

-- `K ACE`, K being the entry's place, from 1; empty for a place that the list doesn't have
abbrev pub placed_text : Known → ℕ → Option Nfsace4 → List ℕ
placed_text known place (Some ace) = decimal (place + 1) ++ codes " " ++ ace_text known ace
placed_text known place None = []

-- that of the entry that decides; or `- -` if none does
abbrev pub speaker_text : Known → List Nfsace4 → Option ℕ → List ℕ
speaker_text known aces (Some place) = placed_text known place (slice_get aces place)
speaker_text known aces None = codes "- -"

-- `LETTER K ACE`
abbrev pub bit_line : Known → (Who → Bool) → List Nfsace4 → ℕ → List ℕ
bit_line known applies aces bit = letters_text mask_table bit ++ codes " "
    ++ speaker_text known aces (first_speaker applies bit aces) ++ codes "\n"

-- for a bit that is requested
abbrev pub bit_line_if : Known → (Who → Bool) → ℕ → List Nfsace4 → ℕ → List ℕ
bit_line_if known applies mask aces bit = if has_all mask bit then bit_line known applies aces bit
    else []

-- the bits that permissions mean, each by itself, in the order of the letters
abbrev pub bits_of_permissions : List ℕ
bits_of_permissions = 2 ^ read_data ∷ 2 ^ write_data ∷ 2 ^ append_data ∷ 2 ^ execute ∷ []

-- a line for each of them that is requested
abbrev pub bit_lines : Known → (Who → Bool) → ℕ → List Nfsace4 → List ℕ
bit_lines known applies mask aces =
    flat_map (bit_line_if known applies mask aces) bits_of_permissions

abbrev pub nfs4_reasons : Known → FileRequestValue → List Nfsace4 → List ℕ
nfs4_reasons known asked aces = bit_lines known
    (matches asked.owner asked.group asked.requester) (mask_of asked.request) aces

-- ---- lists of either style

abbrev pub reasons : Known → FileRequestValue → AnyAcl → List ℕ
reasons known asked (Posix acl) = posix_reasons known asked acl
reasons known asked (Nfs4 acl) = nfs4_reasons known asked acl
