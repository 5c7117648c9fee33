-- Folders in which anybody may delete what others own.
use Rattle.std.specs.Prelude.{◌≡◌, ℕ, ◌&&◌, ◌||◌, Bool, false, not, List, Option, None}
use Rattle.std.specs.List.{list_any}
use Rattle.acl_access.specs.Deletes.{delete, delete_child, deletes, deletes_by, owns, said_of}
use Rattle.acl_bridge.specs.Files.{File, may}
use Rattle.acl_bridge.specs.declared.any_acl.AnyAcl.{AnyAcl}
use Rattle.acl_bridge.specs.declared.any_acl.AnyAcl.TheVariants.{Posix, Nfs4}
use Rattle.acl_names.specs.Bits.{has_all}
use Rattle.acl_names.specs.Requester.{Identity}
use Rattle.acl_nfs4.specs.Evaluation.{allows, verdict}
use Rattle.acl_nfs4.specs.Mask.{execute, write_data}
use Rattle.acl_nfs4.specs.Who.{matches, same_who}
use Rattle.acl_nfs4.specs.declared.owners.Owners.{Owners}
use Rattle.acl_nfs4.specs.declared.who.Who.{Who}
use Rattle.acl_nfs4.specs.declared.who.Who.TheVariants.{Everyone}
use Rattle.acl_posix.specs.Access.{is_for_group_of}
use Rattle.acl_posix.specs.Entry.{EntryValue, same_tag}
use Rattle.acl_posix.specs.declared.entry.Tag.TheVariants.{Other, User}

-- ---- what a list says to those whom it doesn't name

abbrev pub is_everyone : Who → Bool
is_everyone who = same_who who Everyone

-- the entry for the others has all of the request
abbrev pub other_has : List EntryValue → ℕ → Bool
other_has acl request =
    list_any (λ entry. same_tag entry.tag Other && has_all entry.perms request) acl

abbrev pub anyone_searches : AnyAcl → Bool
anyone_searches (Posix acl) = other_has acl 1
anyone_searches (Nfs4 aces) = allows is_everyone execute aces

abbrev pub anyone_adds : AnyAcl → Bool
anyone_adds (Posix acl) = other_has acl 3
anyone_adds (Nfs4 aces) = allows is_everyone write_data aces

-- what it says of DELETE_CHILD
abbrev pub said_to_anyone : AnyAcl → Option Bool
said_to_anyone (Posix acl) = None
said_to_anyone (Nfs4 aces) = verdict is_everyone delete_child aces

-- anybody may delete what is in a folder with this list, but for what they may not with the sticky
-- bit
abbrev pub anyone_deletes : Bool → AnyAcl → Bool
anyone_deletes sticky list = anyone_searches list
    && deletes_by None (said_to_anyone list) (anyone_adds list && not sticky)

-- ---- that this is what `who --delete` says

-- an entry is about the requester, and not about everybody
abbrev pub names : AnyAcl → Owners → Identity → Bool
names (Posix acl) owners who = list_any (λ entry. same_tag entry.tag (User who.uid)) acl
    || list_any (λ entry. is_for_group_of who owners.group entry.tag) acl
names (Nfs4 aces) owners who = list_any
    (λ ace. matches owners.owner owners.group who ace.who && not (is_everyone ace.who)) aces

-- somebody who doesn't own the folder, and whom no entry names
pub record IsUnnamed (folder : File) (who : Identity) : Type 0 where
  pub owner : owns folder who ≡ false
  pub entries : names folder.list folder.owners who ≡ false

-- somebody else's file, whose list doesn't speak of DELETE to them
pub record IsOthers (file : File) (who : Identity) : Type 0 where
  pub owner : owns file who ≡ false
  pub silent : said_of file who delete ≡ None

-- they may search the folder and delete the file there exactly if anybody may
abbrev pub AnybodyDeletes : Type 0
AnybodyDeletes = (sticky : Bool) (folder file : File) (who : Identity) → IsUnnamed folder who
    → IsOthers file who
    → (may folder who 1 && deletes sticky folder file who) ≡ anyone_deletes sticky folder.list
