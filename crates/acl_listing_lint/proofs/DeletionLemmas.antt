-- Whoever no entry names is decided about as everybody is.
use Rattle.std.proofs.Common.{◌≡◌, ◌∙◌, ◌&&◌, ◌||◌, ℕ, Bool, true, false, not, cond, List, [], ◌∷◌, Option, Some, None, ap, ap₂, find, option_map, refl, sym, unwrap_or, ◌==◌}
use Rattle.std.specs.List.{list_any, filter}
use Rattle.std.proofs.Math.Bool.{and-true, or-false}
use Rattle.std.proofs.lemmas.Bool.{true≢false}
use Rattle.acl_names.specs.Bits.{has, has_all}
use Rattle.acl_names.specs.Requester.{Identity}
use Rattle.acl_names.proofs.AnyLemmas.{list_any-agree, list_any-filter}
use Rattle.acl_posix.specs.Access.{deciding_set, effective_perms, first_nonempty, grants, is_for_group_of, under_mask, is_under_mask}
use Rattle.acl_posix.specs.Entry.{EntryValue, entries_of, perms_of, same_tag}
use Rattle.acl_posix.specs.declared.entry.Tag.{Tag}
use Rattle.acl_posix.specs.declared.entry.Tag.TheVariants.{Mask, Other, User, UserObj}
use Rattle.acl_posix.proofs.AccessLemmas.{first_dropped, only}
use Rattle.acl_nfs4.specs.Ace.{Nfsace4, decides, is_allow}
use Rattle.acl_nfs4.specs.Evaluation.{allows, grants4, places_of, speaks, verdict}
use Rattle.acl_nfs4.specs.Mask.{execute, mask_of, write_data}
use Rattle.acl_nfs4.specs.Who.{matches}
use Rattle.acl_nfs4.specs.declared.owners.Owners.{Owners}
use Rattle.acl_nfs4.specs.declared.who.Who.{Who}
use Rattle.acl_nfs4.specs.declared.who.Who.TheVariants as who
use Rattle.acl_bridge.specs.Files.{File, file_with, may}
use Rattle.acl_bridge.specs.declared.any_acl.AnyAcl.{AnyAcl}
use Rattle.acl_bridge.specs.declared.any_acl.AnyAcl.TheVariants.{Posix, Nfs4}
use Rattle.acl_access.specs.Deletes.{adds, delete_child, deletes_by, owns, said_of}
use Rattle.acl_listings.specs.Block.{FileValue}
use Rattle.acl_access.specs.declared.rules.Rules.TheVariants.{Linux}
use Rattle.acl_reports.specs.Files.{deciding_list, file_of}
use Rattle.acl_listing_lint.specs.Deletions.{AnybodyDeletes, IsUnnamed, anyone_adds, anyone_deletes, anyone_searches, is_everyone, other_has, said_to_anyone}

first_no : (a b : Bool) → (a || b) ≡ false → a ≡ false
first_no true b none = absurd (true≢false none)
first_no false b none = refl

second_no : (a b : Bool) → (a || b) ≡ false → b ≡ false
second_no true b none = absurd (true≢false none)
second_no false b none = none

module _ (owners : Owners) (requester : Identity) where
  abbrev applies : Who → Bool
  applies = matches owners.owner owners.group requester

  -- ---- POSIX lists

  other_entry : (mask : Option ℕ) (tag : Tag) (perms request : ℕ)
      → (same_tag tag Other && has_all (cond (is_under_mask tag) (under_mask mask perms) perms) request) ≡ (same_tag tag Other && has_all perms request)
  other_entry mask UserObj perms request = refl
  other_entry mask _ perms request = refl

  module _ (acl : List EntryValue) (request : ℕ) (stranger : (requester.uid == owners.owner) ≡ false)
      (none : (list_any (λ (entry : EntryValue). same_tag entry.tag (User requester.uid)) acl || list_any (λ (entry : EntryValue). is_for_group_of requester owners.group entry.tag) acl) ≡ false) where
    abbrev is_user : EntryValue → Bool
    is_user entry = same_tag entry.tag (User requester.uid)

    abbrev is_group : EntryValue → Bool
    is_group entry = is_for_group_of requester owners.group entry.tag

    others_decide : deciding_set acl owners.owner owners.group requester ≡ entries_of Other acl
    others_decide =
        ap (λ b. first_nonempty (cond b (entries_of UserObj acl) [] ∷ entries_of (User requester.uid) acl ∷ filter is_group acl ∷ entries_of Other acl ∷ [])) stranger
        ∙ first_dropped is_user acl (filter is_group acl ∷ entries_of Other acl ∷ []) (first_no (list_any is_user acl) (list_any is_group acl) none)
        ∙ first_dropped is_group acl (entries_of Other acl ∷ []) (second_no (list_any is_user acl) (list_any is_group acl) none)
        ∙ only (entries_of Other acl)

    pub posix_same : grants acl owners.owner owners.group requester request ≡ other_has acl request
    posix_same =
        ap (list_any (λ (entry : EntryValue). has_all (effective_perms acl entry) request)) others_decide
        ∙ sym (list_any-filter (λ (entry : EntryValue). same_tag entry.tag Other) (λ (entry : EntryValue). has_all (effective_perms acl entry) request) acl)
        ∙ list_any-agree (λ (entry : EntryValue). same_tag entry.tag Other && has_all (effective_perms acl entry) request) (λ (entry : EntryValue). same_tag entry.tag Other && has_all entry.perms request)
        (λ entry. other_entry (perms_of Mask acl) entry.tag entry.perms request) acl

  -- ---- NFSv4 lists

  same : (named : Who) → (applies named && not (is_everyone named)) ≡ false → applies named ≡ is_everyone named
  same who.Everyone none = refl
  same who.Owner none = sym (and-true (applies who.Owner)) ∙ none
  same who.Group none = sym (and-true (applies who.Group)) ∙ none
  same (who.User uid) none = sym (and-true (applies (who.User uid))) ∙ none
  same (who.NamedGroup gid) none = sym (and-true (applies (who.NamedGroup gid))) ∙ none

  speaks_same : (bit : ℕ) (ace : Nfsace4) → applies ace.who ≡ is_everyone ace.who → speaks applies bit ace ≡ speaks is_everyone bit ace
  unfolding speaks
  speaks_same bit ace is = ap (λ b. decides ace && (b && has ace.mask bit)) is

  abbrev names_ace : Nfsace4 → Bool
  names_ace ace = applies ace.who && not (is_everyone ace.who)

  find_same : (bit : ℕ) (aces : List Nfsace4) → list_any names_ace aces ≡ false → find (speaks applies bit) aces ≡ find (speaks is_everyone bit) aces
  find_same bit [] none = refl
  find_same bit (ace ∷ aces) none =
      ap₂ (λ (b : Bool) (rest : Option Nfsace4). cond b (Some ace) rest)
      (speaks_same bit ace (same ace.who (first_no (names_ace ace) (list_any names_ace aces) none)))
      (find_same bit aces (second_no (names_ace ace) (list_any names_ace aces) none))

  verdict_same : (bit : ℕ) (aces : List Nfsace4) → list_any names_ace aces ≡ false → verdict applies bit aces ≡ verdict is_everyone bit aces
  verdict_same bit aces none = ap (option_map (λ (ace : Nfsace4). is_allow ace.kind)) (find_same bit aces none)

  searches_same : (aces : List Nfsace4) → list_any names_ace aces ≡ false → grants4 aces owners.owner owners.group requester (mask_of 1) ≡ allows is_everyone execute aces
  unfolding has mask_of places_of
  searches_same aces none = and-true (allows applies 5 aces) ∙ ap (λ said. unwrap_or said false) (verdict_same 5 aces none)

-- ---- either

searches : (list : AnyAcl) (owners : Owners) (requester : Identity) → IsUnnamed (file_with owners list) requester → may (file_with owners list) requester 1 ≡ anyone_searches list
searches (Posix acl) owners requester is = posix_same owners requester acl 1 is.owner is.entries
searches (Nfs4 aces) owners requester is = searches_same owners requester aces is.entries

adds_same : (list : AnyAcl) (owners : Owners) (requester : Identity) → IsUnnamed (file_with owners list) requester → adds (file_with owners list) requester ≡ anyone_adds list
adds_same (Posix acl) owners requester is = posix_same owners requester acl 3 is.owner is.entries
adds_same (Nfs4 aces) owners requester is = ap (λ said. unwrap_or said false) (verdict_same owners requester write_data aces is.entries)

said_same : (list : AnyAcl) (owners : Owners) (requester : Identity) → IsUnnamed (file_with owners list) requester → said_of (file_with owners list) requester delete_child ≡ said_to_anyone list
said_same (Posix acl) owners requester is = refl
said_same (Nfs4 aces) owners requester is = verdict_same owners requester delete_child aces is.entries

-- with the sticky bit, but for what is theirs
free : (sticky a b : Bool) → a ≡ false → b ≡ false → (not sticky || a || b) ≡ not sticky
free sticky a b one other = ap₂ (λ (a b : Bool). not sticky || a || b) one other ∙ or-false (not sticky || false) ∙ or-false (not sticky)

pub anybody_deletes : AnybodyDeletes
anybody_deletes sticky folder file requester is others =
    let list = folder.list in
    let owners = folder.owners in
    ap₂ (λ (a b : Bool). a && b) (searches list owners requester is)
    (ap (λ said. deletes_by said (said_of folder requester delete_child) (adds folder requester && (not sticky || owns folder requester || owns file requester))) others.silent
    ∙ ap (λ said. deletes_by None said (adds folder requester && (not sticky || owns folder requester || owns file requester))) (said_same list owners requester is)
    ∙ ap₂ (λ (a b : Bool). deletes_by None (said_to_anyone list) (a && b)) (adds_same list owners requester is) (free sticky (owns folder requester) (owns file requester) is.owner others.owner))

-- a listed file is open by the list that decides access to it
pub open_by : (sticky : Bool) (owners : Owners) (list : AnyAcl) (file : FileValue) → file_with owners list ≡ file_of Linux file
    → anyone_deletes sticky list ≡ anyone_deletes sticky (deciding_list Linux file.lists)
open_by sticky owners list file is = ap (λ (file : File). anyone_deletes sticky file.list) is
