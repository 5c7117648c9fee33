-- The entries that are named decide.
use Rattle.std.specs.Prelude.{◌≡◌, ℕ, Bool, true, List, Some, IsSomeAnd, slice_get}
use Rattle.std.specs.List.{list_any}
use Rattle.acl_names.specs.Bits.{has}
use Rattle.acl_names.specs.Requester.{Identity}
use Rattle.acl_posix.specs.Access.{grants}
use Rattle.acl_posix.specs.Entry.{EntryValue}
use Rattle.acl_posix.specs.Validity.{IsValid}
use Rattle.acl_nfs4.specs.Ace.{Nfsace4, is_allow}
use Rattle.acl_nfs4.specs.Evaluation.{allows}
use Rattle.acl_nfs4.specs.declared.owners.Owners.{Owners}
use Rattle.acl_nfs4.specs.declared.who.Who.{Who}
use Rattle.acl_queries.specs.Explanation.{class_of}
use Rattle.acl_listing_queries.specs.Via.{gives, is_place_of, speakers_of}

-- A POSIX list grants permissions at once exactly if an entry decides so.
abbrev pub EntriesGrant : Type 0
EntriesGrant =
    (acl : List EntryValue) (owners : Owners) (who : Identity) (perms : ℕ) → IsValid acl
    → grants acl owners.owner owners.group who perms
    ≡ list_any (gives (class_of acl owners.owner owners.group who) acl owners.group who
    (Some perms)) acl

-- Each entry of an NFSv4 list that decides about bits that are granted allows.
abbrev pub NumbersAllow : Type 0
NumbersAllow =
    (applies : Who → Bool) (bits : ℕ) (aces : List Nfsace4) (place : ℕ)
    → ((bit : ℕ) → has bits bit ≡ true → allows applies bit aces ≡ true)
    → is_place_of (speakers_of applies bits aces) place ≡ true
    → IsSomeAnd (slice_get aces place) (λ ace. is_allow ace.kind ≡ true)
