-- The first of some requests that somebody loses or gains, as a loop over them finds it.
use Rattle.std.proofs.Common.{List, map}
use Rattle.acl_names.specs.Requester.{Identity}
use Rattle.acl_posix.specs.Perms.{bits_of}
use Rattle.acl_posix.specs.declared.perms.Perms.{Perms}
use Rattle.acl_bridge.specs.Comparison.{Granter}
use Rattle.acl_access.specs.Changes.{ChangesFirst, RequestsAlikeTo}
use Rattle.acl_access.specs.declared.changes.Change.{Change}

module _ (before after : Granter) (requester : Identity) (requests : List Perms) where
  -- what holds of these, the rest, holds of all of the requests
  abbrev pub AreLeft : List Perms → Type 0
  AreLeft rest =
      ((change : Change) → ChangesFirst before after (map bits_of rest) requester change
      → ChangesFirst before after (map bits_of requests) requester change)
      × (RequestsAlikeTo before after (map bits_of rest) requester → RequestsAlikeTo before after (map bits_of requests) requester)
