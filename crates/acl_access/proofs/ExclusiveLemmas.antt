-- Who loses or gains something isn't decided about alike.
use Rattle.std.proofs.Common.{◌∙◌, ◌||◌, inl, inr, ℕ, List, [], ◌∷◌, ap, sym}
use Rattle.acl_names.specs.Bits.{has, ◌∪◌}
use Rattle.acl_names.specs.Requester.{Identity}
use Rattle.acl_names.proofs.BitSets.{has-or, no_bits}
use Rattle.acl_names.proofs.AnyLemmas.{not_one_alone}
use Rattle.acl_nfs4.specs.Comparison.{Decider}
use Rattle.acl_nfs4.specs.Mask.{mask_bits}
use Rattle.acl_bridge.specs.Comparison.{Granter}
use Rattle.acl_bridge.specs.Files.{decider_of, may}
use Rattle.acl_bridge.specs.Lists.{bits_between, requests_between}
use Rattle.acl_access.specs.Changes.{BitsAlikeTo, ChangesAreNotAlike, ChangesBits, ChangesFirst, RequestsAlikeTo}
use Rattle.acl_access.specs.declared.changes.Change.{Change}

nothing_changes : (before after : Decider) (bits : ℕ) (requester : Identity) (change : Change) → BitsAlikeTo before after bits requester
    → ChangesBits before after bits requester change → ⊥
nothing_changes before after bits requester change alike is =
    is.some (no_bits (mask_bits change.lost ∪ mask_bits change.gained) (λ bit.
    has-or (mask_bits change.lost) (mask_bits change.gained) bit
    ∙ ap (λ lost. lost || has (mask_bits change.gained) bit) (is.lost bit ∙ not_one_alone (has bits bit) (before requester bit) (after requester bit) (alike bit))
    ∙ is.gained bit ∙ not_one_alone (has bits bit) (after requester bit) (before requester bit) (λ asked. sym (alike bit asked))))

no_first : (before after : Granter) (requests : List ℕ) (requester : Identity) (change : Change) → RequestsAlikeTo before after requests requester
    → ChangesFirst before after requests requester change → ⊥
no_first before after [] requester change alike never = never
no_first before after (request ∷ more) requester change (here, later) (inl is) = is.apart here
no_first before after (request ∷ more) requester change (here, later) (inr (same, rest)) = no_first before after more requester change later rest

pub changes_are_not_alike : ChangesAreNotAlike
changes_are_not_alike before after requester change alike (inl is) =
    nothing_changes (decider_of before) (decider_of after) (bits_between before.list after.list) requester change alike.bits is
changes_are_not_alike before after requester change alike (inr (bits, first)) =
    no_first (may before) (may after) (requests_between before.list after.list) requester change alike.requests first
