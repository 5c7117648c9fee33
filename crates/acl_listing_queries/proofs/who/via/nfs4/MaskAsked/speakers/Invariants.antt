use Rattle.std.proofs.Common.{◌≡◌, map, take}
use Rattle.std.specs.List.{flat_map}
use Rattle.acl_nfs4.specs.Mask.{mask_bits}
use Rattle.acl_nfs4.specs.Who.{matches}
use Rattle.acl_listing_queries.specs.Via.{speaker_of}
use Rattle.acl_listing_queries.proofs.who.via.nfs4.MaskAsked.speakers.Given as goal

-- the places of those who speak first of the bits so far
abbrev pub invariant-loop-bit : goal.invariant-loop-bit
invariant-loop-bit l =
    l.places.items ≡ flat_map (speaker_of (matches l.self.owners.owner l.self.owners.group l.self.requester.now) (mask_bits l.self.bits) l.self.acl.now) (map mask_bits (take l.bit-index l.bits))
