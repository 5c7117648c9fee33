-- Nodes that are alike for all are checked alike.
use Rattle.std.proofs.Common.{◌≡◌, ◌⊎◌, ◌∙◌, ◌<◌, ℕ, zero, suc, inl, inr, List, [], ◌∷◌, Bool, true, false, cond, ◌&&◌, Option, IsSomeAnd, Ok, refl, sym, ap, ap₂, subst, arith}
use Rattle.std.specs.List.{filter, list_all, range_with_len}
use Rattle.acl_names.specs.Bits.{has, ◌∩◌}
use Rattle.acl_names.specs.Directory.{requester_of}
use Rattle.acl_names.specs.Requester.{Identity}
use Rattle.acl_names.proofs.BitSets.{has-and}
use Rattle.acl_posix.specs.Access.{grants}
use Rattle.acl_posix.specs.Entry.{EntryValue}
use Rattle.acl_nfs4.specs.Ace.{Nfsace4}
use Rattle.acl_nfs4.specs.Comparison.{decided_by}
use Rattle.acl_nfs4.specs.Evaluation.{allows, grants4, places_of}
use Rattle.acl_nfs4.specs.Mask.{all_masks, mask_of, mode_bits}
use Rattle.acl_nfs4.specs.Who.{matches}
use Rattle.acl_nfs4.specs.declared.owners.Owners.{Owners}
use Rattle.acl_bridge.specs.Comparison.{granted_by}
use Rattle.acl_bridge.specs.Files.{File, file_with, list_grants}
use Rattle.acl_bridge.specs.declared.any_acl.AnyAcl.{AnyAcl}
use Rattle.acl_bridge.specs.declared.any_acl.AnyAcl.TheVariants.{Posix, Nfs4}
use Rattle.acl_access.specs.Changes.{BitsAlikeTo, IsAlikeTo}
use Rattle.acl_tree.specs.Commands.{granted_or_denied}
use Rattle.acl_tree.specs.NodeAcls.{deciding_list}
use Rattle.acl_tree.specs.Nodes.{file_of, may, owners_of}
use Rattle.acl_tree.specs.Shape.{KeepsKindAndOwners}
use Rattle.acl_tree.specs.TreeLaws.{after_all}
use Rattle.acl_tree.specs.declared.node.Node.{Node}
use Rattle.acl_tree.proofs.TreeLaws.{nodes_stay}
use Rattle.acl_audit.specs.Checks.{AlikeNodesAreCheckedAlike, IsVouchedFor}
use Rattle.acl_audit.proofs.LetterLemmas.{check-there}

-- ---- NFSv4 lists, by the places of a mask

all_alike : (set : ℕ) (f g : ℕ → Bool) → ((bit : ℕ) → has set bit ≡ true → f bit ≡ g bit) → (xs : List ℕ)
    → list_all f (filter (has set) xs) ≡ list_all g (filter (has set) xs)
all_alike set f g same [] = refl
all_alike set f g same (x ∷ xs) = by (has set x) refl (all_alike set f g same xs)
  where
    by : (b : Bool) → has set x ≡ b → list_all f (filter (has set) xs) ≡ list_all g (filter (has set) xs)
        → list_all f (cond b (x ∷ filter (has set) xs) (filter (has set) xs)) ≡ list_all g (cond b (x ∷ filter (has set) xs) (filter (has set) xs))
    by true e rest = ap₂ (λ a b. a && b) (same x e) rest
    by false e rest = rest

-- what stands for permissions has a name
named : (perms : ℕ) → perms < 8 → mask_of perms ∩ all_masks ≡ mask_of perms
unfolding mask_of has
named zero small = refl
named (suc zero) small = refl
named (suc (suc zero)) small = refl
named (suc (suc (suc zero))) small = refl
named (suc (suc (suc (suc zero)))) small = refl
named (suc (suc (suc (suc (suc zero))))) small = refl
named (suc (suc (suc (suc (suc (suc zero)))))) small = refl
named (suc (suc (suc (suc (suc (suc (suc zero))))))) small = refl
named (suc (suc (suc (suc (suc (suc (suc (suc n)))))))) small = absurd (omega arith)

and_right : (a b c : Bool) → c ≡ (a && b) → c ≡ true → b ≡ true
and_right true b c e t = sym e ∙ t
and_right false b c e t = absurd (cc)

in_all : (perms bit : ℕ) → perms < 8 → has (mask_of perms) bit ≡ true → has all_masks bit ≡ true
in_all perms bit small there =
    and_right (has (mask_of perms) bit) (has all_masks bit) (has (mask_of perms) bit)
    (sym (ap (λ m. has m bit) (named perms small)) ∙ has-and (mask_of perms) all_masks bit) there

module _ (owner group : ℕ) (who : Identity) where
  abbrev owners : Owners
  owners = record { owner = owner; group = group }

  -- files of this owner and this group
  abbrev file : AnyAcl → File
  file = file_with owners

  nfs4_alike : (before after : List Nfsace4) (perms : ℕ) → perms < 8 → IsAlikeTo (file (Nfs4 before)) (file (Nfs4 after)) who
      → grants4 before owner group who (mask_of perms) ≡ grants4 after owner group who (mask_of perms)
  unfolding places_of
  nfs4_alike before after perms small alike =
      all_alike (mask_of perms) (λ bit. allows (matches owner group who) bit before) (λ bit. allows (matches owner group who) bit after)
      (λ bit there. alike.bits bit (in_all perms bit small there)) (range_with_len 0 32)

  -- ---- POSIX lists

  posix_alike : (before after : List EntryValue) (perms : ℕ) → 0 < perms → perms < 8
      → IsAlikeTo (file (Posix before)) (file (Posix after)) who → grants before owner group who perms ≡ grants after owner group who perms
  unfolding has
  posix_alike before after zero some small alike = absurd (omega arith)
  posix_alike before after (suc zero) some small alike = alike.bits 5 refl
  posix_alike before after (suc (suc zero)) some small alike = alike.bits 1 refl
  posix_alike before after (suc (suc (suc zero))) some small alike = alike.requests.1.1.0
  posix_alike before after (suc (suc (suc (suc zero)))) some small alike = alike.bits 0 refl
  posix_alike before after (suc (suc (suc (suc (suc zero))))) some small alike = alike.requests.1.0
  posix_alike before after (suc (suc (suc (suc (suc (suc zero)))))) some small alike = alike.requests.0
  posix_alike before after (suc (suc (suc (suc (suc (suc (suc zero))))))) some small alike = alike.requests.1.1.1.0
  posix_alike before after (suc (suc (suc (suc (suc (suc (suc (suc n)))))))) some small alike = absurd (omega arith)

  -- ---- lists of either style, one permission at a time

  once : (a : Bool) → a ≡ (a && true)
  once true = refl
  once false = refl

  twice : (a : Bool) → a ≡ (a && (a && true))
  twice true = refl
  twice false = refl

  module _ (acl : List EntryValue) (aces : List Nfsace4) (alike : BitsAlikeTo (granted_by acl owner group) (decided_by aces owner group) mode_bits who) where
    of_read : grants acl owner group who 4 ≡ grants4 aces owner group who (mask_of 4)
    unfolding has mask_of places_of
    of_read = once (grants acl owner group who 4) ∙ ap (λ (a : Bool). a && true) (alike 0 refl)

    of_write : grants acl owner group who 2 ≡ grants4 aces owner group who (mask_of 2)
    unfolding has mask_of places_of
    of_write = twice (grants acl owner group who 2) ∙ ap₂ (λ (a b : Bool). a && (b && true)) (alike 1 refl) (alike 2 refl)

    of_execute : grants acl owner group who 1 ≡ grants4 aces owner group who (mask_of 1)
    unfolding has mask_of places_of
    of_execute = once (grants acl owner group who 1) ∙ ap (λ (a : Bool). a && true) (alike 5 refl)

    cross_alike : (perms : ℕ) → (perms ≡ 4) ⊎ (perms ≡ 2) ⊎ (perms ≡ 1) → grants acl owner group who perms ≡ grants4 aces owner group who (mask_of perms)
    cross_alike perms (inl read) = subst (λ (p : ℕ). grants acl owner group who p ≡ grants4 aces owner group who (mask_of p)) (sym read) of_read
    cross_alike perms (inr (inl write)) = subst (λ (p : ℕ). grants acl owner group who p ≡ grants4 aces owner group who (mask_of p)) (sym write) of_write
    cross_alike perms (inr (inr execute)) = subst (λ (p : ℕ). grants acl owner group who p ≡ grants4 aces owner group who (mask_of p)) (sym execute) of_execute

  grants_alike : (before after : AnyAcl) (perms : ℕ) → IsAlikeTo (file before) (file after) who → IsVouchedFor before after perms
      → list_grants after owners who perms ≡ list_grants before owners who perms
  grants_alike (Posix before) (Posix after) perms alike vouched =
      sym (posix_alike before after perms vouched.0 vouched.1 alike)
  grants_alike (Nfs4 before) (Nfs4 after) perms alike vouched = sym (nfs4_alike before after perms vouched alike)
  grants_alike (Posix before) (Nfs4 after) perms alike vouched = sym (cross_alike before after alike.bits perms vouched)
  grants_alike (Nfs4 before) (Posix after) perms alike vouched =
      cross_alike after before (λ bit asked. sym (alike.bits bit asked)) perms vouched

pub alike_nodes_are_checked_alike : AlikeNodesAreCheckedAlike
alike_nodes_are_checked_alike directory tree requests path old new was is alike uid perms vouched =
    let who = requester_of directory uid in
    let before = deciding_list old.acl in
    let after = deciding_list new.acl in
    let keeps : KeepsKindAndOwners old new =
    subst (λ (found : Option Node). IsSomeAnd found (KeepsKindAndOwners old)) is (nodes_stay directory tree requests path old was) in
    let here : IsAlikeTo (file_of old) (file_of new) who = alike who in
    let same_owners : owners_of new ≡ owners_of old = ap₂ (λ (o g : ℕ). record { owner = o; group = g }) keeps.owner keeps.group in
    let at_new : IsAlikeTo (file_with (owners_of new) before) (file_of new) who =
    subst (λ (owners : Owners). IsAlikeTo (file_with owners before) (file_of new) who) (sym same_owners) here in
    let same : may new who perms ≡ may old who perms =
    grants_alike new.owner new.group who before after perms at_new vouched
    ∙ ap (λ (owners : Owners). list_grants before owners who perms) same_owners in
    check-there directory (after_all directory tree requests) path new uid perms is
    ∙ ap (λ (b : Bool). Ok (granted_or_denied b)) same
    ∙ sym (check-there directory tree path old uid perms was)
