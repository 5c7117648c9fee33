-- How many entries a list with a mode set has at most.
use Rattle.std.proofs.Common.{◌≤◌, ◌+◌, ◌*◌, ◌&&◌, ℕ, Bool, true, false, cond, not, List, [], ◌∷◌, ◌++◌, length, map, filter, arith, length-append}
use Rattle.std.specs.List.{flat_map}
use Rattle.std.proofs.lemmas.List.{length-map}
use Rattle.acl_names.specs.Bits.{without, ◌∪◌}
use Rattle.acl_nfs4.specs.Ace.{Nfsace4, decides, is_inheritable, unless_empty}
use Rattle.acl_nfs4.specs.Flags.{inheritance_flags}
use Rattle.acl_nfs4.specs.ModeChange.{denial_of, denials, denied_to, for_others, for_owner, kept_mask, kept_of_entry, kept_of_list, kept_of_part, named_whos, names_someone, split, with_denials, without_repeats}
use Rattle.acl_nfs4.specs.Who.{flags_of_who, same_who}
use Rattle.acl_nfs4.specs.declared.ace.AceType.TheVariants.{Deny}
use Rattle.acl_nfs4.specs.declared.who.Who.{Who}
use Rattle.acl_posix.specs.Mode.{Classes}
use Rattle.acl_wire.specs.Keeping.{all_perms, left_of_entry, left_of_list, with_mode_keep}
use Rattle.acl_wire.proofs.CreationLemmas.{few, one}

each-one : {X Y : Type 0} (f : X → List Y) → ((x : X) → length (f x) ≤ 1) → (xs : List X) → length (flat_map f xs) ≤ length xs
each-one f at [] = omega arith
each-one f at (x ∷ xs) = omega (arith, at x, each-one f at xs, length-append (f x) (flat_map f xs))

each-two : {X Y : Type 0} (f : X → List Y) → ((x : X) → length (f x) ≤ 2) → (xs : List X) → length (flat_map f xs) ≤ 2 * length xs
each-two f at [] = omega arith
each-two f at (x ∷ xs) = omega (arith, at x, each-two f at xs, length-append (f x) (flat_map f xs))

filtered : {X : Type 0} (p : X → Bool) (xs : List X) → length (filter p xs) ≤ length xs
filtered p [] = omega arith
filtered {X} p (x ∷ xs) = by (p x) (filtered p xs)
  where
    by : (b : Bool) → length (filter p xs) ≤ length xs → length (cond b (x ∷ filter p xs) (filter p xs)) ≤ length (x ∷ xs)
    by true fewer = omega (arith, fewer)
    by false fewer = omega (arith, fewer)

-- ---- what the entries leave

of_part : (group : ℕ) (ace : Nfsace4) → length (kept_of_part group ace) ≤ 1
unfolding kept_of_part
of_part group ace = by (decides ace)
  where
    by : (b : Bool) → length (cond b (unless_empty (record ace { mask = kept_mask group ace })) (ace ∷ [])) ≤ 1
    by true = one (record ace { mask = kept_mask group ace })
    by false = omega arith

of_split : (ace : Nfsace4) → length (split ace) ≤ 2
unfolding split
of_split ace = by (decides ace && is_inheritable ace)
  where
    by : (b : Bool) → length (cond b (record ace { flags = ace.flags ∪ 8 } ∷ record ace { flags = without ace.flags inheritance_flags } ∷ []) (ace ∷ [])) ≤ 2
    by true = omega arith
    by false = omega arith

kept-most : (group : ℕ) (aces : List Nfsace4) → length (kept_of_list group aces) ≤ 2 * length aces
kept-most group aces =
    let parts = each-two split of_split aces in
    omega (arith, parts, each-one (kept_of_part group) (of_part group) (flat_map split aces))

-- ---- what is denied

unrepeated : (whos : List Who) → length (without_repeats whos) ≤ length whos
unrepeated [] = omega arith
unrepeated (who ∷ rest) = omega (arith, unrepeated rest, filtered (λ other. not (same_who other who)) (without_repeats rest))

denied-most : (bits : ℕ) (aces : List Nfsace4) → length (denials bits aces) ≤ length aces
denied-most bits aces =
    let each : length (denials bits aces) ≤ length (named_whos aces) =
    each-one (denial_of bits aces) (λ who. one (record { kind = Deny; flags = flags_of_who who; who = who; mask = without bits (denied_to who aces) })) (named_whos aces) in
    omega (arith, each, unrepeated (map (λ (ace : Nfsace4). ace.who) (filter names_someone aces)), length-map (filter names_someone aces) (λ (ace : Nfsace4). ace.who), filtered names_someone aces)

-- ---- all

pub most : (bits : ℕ) (aces : List Nfsace4) (mode : Classes) → length (with_denials bits aces mode) ≤ 3 * length aces + 5
most bits aces mode =
    let front = for_owner mode.user in
    let kept = kept_of_list mode.group aces in
    let denied = denials bits aces in
    let back = for_others mode.group mode.other in
    let none = length-append front [] in
    let none_denied = length-append (front ++ []) [] in
    let alone = length-append ((front ++ []) ++ []) back in
    let with_kept = length-append front kept in
    let with_denied = length-append (front ++ kept) denied in
    let whole = length-append ((front ++ kept) ++ denied) back in
    omega (arith, few mode, none, none_denied, alone, with_kept, with_denied, whole, kept-most mode.group aces, denied-most bits aces)

-- ---- with the named left

left-one : (ace : Nfsace4) → length (left_of_entry ace) ≤ 2
left-one ace = by (names_someone ace)
  where
    by : (b : Bool) → length (cond b (ace ∷ []) (kept_of_entry all_perms ace)) ≤ 2
    by true = omega arith
    by false =
        let parts = each-one (kept_of_part all_perms) (of_part all_perms) (split ace) in
        omega (arith, parts, of_split ace)

pub most-left : (aces : List Nfsace4) (mode : Classes) → length (with_mode_keep aces mode) ≤ 3 * length aces + 5
most-left aces mode =
    let front = for_owner mode.user in
    let left = left_of_list aces in
    let back = for_others mode.group mode.other in
    let none = length-append front [] in
    let none_denied = length-append (front ++ []) [] in
    let alone = length-append ((front ++ []) ++ []) back in
    let with_left = length-append left back in
    let whole = length-append front (left ++ back) in
    omega (arith, few mode, none, none_denied, alone, with_left, whole, each-two left_of_entry left-one aces)
