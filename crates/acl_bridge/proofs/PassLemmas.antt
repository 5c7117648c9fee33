-- What the passes make.
use Rattle.std.proofs.Common.{◌≡◌, ℕ, suc, ◌^◌, ◌≤◌, Bool, true, false, cond, ◌<◌, refl, sym, ap, ◌∙◌}
use Rattle.std.proofs.Common.{ap₂, subst, List, [], ◌∷◌, ◌++◌, length, get_or, drop, append-nil}
use Rattle.std.proofs.Common.{length-append, arith, drop-cons, flat_map, ◌==◌, Result, Ok, Err, IfOk, All}
use Rattle.std.proofs.lemmas.List.Elements.{All-nil, All-cons, All-head, All-tail, All-append, All-filter}
use Rattle.std.specs.Int.Bits.{or_zero_r}
use Rattle.acl_names.specs.Bits.{has, without, ◌∩◌, ◌∪◌}
use Rattle.acl_posix.specs.Access.{effective_perms}
use Rattle.acl_posix.specs.Entry.{EntryValue}
use Rattle.acl_nfs4.specs.Ace.{Nfsace4, ace_of, flags_for, is_idle, plain_ace, unless_empty}
use Rattle.acl_nfs4.specs.Flags.{all_flags, identifier_group}
use Rattle.acl_nfs4.specs.Mask.{all_masks, mask_of, rest_of}
use Rattle.acl_nfs4.specs.Who.{flags_of_who, who_of}
use Rattle.acl_nfs4.specs.declared.ace.AceType.{AceType}
use Rattle.acl_nfs4.specs.declared.ace.AceType.TheVariants.{Allow, Deny}
use Rattle.acl_nfs4.specs.declared.who.Who.{Who}
use Rattle.acl_bridge.specs.Effects.{flags_of, with_effect}
use Rattle.acl_bridge.specs.Translation.{is_in, in_class, aces_for, aces_of_entry, aces_of_pass, passes, translation, with_flags}
use Rattle.acl_bridge.specs.declared.passes.Class.{Class}
use Rattle.acl_bridge.specs.declared.passes.Part.{Part}
use Rattle.acl_bridge.specs.declared.passes.Part.TheVariants.{Allowed, Denied, Settled}
use Rattle.acl_bridge.specs.declared.passes.Effect.{Effect}
use Rattle.acl_bridge.specs.declared.passes.Effect.TheVariants.{Here, Below}
use Rattle.acl_nfs4.proofs.AceLemmas.{by_flags_of_who}

-- ---- one entry

-- an entry with no flags of its own
abbrev pub bare : AceType → Who → ℕ → Nfsace4
bare kind who mask = record { kind = kind; flags = flags_of_who who; who = who; mask = mask }

flags_for-effect : (effect : Effect) (who : Who) → flags_for who (flags_of effect ∩ all_flags) ≡ flags_of_who who ∪ flags_of effect
unfolding without
flags_for-effect Here = by_flags_of_who (λ flags. without (flags_of Here ∩ all_flags) (2 ^ identifier_group) ∪ flags ≡ flags ∪ flags_of Here) refl refl
flags_for-effect Below = by_flags_of_who (λ flags. without (flags_of Below ∩ all_flags) (2 ^ identifier_group) ∪ flags ≡ flags ∪ flags_of Below) refl refl

pub ace_of-effect : (kind : AceType) (effect : Effect) (who : Who) (mask flags : ℕ) → flags ≡ flags_of effect → mask ∩ all_masks ≡ mask
    → ace_of kind flags who mask ≡ with_flags (flags_of effect) (bare kind who mask)
ace_of-effect kind effect who mask flags is known =
    ap (λ (f : ℕ). ace_of kind f who mask) is
    ∙ ap₂ (λ (f m : ℕ). record { kind = kind; flags = f; who = who; mask = m }) (flags_for-effect effect who) known

pub is_idle-effect : (kind : AceType) (effect : Effect) (who : Who) (mask : ℕ)
    → is_idle (with_flags (flags_of effect) (bare kind who mask)) ≡ false
unfolding has
is_idle-effect kind Here who mask = by_flags_of_who (λ flags. is_idle (with_flags (flags_of Here) (record { kind = kind; flags = flags; who = who; mask = mask })) ≡ false) refl refl who
is_idle-effect kind Below who mask = by_flags_of_who (λ flags. is_idle (with_flags (flags_of Below) (record { kind = kind; flags = flags; who = who; mask = mask })) ≡ false) refl refl who

-- an entry is left out if its mask is empty, and else stands
pub plain-empty : (kind : AceType) (who : Who) (mask : ℕ) → (mask == 0) ≡ true → plain_ace kind who mask ≡ []
unfolding unless_empty
plain-empty kind who mask empty = ap (λ (b : Bool). cond b [] (bare kind who mask ∷ [])) empty

pub plain-full : (kind : AceType) (who : Who) (mask : ℕ) → (mask == 0) ≡ false → plain_ace kind who mask ≡ bare kind who mask ∷ []
unfolding unless_empty
plain-full kind who mask full = ap (λ (b : Bool). cond b [] (bare kind who mask ∷ [])) full

-- ---- lists

pub with_effect-append : (effect : Effect) (xs ys : List Nfsace4) → with_effect effect (xs ++ ys) ≡ with_effect effect xs ++ with_effect effect ys
with_effect-append effect [] ys = refl
with_effect-append effect (x ∷ xs) ys = ap (λ (rest : List Nfsace4). with_flags (flags_of effect) x ∷ rest) (with_effect-append effect xs ys)

pub length-with_effect : (effect : Effect) (xs : List Nfsace4) → length (with_effect effect xs) ≡ length xs
length-with_effect effect [] = refl
length-with_effect effect (x ∷ xs) = omega (arith, length-with_effect effect xs)

-- what takes effect here is as it is
pub with_effect-here : (xs : List Nfsace4) → with_effect Here xs ≡ xs
with_effect-here [] = refl
with_effect-here (x ∷ xs) = ap₂ (λ (f : ℕ) (rest : List Nfsace4). record x { flags = f } ∷ rest) (or_zero_r x.flags) (with_effect-here xs)

-- ---- one more entry

pub made-empty : (effect : Effect) (old : List Nfsace4) (kind : AceType) (who : Who) (mask : ℕ) → (mask == 0) ≡ true
    → old ≡ old ++ with_effect effect (plain_ace kind who mask)
made-empty effect old kind who mask empty =
    sym (ap (λ (xs : List Nfsace4). old ++ with_effect effect xs) (plain-empty kind who mask empty) ∙ append-nil old)

pub made-full : (effect : Effect) (old : List Nfsace4) (kind : AceType) (who : Who) (mask : ℕ) (ace : Nfsace4) → (mask == 0) ≡ false
    → ace ≡ with_flags (flags_of effect) (bare kind who mask) → old ++ ace ∷ [] ≡ old ++ with_effect effect (plain_ace kind who mask)
made-full effect old kind who mask ace full is =
    ap (λ (made : Nfsace4). old ++ made ∷ []) is
    ∙ sym (ap (λ (xs : List Nfsace4). old ++ with_effect effect xs) (plain-full kind who mask full))

pub room-full : {most : ℕ} (effect : Effect) (old : List Nfsace4) (kind : AceType) (who : Who) (mask : ℕ) → (mask == 0) ≡ false
    → length (old ++ with_effect effect (plain_ace kind who mask)) ≤ most → length old < most
room-full {most} effect old kind who mask full room =
    let one : length (plain_ace kind who mask) ≡ 1 = ap (λ (xs : List Nfsace4). length xs) (plain-full kind who mask full) in
    let same = length-with_effect effect (plain_ace kind who mask) in
    let both = length-append old (with_effect effect (plain_ace kind who mask)) in
    omega arith

-- ---- a pass, and all of them

module _ (effect : Effect) (acl : List EntryValue) (old whole : List Nfsace4) where
  -- what is made next is no longer than all that is still to be made
  room-next : (all made rest : List Nfsace4) → all ≡ made ++ rest → old ++ with_effect effect all ≡ whole
      → length (old ++ with_effect effect made) ≤ length whole
  room-next all made rest is joined =
      let lengths = ap (λ (xs : List Nfsace4). length xs) joined in
      let parts = ap (λ (xs : List Nfsace4). length (old ++ with_effect effect xs)) is in
      let apart = ap (λ (xs : List Nfsace4). length (old ++ xs)) (with_effect-append effect made rest) in
      let n1 = length-append old (with_effect effect made ++ with_effect effect rest) in
      let n2 = length-append (with_effect effect made) (with_effect effect rest) in
      let n3 = length-append old (with_effect effect made) in
      omega arith

  -- the pass at hand makes no more than all of them
  pub passes-room : (i : ℕ) (default : Class × Part) → i < length passes
      → old ++ with_effect effect (flat_map (λ pass. aces_of_pass pass acl) (drop i passes)) ≡ whole
      → length (old ++ with_effect effect (aces_of_pass (get_or passes i default) acl)) ≤ length whole
  passes-room i default inside =
      room-next _ (aces_of_pass (get_or passes i default) acl) (flat_map (λ pass. aces_of_pass pass acl) (drop (suc i) passes))
      (ap (flat_map (λ pass. aces_of_pass pass acl)) (drop-cons passes i default inside))

-- ---- each entry of a translation

All-flat_map : {X Y : Type 0} (P : X → Type 0) (Q : Y → Type 0) (f : X → List Y) → ((x : X) → P x → All Q (f x)) → (xs : List X)
    → All P xs → All Q (flat_map f xs)
All-flat_map P Q f each [] all = All-nil Q
All-flat_map P Q f each (x ∷ xs) all =
    All-append Q (f x) (flat_map f xs) (each x (All-head P x xs all)) (All-flat_map P Q f each xs (All-tail P x xs all))

-- if each who that entries stand for has a property, and an entry for one who has it has another, each entry made has that
module _ (P : Who → Type 0) (Q : Nfsace4 → Type 0) (each : (kind : AceType) (who : Who) (mask : ℕ) → P who → Q (bare kind who mask)) where
  All-plain : (kind : AceType) (who : Who) (mask : ℕ) → P who → All Q (plain_ace kind who mask)
  unfolding unless_empty
  All-plain kind who mask holds =
      elim (mask == 0) as (λ b. All Q (cond b [] (bare kind who mask ∷ [])))
      [ true ↦ All-nil Q | false ↦ All-cons Q (bare kind who mask) [] (each kind who mask holds) (All-nil Q) ]

  All-made_for : (part : Part) (who : Who) (perms : ℕ) → P who → All Q (aces_for part who perms)
  All-made_for Allowed who perms holds = All-plain Allow who (mask_of perms) holds
  All-made_for Denied who perms holds = All-plain Deny who (rest_of perms) holds
  All-made_for Settled who perms holds =
      All-append Q (plain_ace Allow who (mask_of perms)) (plain_ace Deny who (rest_of perms))
      (All-plain Allow who (mask_of perms) holds) (All-plain Deny who (rest_of perms) holds)

  pub All-translation : (acl : List EntryValue) → All (λ entry. P (who_of entry.tag)) acl → All Q (translation acl)
  All-translation acl all = All-flat_map (λ pass. Unit {0}) Q (λ pass. aces_of_pass pass acl) of_pass passes (λ k d inside. tt)
    where
      of_pass : (pass : Class × Part) → Unit {0} → All Q (aces_of_pass pass acl)
      of_pass (class, part) any =
          All-flat_map (λ (entry : EntryValue). P (who_of entry.tag)) Q (aces_of_entry part acl)
          (λ entry. All-made_for part (who_of entry.tag) (effective_perms acl entry)) (in_class class acl)
          (All-filter (λ (entry : EntryValue). is_in class entry.tag) (λ (entry : EntryValue). P (who_of entry.tag)) acl all)

-- what holds of the value that a result can only have holds of what it has
pub IfOk-is : {T E : Type 0} (result : Result T E) (value : T) (P : T → Type 0) → P value → IfOk result (λ x. x ≡ value) → IfOk result P
IfOk-is (Ok x) value P holds is = subst P (sym is) holds
IfOk-is (Err error) value P holds is = tt
