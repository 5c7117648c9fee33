-- What is made in a folder, and how many entries a mode alone makes.
use Rattle.std.proofs.Common.{◌≡◌, ◌≢◌, ◌↔◌, ◌∙◌, ◌≤◌, ◌<◌, ℕ, Bool, true, false, cond, List, [], ◌∷◌, ◌++◌, ◌==◌, length, Some, Result, Ok, Err, IfOk, IfErr, OnOk, IsOk, IfSome, arith, refl, sym, length-append}
use Rattle.std.proofs.lemmas.Bool.{false≢true, true≢false}
use Rattle.acl_names.specs.Bits.{has, without}
use Rattle.acl_names.specs.Steps.{◌>>=◌}
use Rattle.acl_nfs4.specs.Ace.{Nfsace4, ace_of, is_idle, plain_ace, unless_empty}
use Rattle.acl_nfs4.specs.Acl.{IsPushFault}
use Rattle.acl_nfs4.specs.declared.acl.AceFault.{AceFault}
use Rattle.acl_nfs4.specs.declared.acl.AceFault.TheVariants.{Syntax, UnknownName, TooMany, InheritOnly, Memory}
use Rattle.acl_nfs4.specs.Who.{is_special}
use Rattle.acl_nfs4.specs.Mask.{mask_of, rest_of}
use Rattle.acl_nfs4.specs.ModeChange.{for_others, for_owner, with_mode}
use Rattle.acl_nfs4.specs.declared.ace.AceType.TheVariants.{Allow, Deny}
use Rattle.acl_nfs4.specs.declared.limits.TheConstants.{INLINE_ACES, MAX_ACES}
use Rattle.acl_nfs4.specs.declared.who.Who.{Who}
use Rattle.acl_nfs4.specs.declared.who.Who.TheVariants.{Owner, Group, Everyone, User, NamedGroup}
use Rattle.acl_posix.specs.Mode.{Classes}
use Rattle.acl_wire.specs.declared.fault.Nfs4Fault.{Nfs4Fault}
use Rattle.acl_wire.specs.declared.raw_ace.RawAce.{RawAce}

-- a list that there is has no more entries than are stored inline
pub made-short : (made : Result (List RawAce) Nfs4Fault) → IfOk (made >>= λ list. Ok (Some list)) (λ some. IfSome some (λ list. length list ≤ INLINE_ACES))
    → IfOk made (λ list. length list ≤ INLINE_ACES)
made-short (Ok list) few = few
made-short (Err fault) few = few

pub one : (ace : Nfsace4) → length (unless_empty ace) ≤ 1
unfolding unless_empty
one ace = by (ace.mask == 0)
  where
    by : (b : Bool) → length (cond b [] (ace ∷ [])) ≤ 1
    by true = omega arith
    by false = omega arith

-- a mode alone makes few entries
pub few : (mode : Classes) → length (with_mode [] mode) ≤ 5
few mode =
    let a = one (record { kind = Allow; flags = 0; who = Owner; mask = mask_of mode.user }) in
    let b = one (record { kind = Deny; flags = 0; who = Owner; mask = rest_of mode.user }) in
    let c = one (record { kind = Allow; flags = 0; who = Group; mask = mask_of mode.group }) in
    let d = one (record { kind = Deny; flags = 0; who = Group; mask = rest_of mode.group }) in
    let e = one (record { kind = Allow; flags = 0; who = Everyone; mask = mask_of mode.other }) in
    let front = length-append (plain_ace Allow Owner (mask_of mode.user)) (plain_ace Deny Owner (rest_of mode.user)) in
    let front_kept = length-append (for_owner mode.user) [] in
    let front_denials = length-append (for_owner mode.user ++ []) [] in
    let group = length-append (plain_ace Allow Group (mask_of mode.group)) (plain_ace Deny Group (rest_of mode.group)) in
    let back = length-append (plain_ace Allow Group (mask_of mode.group) ++ plain_ace Deny Group (rest_of mode.group)) (plain_ace Allow Everyone (mask_of mode.other)) in
    let all = length-append ((for_owner mode.user ++ []) ++ []) (for_others mode.group mode.other) in
    omega (arith, a, b, c, d, e, front, front_kept, front_denials, group, back, all)

-- what is done where it can't fail
pub is_done : {F : Type 0} {P : Type 0} (result : Result (Unit {0}) F) → OnOk result P → IsOk result → P
is_done (Ok _) done ok = done
is_done (Err fault) done ok = absurd (false≢true ok)

pub idle : (who : Who) (bits : ℕ) → is_special who ≡ true → is_idle (ace_of Allow 0 who bits) ≡ false
unfolding has without
idle Owner bits is = refl
idle Group bits is = refl
idle Everyone bits is = refl
idle (User uid) bits is = cc
idle (NamedGroup gid) bits is = cc

pub is_pushed : (result : Result (Unit {0}) AceFault) (old new : List Nfsace4) (ace : Nfsace4) → is_idle ace ≡ false → length old < INLINE_ACES
    → OnOk result (new ≡ old ++ ace ∷ []) → ((result ≡ Err TooMany) ↔ (length old ≡ MAX_ACES))
    → ((result ≡ Err InheritOnly) ↔ ((length old < MAX_ACES) × (is_idle ace ≡ true))) → IfErr result IsPushFault
    → (length old < INLINE_ACES → result ≢ Err Memory) → new ≡ old ++ ace ∷ []
is_pushed (Ok _) old new ace idle room ok many inherit only short = ok
is_pushed (Err Syntax) old new ace idle room ok many inherit only short = absurd only
is_pushed (Err UnknownName) old new ace idle room ok many inherit only short = absurd only
is_pushed (Err TooMany) old new ace idle room ok many inherit only short = let full = many.0 refl in absurd (omega (arith, full, room))
is_pushed (Err InheritOnly) old new ace idle room ok many inherit only short = absurd (true≢false (sym (inherit.0 refl).1 ∙ idle))
is_pushed (Err Memory) old new ace idle room ok many inherit only short = absurd (short room refl)
