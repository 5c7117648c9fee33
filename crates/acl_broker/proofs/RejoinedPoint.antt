-- The point at which a broker stands that is rejoined, made of its taker and its ends.
use Rattle.std.proofs.Common.{ap, ◌∙◌, subst, arith, get_or, inl, inr, ◌≡◌, ℕ, zero, suc, ◌<◌, ◌≤◌, Bool, true, false, List, [], ◌∷◌, length, map, refl, if◌then◌else◌, ◌||◌, eq-eqb, ne_eqb}
use Rattle.std.proofs.lemmas.Bool.Decides.{eqb_tells}
use Rattle.std.proofs.lemmas.List.{get_or-map}
use Rattle.acl_broker.specs.Points.{Point, is_among}
use Rattle.acl_broker.specs.Brokers.{IsPointOf}
use Rattle.acl_broker.specs.Ends.{sent_by, polled_by, is_closed}
use Rattle.acl_broker.specs.Takers.{TakerState}
use Rattle.acl_broker.specs.declared.end.End.{End}
use Rattle.acl_broker.specs.declared.taker_side.TakerSide.{TakerSide}
use Rattle.acl_broker.proofs.EachSessions.{each_session}

before_last : (n session : ℕ) → session < suc n → (n ≡ session → ⊥) → session < n
before_last n session below differ = omega (arith, below, differ)

-- the numbers below n that pass a test
abbrev those : (ℕ → Bool) → ℕ → List ℕ
those test zero = []
those test (suc n) = if test n then n ∷ those test n else those test n

among_more : (b : Bool) (n session : ℕ) (others : List ℕ) → (n ≡ session → ⊥) → is_among session (if b then n ∷ others else others) ≡ is_among session others
among_more true n session others differ = ap (λ same. same || is_among session others) (ne_eqb n session differ)
among_more false n session others differ = refl

among_same : (b : Bool) (session : ℕ) (others : List ℕ) → is_among session others ≡ false → is_among session (if b then session ∷ others else others) ≡ b
among_same true session others none = ap (λ same. same || is_among session others) (eq-eqb session session refl)
among_same false session others none = none

none_among : (test : ℕ → Bool) (n session : ℕ) → n ≤ session → is_among session (those test n) ≡ false
none_among test zero session past = refl
none_among test (suc n) session past = among_more (test n) n session (those test n) (λ same. absurd (omega (arith, same, past))) ∙ none_among test n session (omega (arith, past))

among_those : (test : ℕ → Bool) (n session : ℕ) → session < n → is_among session (those test n) ≡ test session
among_those test zero session below = absurd (omega (arith, below))
among_those test (suc n) session below = elim (eqb_tells n session) [
  | inl same ↦ subst (λ at. is_among at (if test n then n ∷ those test n else those test n) ≡ test at) same.1 (among_same (test n) n (those test n) (none_among test n n (omega arith)))
  | inr differs ↦ among_more (test n) n session (those test n) differs.1 ∙ among_those test n session (before_last n session below differs.1)
]

module _ {State I R : Type 0} (opening : State) (taker : TakerState State I R) (ends : List (End I R)) where
  -- the point at which the rejoined broker stands: what each end submitted and polled, and which sessions are closed or cancelled
  abbrev pub rejoined_point : Point State I R
  rejoined_point = record {
    opening = opening;
    accepted = λ session. get_or (map sent_by ends) session [];
    handed = λ session. get_or (map polled_by ends) session [];
    closed = those (λ session. get_or (map is_closed ends) session false) (length taker.sides);
    cancelled = those (λ session. get_or (map (λ (side : TakerSide I R). side.cancelled) taker.sides) session false) (length taker.sides);
    journal = taker.journal;
    sessions = length taker.sides;
  }

  -- which is a point of this taker and these ends, as `rejoin` asks
  pub is_rejoined_point : length ends ≡ length taker.sides → IsPointOf opening taker ends rejoined_point
  is_rejoined_point count = record {
    opens = refl;
    journal = refl;
    sessions = refl;
    each_end = each_session _ _ ends count (λ session end below.
        let within : session < length ends = omega (arith, below, count) in (
          get_or-map sent_by ends session end [] within,
          get_or-map polled_by ends session end [] within,
          among_those (λ session. get_or (map is_closed ends) session false) (length taker.sides) session below ∙ get_or-map is_closed ends session end false within,
        ));
    each_side = each_session _ _ taker.sides refl (λ session side below.
        among_those (λ session. get_or (map (λ (side : TakerSide I R). side.cancelled) taker.sides) session
        false) (length taker.sides) session below
        ∙ get_or-map (λ (side : TakerSide I R). side.cancelled) taker.sides session side false below);
  }
