-- The taker's sides under a limit of errors.
use Rattle.std.proofs.Common.{ap, sym, ◌∙◌, subst, append_assoc, arith, get_or, drop, inl, inr, ◌≡◌, ◌≢◌, ℕ}
use Rattle.std.proofs.Common.{zero, suc, ◌+◌, ◌-◌, ◌<◌, ◌≤◌, Bool, true, false, List, [], ◌∷◌, ◌++◌, length}
use Rattle.std.proofs.Common.{refl, Option, Some, None, Result, Ok, Err, nat_eq, if◌then◌else◌}
use Rattle.std.proofs.lemmas.Bool.{both_ways, eqb-true}
use Rattle.std.proofs.lemmas.List.{append_cancel_left}
use Rattle.std.proofs.lemmas.Bool.Decides.{eqb_tells, leb_tells}
use Rattle.acl_broker.specs.Journal.{state_after, answers_to}
use Rattle.acl_broker.specs.TakerSides.{given, outbox, CancelsAlone}
use Rattle.acl_broker.specs.Takers.{TakerState, Keeps, AppendsOne, SameExceptAt, TakeMoves, DeliverMoves}
use Rattle.acl_broker.specs.declared.steps.TakeRefused.{TakeRefused}
use Rattle.acl_broker.specs.declared.steps.TakeRefused.TheVariants.{UnknownSession, Empty, Memory}
use Rattle.acl_broker.specs.declared.taker_side.TakerSide.{TakerSide}
use Rattle.acl_broker.proofs.EachSessions.{of_session}
use Rattle.acl_broker.proofs.JournalEntries.{more_answers}
use Rattle.acl_runs.specs.ErrorLimit.{errors_in, EndsAtError}
use Rattle.acl_runs.specs.Taking.{made, IsLimited, AreLimited}
use Rattle.acl_runs.specs.declared.error_limits.ErrorLimits.{ErrorLimits}
use Rattle.acl_runs.proofs.WorkerLemmas.{errors_in-append}

some_left : (left : ℕ) → nat_eq left 0 ≡ false → 0 < left
some_left zero none = absurd (both_ways true none refl)
some_left (suc left) some = omega arith

pub ok_isnt_err : {A E : Type 0} {x : A} {e : E} → Ok x ≡ Err e → ⊥
ok_isnt_err same = cc

-- a list with a place has an item
pub some_item : {A : Type 0} (items : List A) (i : ℕ) → i < length items → A
some_item [] i below = absurd (omega arith)
some_item (item ∷ items) i below = item

-- two lists that are one have one last item
pub last_same : {A : Type 0} (xs ys : List A) (x y : A) → xs ++ x ∷ [] ≡ ys ++ y ∷ [] → x ≡ y
last_same [] [] x y same = cc
last_same [] (b ∷ []) x y same = absurd (omega (arith, ap length same))
last_same [] (b ∷ c ∷ ys) x y same = absurd (omega (arith, ap length same))
last_same (a ∷ []) [] x y same = absurd (omega (arith, ap length same))
last_same (a ∷ c ∷ xs) [] x y same = absurd (omega (arith, ap length same))
last_same (a ∷ xs) (b ∷ ys) x y same = last_same xs ys x y (ap (λ all. drop 1 all) same)

module _ {I R : Type 0} where
  given_is : (old new : TakerSide I R) → new.answers ≡ old.answers → given new ≡ given old
  given_is old new answers = cc

  made_is : (old new : TakerSide I R) → new.answers ≡ old.answers → new.outbox ≡ old.outbox → made new ≡ made old
  made_is old new answers box = ap (λ front. front ++ outbox new) (given_is old new answers) ∙ ap (λ box. given old ++ box.items) box

  -- what is owed after an accepted take: one reply more
  pub record OwesMore (old new : TakerSide I R) : Type 0 where
    pub reply : R
    pub box : outbox new ≡ outbox old ++ reply ∷ []
    pub made : made new ≡ made old ++ reply ∷ []

  abbrev pub SameMade : TakerSide I R → TakerSide I R → Type 0
  SameMade old new = (made new ≡ made old) × (new.cancelled ≡ old.cancelled)

  pub refused_made : (result : Result ℕ TakeRefused) (why : TakeRefused) (old new : TakerSide I R) → result ≡ Err why → TakeMoves result old new → SameMade old new
  refused_made (Ok place) why old new is moves = absurd (ok_isnt_err is)
  refused_made (Err UnknownSession) why old new is moves = absurd moves
  refused_made (Err Empty) why old new is moves = (made_is old new moves.answers.0 moves.answers.1, moves.flags.1)
  refused_made (Err Memory) why old new is moves = (ap (λ front. front ++ outbox new) (given_is old new moves.answers) ∙ ap (λ box. given old ++ box) moves.owed, moves.flags.1)

  pub delivered_made : (result : Bool) (old new : TakerSide I R) → DeliverMoves result old new → SameMade old new
  delivered_made true old new moves = (ap (λ g. g ++ outbox new) moves.2.2 ∙ append_assoc (given old) (moves.2.0 ∷ []) (outbox new) ∙ ap (λ box. given old ++ box) (sym moves.2.1), moves.1.3.1)
  delivered_made false old new moves = (ap (λ g. g ++ outbox new) moves.3 ∙ ap (λ box. given old ++ box) moves.2, moves.1.3.1)

module _ {State I R : Type 0} (next : State → I → State) (reply : State → I → R) where
  pub owes_more : (opening : State) (old new : TakerState State I R) (session : ℕ) (default : TakerSide I R)
      → session < length old.sides → Keeps next reply opening old → Keeps next reply opening new
      → AppendsOne session old.journal new.journal → length new.sides ≡ length old.sides
      → (get_or new.sides session default).answers ≡ (get_or old.sides session default).answers → OwesMore (get_or old.sides session default) (get_or new.sides session default)
  owes_more opening old new session default below keeps keeps' appends count same =
      let side = get_or old.sides session default in
      let side' = get_or new.sides session default in
      let answer = reply (state_after next opening old.journal) appends.0 in
      let kept : given side' ≡ given side = given_is side side' same in
      let all : made side' ≡ made side ++ answer ∷ [] =
      (of_session _ _ _ keeps'.sides session default (omega (arith, below, count))).answered ∙ ap (λ journal. answers_to next reply session opening journal) appends.1
      ∙ more_answers next reply session opening old.journal appends.0 ∙ ap (λ answers. answers ++ answer ∷ []) (sym (of_session _ _ _ keeps.sides session default below).answered) in
      record {
        reply = answer;
        box = append_cancel_left (given side) (outbox side') (outbox side ++ answer ∷ []) (ap (λ g. g ++ outbox side') (sym kept) ∙ all ∙ append_assoc (given side) (outbox side) (answer ∷ []));
        made = all;
      }

module _ {R : Type 0} (is_error : R → Bool) where
  errors_in_more : (replies : List R) (answer : R) (b : Bool) → is_error answer ≡ b → errors_in is_error (replies ++ answer ∷ []) ≡ errors_in is_error replies + (if b then 1 else 0)
  errors_in_more replies answer true is = errors_in-append is_error replies (answer ∷ []) ∙ ap (λ b. errors_in is_error replies + length (if b then answer ∷ [] else [])) is
  errors_in_more replies answer false is = errors_in-append is_error replies (answer ∷ []) ∙ ap (λ b. errors_in is_error replies + length (if b then answer ∷ [] else [])) is

module _ {I R : Type 0} (is_error : R → Bool) where
  -- the limit of one session, at two moments
  pub limited_same : (allowed left : ℕ) (old new : TakerSide I R) → SameMade old new → IsLimited is_error allowed left old → IsLimited is_error allowed left new
  limited_same allowed left old new same limited = record {
    live = λ live. subst (λ replies. (0 < left) × (left + errors_in is_error replies ≡ allowed)) (sym same.0) (limited.live (sym same.1 ∙ live));
    over = λ over. subst (λ replies. EndsAtError is_error allowed replies) (sym same.0) (limited.over (sym same.1 ∙ over));
  }

  pub limited_more : (allowed left : ℕ) (old new : TakerSide I R) (more : OwesMore old new)
      → old.cancelled ≡ false → new.cancelled ≡ false → is_error more.reply ≡ false
      → IsLimited is_error allowed left old → IsLimited is_error allowed left new
  limited_more allowed left old new more live live' fine limited =
      let was = limited.live live in
      record {
        live = λ _. (was.0, ap (λ replies. left + errors_in is_error replies) more.made ∙ omega (arith, errors_in_more is_error (made old) more.reply false fine, was.1));
        over = λ over. absurd (both_ways new.cancelled live' over);
      }

  pub limited_fewer : (allowed left : ℕ) (old new : TakerSide I R) (more : OwesMore old new)
      → old.cancelled ≡ false → new.cancelled ≡ false → is_error more.reply ≡ true
      → nat_eq (left - 1) 0 ≡ false → IsLimited is_error allowed left old → IsLimited is_error allowed (left - 1) new
  limited_fewer allowed left old new more live live' error not_last limited =
      let was = limited.live live in
      let some : 0 < left - 1 = some_left (left - 1) not_last in
      record {
        live = λ _. (some, ap (λ replies. (left - 1) + errors_in is_error replies) more.made ∙ omega (arith, errors_in_more is_error (made old) more.reply true error, was.1, was.0));
        over = λ over. absurd (both_ways new.cancelled live' over);
      }

  pub limited_over : (allowed left : ℕ) (old mid new : TakerSide I R) (more : OwesMore old mid)
      → old.cancelled ≡ false → is_error more.reply ≡ true → nat_eq (left - 1) 0 ≡ true → CancelsAlone mid new
      → IsLimited is_error allowed left old → IsLimited is_error allowed (left - 1) new
  limited_over allowed left old mid new more live error last cancels limited =
      let was = limited.live live in
      let all : made new ≡ made old ++ more.reply ∷ [] = made_is mid new (ap (λ side. side.answers) cancels) (ap (λ side. side.outbox) cancels) ∙ more.made in
      let none : left - 1 ≡ 0 = eqb-true (left - 1) 0 last in
      record {
        live = λ live'. absurd (both_ways new.cancelled live' (ap (λ side. side.cancelled) cancels));
        over = λ _. record {
          before = made old;
          last = more.reply;
          all = all;
          error = error;
          count = ap (λ replies. errors_in is_error replies) all ∙ omega (arith, errors_in_more is_error (made old) more.reply true error, was.1, was.0, none);
        };
      }

  -- the limits of all sessions, if one of them changes
  pub limits_by : (limit : Option ℕ) (limits limits' : ErrorLimits) (session : ℕ) (sides sides' : List (TakerSide I R)) → SameExceptAt session sides sides'
      → ((allowed left : ℕ) (side : TakerSide I R) → session < length sides → length limits.left.items ≡ length sides
      → (length limits'.left.items ≡ length limits.left.items)
      × ((other : ℕ) (d : ℕ) → other ≢ session → get_or limits'.left.items other d ≡ get_or limits.left.items other d)
      × (IsLimited is_error allowed (get_or limits.left.items session left) (get_or sides session side)
      → IsLimited is_error allowed (get_or limits'.left.items session left) (get_or sides' session side)))
      → (length sides ≤ session → limits' ≡ limits)
      → AreLimited is_error limit limits sides → AreLimited is_error limit limits' sides'
  limits_by None limits limits' session sides sides' others here beyond limited = tt
  limits_by (Some allowed) limits limits' session sides sides' others here beyond limited =
      elim (leb_tells (length sides) session) [
        | inl past ↦ (
          ap (λ (l : ErrorLimits). length l.left.items) (beyond past.1) ∙ limited.0 ∙ sym others.0,
          λ s left side below.
              let within : s < length sides = omega (arith, below, others.0) in
              subst (λ found. IsLimited is_error allowed (get_or limits'.left.items s left) found) (sym (others.1 s side (λ same. absurd (omega (arith, same, within, past.1)))))
              (subst (λ (l : ErrorLimits). IsLimited is_error allowed (get_or l.left.items s left) (get_or sides s side)) (sym (beyond past.1)) (limited.1 s left side within)),
        )
        | inr inside ↦ (
          (here allowed 0 (some_item sides session (omega (arith, inside.1))) (omega (arith, inside.1)) limited.0).0 ∙ limited.0 ∙ sym others.0,
          λ s left side below.
              let within : s < length sides = omega (arith, below, others.0) in
              let one = here allowed left side (omega (arith, inside.1)) limited.0 in
              elim (eqb_tells s session) [
                | inl same ↦ subst (λ at. IsLimited is_error allowed (get_or limits'.left.items at left)
                    (get_or sides' at side)) (sym same.1)
                    (one.2 (limited.1 session left side (omega (arith, inside.1))))
                | inr differs ↦ subst (λ found. IsLimited is_error allowed found (get_or sides' s side)) (sym (one.1 s left differs.1))
                    (subst (λ found. IsLimited is_error allowed (get_or limits.left.items s left) found) (sym (others.1 s side differs.1)) (limited.1 s left side within))
              ],
        )
      ]
