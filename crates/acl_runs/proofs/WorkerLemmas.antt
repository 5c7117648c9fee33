-- A session from step to step.
use Rattle.std.proofs.Common.{ap, sym, ◌∙◌, subst, append-nil, append_assoc, arith, length-append, inl, inr}
use Rattle.std.proofs.Common.{◌≡◌, ◌⊎◌, ℕ, ◌+◌, ◌-◌, Bool, true, false, List, [], ◌∷◌, ◌++◌, length, map}
use Rattle.std.proofs.Common.{refl, Option, Some, None, if◌then◌else◌, filter, flat_map, true≢false}
use Rattle.std.proofs.lemmas.List.Elements.{filter-append}
use Rattle.std.proofs.lemmas.Grind.{flat_map-append}
use Rattle.std.specs.Bool.{OnFalse}
use Rattle.std.proofs.lemmas.List.{map-append, length-map}
use Rattle.std.proofs.lemmas.Option.{none-some}
use Rattle.acl_broker.specs.Ends.{sent_by, polled_by, StaysEndOf}
use Rattle.acl_broker.specs.declared.end.End.{End}
use Rattle.acl_broker.specs.declared.end.End.TheVariants.{Open, Closed}
use Rattle.acl_broker.specs.declared.session_end.SessionEnd.{SessionEnd}
use Rattle.acl_broker.specs.declared.closed_end.ClosedEnd.{ClosedEnd}
use Rattle.acl_runs.specs.ErrorLimit.{errors_in, left_after, UsesUp}
use Rattle.acl_runs.specs.Handling.{Handling}
use Rattle.acl_runs.specs.Workers.{one_less, IsOver, Prints, HasPrinted, GoesOn, Advances, Submits, IsNew, IsFinished}
use Rattle.acl_runs.specs.declared.printed.Printed.{Printed}

module _ {R : Type 0} (is_error : R → Bool) where
  pub errors_in-append : (front back : List R) → errors_in is_error (front ++ back) ≡ errors_in is_error front + errors_in is_error back
  errors_in-append front back = ap length (filter-append is_error front back) ∙ length-append (filter is_error front) (filter is_error back)

  -- one more answer, an error or not
  left_by_one : (limit : Option ℕ) (replies : List R) (answer : R) (b : Bool) → is_error answer ≡ b
      → (if b then one_less (left_after is_error limit replies) else left_after is_error limit replies)
      ≡ left_after is_error limit (replies ++ answer ∷ [])
  left_by_one None replies answer true is = refl
  left_by_one None replies answer false is = refl
  left_by_one (Some allowed) replies answer true is =
      let one : errors_in is_error (answer ∷ []) ≡ 1 = ap (λ b. length (if b then answer ∷ [] else [])) is in
      ap (λ n. Some n) (omega (arith, errors_in-append replies (answer ∷ []), one))
  left_by_one (Some allowed) replies answer false is =
      let none : errors_in is_error (answer ∷ []) ≡ 0 = ap (λ b. length (if b then answer ∷ [] else [])) is in
      ap (λ n. Some n) (omega (arith, errors_in-append replies (answer ∷ []), none))

left_none : {R : Type 0} (is_error : R → Bool) (limit : Option ℕ) → left_after is_error limit [] ≡ limit
left_none is_error None = refl
left_none is_error (Some allowed) = ap (λ n. Some n) (omega arith)

abbrev pub some_of : {A : Type 0} → Option A → A → A
some_of None default = default
some_of (Some x) default = x

uses_up : {R : Type 0} (is_error : R → Bool) (limit : Option ℕ) (replies : List R) (left : Option ℕ) → left ≡ Some 0 → left ≡ left_after is_error limit replies → UsesUp is_error limit replies
uses_up is_error None replies left over is = absurd (none-some _ (sym is ∙ over))
uses_up is_error (Some allowed) replies left over is =
    let none : allowed - errors_in is_error replies ≡ 0 = ap (λ n. some_of n 0) (sym is ∙ over) in
    omega (arith, none)

module _ {R K : Type 0} (handling : Handling R K) where
  has_printed_more : (limit : Option ℕ) (polled : List R) (answer : R) (was is : Printed K)
      → Prints handling was answer is → HasPrinted handling limit polled was
      → HasPrinted handling limit (polled ++ answer ∷ []) is
  has_printed_more limit polled answer was is prints has = record {
    answers = prints.answers ∙ ap (λ kept. kept ++ handling.keep answer ∷ []) has.answers ∙ sym (map-append handling.keep polled (answer ∷ []));
    output = prints.output ∙ ap (λ output. output ++ handling.text answer) has.output
        ∙ ap (λ last. flat_map handling.text polled ++ last) (sym (append-nil (handling.text answer)))
        ∙ sym (flat_map-append handling.text polled (answer ∷ []));
    left = prints.left ∙ ap (λ left. if handling.is_error answer then one_less left else left) has.left ∙ left_by_one handling.is_error limit polled answer (handling.is_error answer) refl;
  }

  less_over : (b : Bool) (left left' : Option ℕ) → left ≡ Some 0 → left' ≡ (if b then one_less left else left) → left' ≡ Some 0
  less_over true left left' over is = is ∙ ap (λ left. one_less left) over
  less_over false left left' over is = is ∙ over

  module _ {I : Type 0} where
    pub goes_on_then : (a b c : End I R) (p q r : Printed K) (items : List I) → GoesOn handling a p [] b q → GoesOn handling b q items c r → GoesOn handling a p items c r
    goes_on_then a b c p q r items first second = record {
      stays = λ session taker is. second.stays session taker (first.stays session taker is);
      sent = second.sent ∙ ap (λ sent. sent ++ items) (first.sent ∙ append-nil (sent_by a));
      prints = λ limit has. second.prints limit (first.prints limit has);
      over = λ over. second.over (first.over over);
    }

    -- a call that polls nothing
    pub goes_on_unpolled : (a b : End I R) (printed : Printed K) (items : List I) → StaysEndOf a b
        → sent_by b ≡ sent_by a ++ items → polled_by b ≡ polled_by a → GoesOn handling a printed items b printed
    goes_on_unpolled a b printed items stays sent polled = record {
      stays = stays;
      sent = sent;
      prints = λ limit has. subst (λ answers. HasPrinted handling limit answers printed) (sym polled) has;
      over = λ over. over;
    }

    pub goes_on_unmoved : (a b : End I R) (printed : Printed K) → StaysEndOf a b → sent_by b ≡ sent_by a → polled_by b ≡ polled_by a → GoesOn handling a printed [] b printed
    goes_on_unmoved a b printed stays sent polled = goes_on_unpolled a b printed [] stays (sent ∙ sym (append-nil (sent_by a))) polled

    -- nothing was polled
    pub goes_on_idle : (a b : End I R) (printed : Printed K) → StaysEndOf a b → sent_by b ≡ sent_by a → polled_by b ≡ polled_by a ++ [] → GoesOn handling a printed [] b printed
    goes_on_idle a b printed stays sent polled = goes_on_unmoved a b printed stays sent (polled ∙ append-nil (polled_by a))

    -- an answer that was polled is printed
    pub goes_on_polled : (a b : End I R) (was is : Printed K) (answer : R) → StaysEndOf a b
        → sent_by b ≡ sent_by a → polled_by b ≡ polled_by a ++ answer ∷ [] → Prints handling was answer is
        → GoesOn handling a was [] b is
    goes_on_polled a b was is answer stays sent polled prints = record {
      stays = stays;
      sent = sent ∙ sym (append-nil (sent_by a));
      prints = λ limit has. subst (λ answers. HasPrinted handling limit answers is) (sym polled) (has_printed_more limit (polled_by a) answer was is prints has);
      over = λ over. less_over (handling.is_error answer) was.left is.left over prints.left;
    }

    -- on to the next request
    pub advances_then : (a b c : End I R) (p q r : Printed K) (wanted rest rest' items : List I)
        → Advances handling a p wanted b q rest → rest ≡ items ++ rest' → GoesOn handling b q items c r
        → Advances handling a p wanted c r rest'
    advances_then a b c p q r wanted rest rest' items first next second = record {
      stays = λ session taker is. second.stays session taker (first.stays session taker is);
      sent = ap (λ sent. sent ++ rest') second.sent ∙ append_assoc (sent_by b) items rest' ∙ ap (λ rest. sent_by b ++ rest) (sym next) ∙ first.sent;
      prints = λ limit has. second.prints limit (first.prints limit has);
    }

    pub submits_all : (a b : End I R) (p q : Printed K) (wanted rest : List I) (count : ℕ)
        → Advances handling a p wanted b q rest → rest ≡ [] → count + length rest ≡ length wanted
        → Submits handling a p wanted count b q
    submits_all a b p q wanted rest count advances none counts = record {
      stays = advances.stays;
      sent = inl (sym (append-nil (sent_by b)) ∙ ap (λ rest. sent_by b ++ rest) (sym none) ∙ advances.sent, omega (arith, counts, ap length none));
      prints = advances.prints;
    }

    pub submits_some : (a b c : End I R) (p q r : Printed K) (wanted rest : List I) (count : ℕ)
        → Advances handling a p wanted b q rest → GoesOn handling b q [] c r → IsOver r
        → Submits handling a p wanted count c r
    submits_some a b c p q r wanted rest count advances more over =
        let last = advances_then a b c p q r wanted rest rest [] advances refl more in
        record { stays = last.stays; sent = inr ((rest, last.sent), over); prints = last.prints }

    -- the next request, submitted or not
    pub submits_less : (a b c : End I R) (p q r : Printed K) (wanted rest : List I) (request : I)
        (done : Bool) (count : ℕ) → Advances handling a p wanted b q rest
        → GoesOn handling b q (if done then request ∷ [] else []) c r → OnFalse done (IsOver r) → done ≡ false
        → Submits handling a p wanted count c r
    submits_less a b c p q r wanted rest request true count advances on over is = absurd (true≢false is)
    submits_less a b c p q r wanted rest request false count advances on over is = submits_some a b c p q r wanted rest count advances on over

    pub advances_by_one : (a b c : End I R) (p q r : Printed K) (wanted rest rest' : List I) (request : I)
        (done : Bool) → Advances handling a p wanted b q rest → rest ≡ request ∷ rest'
        → GoesOn handling b q (if done then request ∷ [] else []) c r → done ≡ true
        → Advances handling a p wanted c r rest'
    advances_by_one a b c p q r wanted rest rest' request true advances next on is = advances_then a b c p q r wanted rest rest' (request ∷ []) advances next on
    advances_by_one a b c p q r wanted rest rest' request false advances next on is = absurd (true≢false (sym is))

    -- a session that has submitted, closed and polled
    pub is_finished : (start end : SessionEnd I R) (closed last : ClosedEnd I R) (p q r s : Printed K)
        (limit : Option ℕ) (wanted : List I) (count : ℕ) → IsNew start → p.answers.items ≡ []
        → p.output.items ≡ [] → p.left ≡ limit → Submits handling (Open start) p wanted count (Open end) q
        → GoesOn handling (Open end) q [] (Closed closed) r
        → GoesOn handling (Closed closed) r [] (Closed last) s → IsOver s ⊎ (length s.answers.items ≡ count)
        → IsFinished handling start limit wanted (Closed last) s.answers.items s.output.items
    is_finished start end closed last p q r s limit wanted count fresh none no_text all submits closes polls done =
        let on = goes_on_then (Open end) (Closed closed) (Closed last) q r s [] closes polls in
        let same : sent_by (Closed last) ≡ sent_by (Open end) = on.sent ∙ append-nil (sent_by (Open end)) in
        let whole : sent_by (Open start) ++ wanted ≡ wanted = ap (λ sent. sent ++ wanted) fresh.0 in
        let prints : HasPrinted handling limit (polled_by (Closed last)) s = on.prints limit (submits.prints limit (record {
          answers = none ∙ sym (ap (λ polled. map handling.keep polled) fresh.1);
          output = no_text ∙ sym (ap (λ polled. flat_map handling.text polled) fresh.1);
          left = all ∙ sym (ap (λ polled. left_after handling.is_error limit polled) fresh.1 ∙ left_none handling.is_error limit);
        })) in
        let spent : IsOver s → UsesUp handling.is_error limit (polled_by (Closed last)) = λ over. uses_up handling.is_error limit (polled_by (Closed last)) s.left over prints.left in
        let as_long : length (polled_by (Closed last)) ≡ length s.answers.items = sym (length-map (polled_by (Closed last)) handling.keep) ∙ sym (ap length prints.answers) in
        record {
          stays = λ session taker is. on.stays session taker (submits.stays session taker is);
          served = record {
            closed = refl;
            sent = elim submits.sent [
              | inl sent ↦ elim done [
                | inl over ↦ inr (([], append-nil (sent_by (Closed last)) ∙ same ∙ sent.0 ∙ whole), spent over)
                | inr as_many ↦ inl (same ∙ sent.0 ∙ whole, as_long ∙ as_many ∙ sent.1)
              ]
              | inr some ↦ inr ((some.0.0, ap (λ sent. sent ++ some.0.0) same ∙ some.0.1 ∙ whole), spent (on.over some.1))
            ];
            kept_is = prints.answers;
            output_is = prints.output;
          };
        }
