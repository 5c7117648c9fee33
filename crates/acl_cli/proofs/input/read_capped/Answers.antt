use Rattle.std.proofs.Common.{◌≡◌, ◌∙◌, ◌<◌, ◌≤◌, ◌+◌, ◌++◌, [], ℕ, List, None, Option, Some, IfSome, ap, append-nil, arith, length, length-append, length-take, rules, sym}
use Rattle.std.proofs.KnownBytes.{Consumes-kept, Consumes-trans, Consumes-whole}
use Rattle.std.proofs.lemmas.List.{nil_from_length}
use Rattle.std.specs.Io.KnownBytes.{Consumes, IsAtEnd, Keeps}
use Rattle.acl_cli.specs.Input.{ConsumesAtMost}
use Rattle.acl_cli.proofs.input.read_capped.Goals as goal

module _ (before between after : Option (List ℕ)) (bytes : List ℕ) (n : ℕ) (first : Consumes before between bytes) where
  -- nothing was read after what was read so far
  none_more : Keeps between after → length bytes ≤ n → ConsumesAtMost before after n
  none_more kept bound = (bytes, Consumes-kept before between after bytes first kept, bound)

  module _ (piece : List ℕ) (second : Consumes between after piece) where
    -- one read after what was read so far
    one_more : length bytes + length piece ≤ n → ConsumesAtMost before after n
    one_more bound =
        (bytes ++ piece, Consumes-trans before between after bytes piece first second, omega (arith, length-append bytes piece))

    -- of none of the bytes, at the end
    whole_at_end : length piece ≡ 0 → IsAtEnd after → IfSome before (λ reported. bytes ≡ reported)
    whole_at_end none ended =
        let nil : piece ≡ [] = nil_from_length piece none in
        Consumes-whole before after (bytes ++ piece) (λ reported. bytes ≡ reported) (Consumes-trans before between after bytes piece first second) ended
        (sym (append-nil bytes) ∙ ap (λ more. bytes ++ more) (sym nil))

-- what has more bytes than these has more than n
longer : (before after : Option (List ℕ)) (bytes : List ℕ) (n : ℕ) → Consumes before after bytes → n < length bytes → IfSome before (λ reported. n < length reported)
longer None after bytes n taken more = tt
longer (Some reported) None bytes n taken more = absurd taken
longer (Some reported) (Some rest) bytes n taken more = omega (arith, ap length taken, length-append bytes rest, more)

pub returns-in-Ok-eq0-clause-whole : goal.returns-in-Ok-eq0-clause-whole
returns-in-Ok-eq0-clause-whole g c =
    let read = rw c.in-Ok-eq0.is at c.read.ensures.bytes in
    whole_at_end _ _ _ _ 0 c.loop.invariant.taken _ read.0 (omega (arith, c.in-Ok-eq0.field-0-test, length-take {A = ℕ}))
    (search rules)

pub returns-in-Ok-eq0-clause-bounded : goal.returns-in-Ok-eq0-clause-bounded
returns-in-Ok-eq0-clause-bounded g c =
    let read = rw c.in-Ok-eq0.is at c.read.ensures.bytes in
    one_more _ _ _ _ _ c.loop.invariant.taken _ read.0
    (omega (arith, c.loop.bytes.ok.0, c.loop.invariant.within, c.in-Ok-eq0.field-0-test, length-take {A = ℕ}))

pub returns-in-Ok-clause-too_long : goal.returns-in-Ok-clause-too_long
returns-in-Ok-clause-too_long g c = λ _.
    let both = Consumes-trans _ _ _ _ _ c.loop.invariant.taken c.in-Ok.ensures.bytes.0 in
    longer _ _ _ _ both (omega (arith, length-append {A = ℕ}, c.in-Ok.ensures.bound.0, c.in-Ok.ensures.bound.1, length-take {A = ℕ}))

pub returns-in-Ok-clause-bounded : goal.returns-in-Ok-clause-bounded
returns-in-Ok-clause-bounded g c =
    one_more _ _ _ _ _ c.loop.invariant.taken _ c.in-Ok.ensures.bytes.0 (omega (arith, c.in-Ok.ensures.bound.0, c.in-Ok.ensures.bound.1, length-take {A = ℕ}))

pub returns-then-is_err-clause-bounded : goal.returns-then-is_err-clause-bounded
returns-then-is_err-clause-bounded g c =
    one_more _ _ _ _ _ c.loop.invariant.taken _ c.in-Ok-2.ensures.bytes.0
    (omega (arith, c.in-Ok-2.ensures.bound.0, c.in-Ok-2.ensures.bound.1, length-take {A = ℕ}))

pub returns-in-Err-2-clause-bounded : goal.returns-in-Err-2-clause-bounded
returns-in-Err-2-clause-bounded g c =
    none_more _ _ _ _ _ c.loop.invariant.taken c.in-Err-2.ensures.bytes (omega (arith, c.loop.bytes.ok.0, c.loop.invariant.within))

pub returns-clause-bounded : goal.returns-clause-bounded
returns-clause-bounded g c = (c.loop.bytes.items, c.loop.invariant.taken, omega (arith, c.loop.bytes.ok.0, c.loop.invariant.within))
