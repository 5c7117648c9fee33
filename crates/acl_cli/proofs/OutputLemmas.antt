-- Fronts of a text that go out.
use Rattle.std.proofs.Common.{◌≡◌, ◌∙◌, ◌+◌, ◌-◌, ◌++◌, [], ℕ, List, Option, Some, None, ◌≤◌, ap, append-nil, append_assoc, arith, length, length-drop, subst, sym, take, drop, take-add}
use Rattle.std.proofs.lemmas.List.{take-append-drop, take_rest}
use Rattle.std.proofs.Math.Seq.{take-append-add, take-append_seam, take-length}
use Rattle.std.proofs.KnownBytes.{Appends-trans}
use Rattle.std.specs.Io.KnownBytes.{Appends, Keeps}
use Rattle.acl_cli.specs.Output.{AppendsFront}

-- a front of a text went out, and then a front of the rest
pub front_and_more : (before between after : Option (List ℕ)) (text : List ℕ) (sent more : ℕ) → Appends before between (take sent text)
    → Appends between after (take more (take (length text - sent) (drop sent text))) → Appends before after (take (sent + more) text)
front_and_more before between after text sent more first second =
    let rest = subst (λ rest. Appends between after (take more rest)) (take_rest text sent) second in
    subst (Appends before after) (sym (take-add sent more text)) (Appends-trans before between after (take sent text) (take more (drop sent text)) first rest)

-- what went out of the rest isn't more than there is
pub front_within : (text : List ℕ) (sent more : ℕ) → sent ≤ length text → more ≤ length (take (length text - sent) (drop sent text)) → sent + more ≤ length text
front_within text sent more within bound =
    omega (arith, within, subst (λ rest. more ≤ length rest) (take_rest text sent) bound, length-drop sent text)

-- a front of a text is a front of a longer one
pub front_of_longer : (old new : Option (List ℕ)) (text more : List ℕ) → AppendsFront old new text → AppendsFront old new (text ++ more)
front_of_longer old new text more (count, went) =
    let front = take count text in
    let whole : front ++ (drop count text ++ more) ≡ text ++ more =
    sym (append_assoc front (drop count text) more) ∙ ap (λ all. all ++ more) (take-append-drop count text) in
    let is : take (length front) (text ++ more) ≡ front = ap (take (length front)) (sym whole) ∙ take-append_seam front (drop count text ++ more) in
    (length front, subst (Appends old new) (sym is) went)

-- a text went out whole, and after it a front of the next
pub front_behind : (before between after : Option (List ℕ)) (text more : List ℕ) → Appends before between text → AppendsFront between after more
    → AppendsFront before after (text ++ more)
front_behind before between after text more whole (count, went) =
    (length text + count, subst (Appends before after) (sym (take-append-add text more count)) (Appends-trans before between after text (take count more) whole went))

-- what went out of all that was to go out is a front of it
pub front_so_far : (old new : Option (List ℕ)) (so_far rest all : List ℕ) → so_far ++ rest ≡ all → Appends old new so_far → AppendsFront old new all
front_so_far old new so_far rest all is went =
    subst (AppendsFront old new) is (front_of_longer old new so_far rest (length so_far, subst (Appends old new) (sym (take-length so_far)) went))

module _ (before between after : Option (List ℕ)) (so_far text rest all : List ℕ) (is : so_far ++ (text ++ rest) ≡ all) (whole : Appends before between so_far) where
  -- and so is what went out, and a front of the next text after it
  pub front_among : AppendsFront between after text → AppendsFront before after all
  front_among front = subst (AppendsFront before after) is (front_behind before between after so_far (text ++ rest) whole (front_of_longer between after text rest front))

  -- the next text went out whole
  pub more_among : Appends between after text → (more : List ℕ) × Appends before after more × (more ++ rest ≡ all)
  more_among went = (so_far ++ text, Appends-trans before between after so_far text whole went, append_assoc so_far text rest ∙ is)

pub Appends-nothing : (old new : Option (List ℕ)) → Keeps old new → Appends old new []
Appends-nothing None new kept = tt
Appends-nothing (Some bytes) None kept = kept
Appends-nothing (Some bytes) (Some after) kept = kept ∙ sym (append-nil bytes)

-- if nothing went out, a front of any text did
pub front_of_none : (old new : Option (List ℕ)) (text : List ℕ) → Keeps old new → AppendsFront old new text
front_of_none old new text kept = (0, Appends-nothing old new kept)
