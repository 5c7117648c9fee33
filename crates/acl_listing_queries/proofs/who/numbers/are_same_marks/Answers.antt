use Rattle.std.proofs.Common.{◌≡◌, Bool, true, false, refl, sym, true≢false}
use Rattle.std.specs.Bool.{Decides}
use Rattle.std.proofs.Math.Bool.{beq}
use Rattle.std.proofs.lemmas.Slice.Eq.{slice_eq-Decides}
use Rattle.acl_listing_queries.proofs.who.numbers.are_same_marks.Goals as goal

same_mark : (a b : Bool) → Decides (beq a b) (a ≡ b)
same_mark true true = (λ e. refl, λ e. refl)
same_mark false false = (λ e. refl, λ e. refl)
same_mark _ _ = (λ e. absurd (true≢false (sym e)), λ e. absurd cc)

pub returns : goal.returns
returns c = slice_eq-Decides same_mark c.args.marks.now c.args.others.now c.eq.result c.eq.ensures
