-- Texts that go to standard error one after the other.
use Rattle.std.proofs.Common.{◌≡◌, ◌∙◌, ◌++◌, ◌∷◌, [], ℕ, Bool, false, true, List, ap, subst, sym, refl}
use Rattle.std.proofs.KnownBytes.{Appends-trans}
use Rattle.std.specs.Io.KnownBytes.{Appends}
use Rattle.std.proofs.lemmas.Bool.{true≢false}
use Rattle.acl_cli.specs.ErrorOutput.{ErrorText, Reports}
use Rattle.acl_cli.specs.Output.{AppendsFront}
use Rattle.acl_cli.proofs.OutputLemmas.{front_behind, front_of_longer}

-- both of two texts are empty that are so together
nil_first : (first second : List ℕ) → first ++ second ≡ [] → first ≡ []
nil_first [] second empty = refl
nil_first (byte ∷ bytes) second empty = cc

nil_second : (first second : List ℕ) → first ++ second ≡ [] → second ≡ []
nil_second [] second empty = empty
nil_second (byte ∷ bytes) second empty = cc

module _ (first second : List ℕ) (old between new : ErrorText) (reports : Reports first old between) (more : Reports second between new) where
  -- nothing more went out after a failed write
  failed_before : between.has_failed ≡ true → new ≡ between
  failed_before failed = more.stopped failed

  front : (failed : Bool) → between.has_failed ≡ failed → AppendsFront old.contents new.contents (first ++ second)
  front true is =
      subst (λ (text : ErrorText). AppendsFront old.contents text.contents (first ++ second)) (sym (failed_before is))
      (front_of_longer old.contents between.contents first second reports.front)
  front false is = front_behind old.contents between.contents new.contents first second (reports.whole is) more.front

  whole : (failed : Bool) → between.has_failed ≡ failed → new.has_failed ≡ false → Appends old.contents new.contents (first ++ second)
  whole true is well = absurd (true≢false (sym is ∙ ap (λ (text : ErrorText). text.has_failed) (sym (failed_before is)) ∙ well))
  whole false is well = Appends-trans old.contents between.contents new.contents first second (reports.whole is) (more.whole well)

  none : first ++ second ≡ [] → new ≡ old
  none empty = more.none (nil_second first second empty) ∙ reports.none (nil_first first second empty)

  stopped : old.has_failed ≡ true → new ≡ old
  stopped failed =
      let same = reports.stopped failed in
      failed_before (ap (λ (text : ErrorText). text.has_failed) same ∙ failed) ∙ same

  -- a text went out, and then another
  pub Reports-both : Reports (first ++ second) old new
  Reports-both = record { whole = whole between.has_failed refl; front = front between.has_failed refl; stopped = stopped; none = none }
