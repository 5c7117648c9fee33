-- What is reported thing by thing, and beside it.
use Rattle.std.proofs.Common.{◌≡◌, ◌++◌, Bool, true, false, List, [], ℕ, Option, Result, Ok, Err, OnErr, append_assoc, append-nil, refl, subst, sym}
use Rattle.std.specs.Bool.{MatchBool}
use Rattle.std.proofs.KnownBytes.{Keeps-refl}
use Rattle.acl_cli.specs.ErrorOutput.{ErrorText, Reports}
use Rattle.acl_cli.specs.Output.{AppendsFront}
use Rattle.acl_cli.specs.Reporting.{LeadsOn}
use Rattle.acl_cli.proofs.OutputLemmas.{Appends-nothing, front_of_none}

pub if_true : (P Q : Type 0) (some : Bool) → some ≡ true → MatchBool some P Q → P
if_true P Q some is either = subst (λ b. MatchBool b P Q) is either

pub if_false : (P Q : Type 0) (some : Bool) → some ≡ false → MatchBool some P Q → Q
if_false P Q some is either = subst (λ b. MatchBool b P Q) is either

-- nothing was reported there
pub Reports-nothing : (err : ErrorText) → Reports [] err err
Reports-nothing err = record {
  whole = λ well. Appends-nothing err.contents err.contents (Keeps-refl err.contents);
  front = front_of_none err.contents err.contents [] (Keeps-refl err.contents);
  stopped = λ failed. refl;
  none = λ empty. refl;
}

-- one text, and then another
pub LeadsOn-more : (Old Mid New : List ℕ → List ℕ → Type 0) (reported more said others : List ℕ) → LeadsOn Old Mid reported said → LeadsOn Mid New more others
    → LeadsOn Old New (reported ++ more) (said ++ others)
LeadsOn-more Old Mid New reported more said others first second rest last is =
    subst (λ (text : List ℕ). Old text ((said ++ others) ++ last)) (sym (append_assoc reported more rest))
    (subst (λ (text : List ℕ). Old (reported ++ (more ++ rest)) text) (sym (append_assoc said others last)) (first (more ++ rest) (others ++ last) (second rest last is)))

-- where nothing more is reported
pub LeadsOn-end : (Old New : List ℕ → List ℕ → Type 0) (reported said : List ℕ) → LeadsOn Old New reported said → New [] [] → Old reported said
LeadsOn-end Old New reported said leads none =
    subst (λ (text : List ℕ). Old text said) (append-nil reported) (subst (λ (text : List ℕ). Old (reported ++ []) text) (append-nil said) (leads [] [] none))

-- fronts of what was reported went out
pub cut_at : {T E : Type 0} (result : Result T E) (Begins Now : List ℕ → List ℕ → Type 0) (old new : Option (List ℕ)) (err err' : ErrorText) (reported said : List ℕ)
    → LeadsOn Begins Now reported said → Now [] [] → AppendsFront old new reported → Reports said err err'
    → OnErr result ((text : List ℕ) × (beside : List ℕ) × Begins text beside × AppendsFront old new text × Reports beside err err')
cut_at (Ok value) Begins Now old new err err' reported said leads none front reports = tt
cut_at (Err failure) Begins Now old new err err' reported said leads none front reports = (reported, said, LeadsOn-end Begins Now reported said leads none, front, reports)
