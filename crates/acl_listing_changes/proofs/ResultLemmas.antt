-- Facts about an answer, if there is one.
use Rattle.std.proofs.Common.{Result, Ok, Err, IfOk}

-- of two facts follows a third
pub IfOk-both : {T E : Type 0} (result : Result T E) (P Q R : T → Type 0) → ((value : T) → P value → Q value → R value) → IfOk result P → IfOk result Q → IfOk result R
IfOk-both (Ok value) P Q R both p q = both value p q
IfOk-both (Err error) P Q R both p q = tt
