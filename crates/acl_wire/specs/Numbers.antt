-- What a reader of the code answers, beside what a reader on lists of bytes does.
use Rattle.std.specs.Prelude.{◌≡◌, Result, Ok, Err}

-- the same value, seen by view, or the same fault
abbrev pub Reads : {X Y F : Type 0} → (X → Y) → Result X F → Result Y F → Type 0
Reads view (Ok x) read = read ≡ Ok (view x)
Reads view (Err fault) read = read ≡ Err fault
