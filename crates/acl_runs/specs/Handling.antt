-- What is made of replies.
use Rattle.std.specs.Prelude.{ℕ, Bool, List}

-- the text of a reply, whether it is an error, and what a report keeps of it
pub record Handling (R K : Type 0) : Type 0 where
  pub text : R → List ℕ
  pub is_error : R → Bool
  pub keep : R → K

-- the same, of which a report keeps each reply whole
abbrev pub keeping_all : {R K : Type 0} → Handling R K → Handling R R
keeping_all {R} handling = record {
  text = handling.text;
  is_error = handling.is_error;
  keep = λ reply. reply;
}
