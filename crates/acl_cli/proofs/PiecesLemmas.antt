-- A text that is written piece by piece.
use Rattle.std.proofs.Common.{◌≡◌, ◌∙◌, ◌++◌, ℕ, List, Option, ap, append_assoc, subst, sym}
use Rattle.std.proofs.KnownBytes.{Appends-trans}
use Rattle.std.specs.Io.KnownBytes.{Appends}
use Rattle.acl_cli.specs.Output.{AppendsFront}
use Rattle.acl_cli.proofs.OutputLemmas.{front_behind, front_so_far}

-- what is written and kept, with a text more
more_kept : (sent kept reported text new : List ℕ) → sent ++ kept ≡ reported → new ≡ kept ++ text → sent ++ new ≡ reported ++ text
more_kept sent kept reported text new is is_new = ap (λ bytes. sent ++ bytes) is_new ∙ sym (append_assoc sent kept text) ∙ ap (λ bytes. bytes ++ text) is

-- what was reported went out, but for what is kept of it
pub record WentOut (first out : Option (List ℕ)) (kept reported : List ℕ) : Type 0 where
  pub sent : List ℕ
  pub written : Appends first out sent
  pub is : sent ++ kept ≡ reported

module _ (first out : Option (List ℕ)) (kept reported : List ℕ) (was : WentOut first out kept reported) where
  -- a text more is kept
  pub keeps_more : (text new : List ℕ) → new ≡ kept ++ text → WentOut first out new (reported ++ text)
  keeps_more text new is = record { sent = was.sent; written = was.written; is = more_kept was.sent kept reported text new was.is is }

  module _ (later : Option (List ℕ)) where
    -- a piece of what is kept goes out
    pub sends : (piece left : List ℕ) → Appends out later piece → kept ≡ piece ++ left → WentOut first later left reported
    sends piece left went is = record {
      sent = was.sent ++ piece;
      written = Appends-trans first out later was.sent piece was.written went;
      is = append_assoc was.sent piece left ∙ ap (λ bytes. was.sent ++ bytes) (sym is) ∙ was.is;
    }

    -- all of it does
    pub sends_all : Appends out later kept → Appends first later reported
    sends_all went = subst (Appends first later) was.is (Appends-trans first out later was.sent kept was.written went)

    -- a front of it does
    pub sends_front : AppendsFront out later kept → AppendsFront first later reported
    sends_front front = subst (AppendsFront first later) was.is (front_behind first out later was.sent kept was.written front)

  -- what went out so far is a front
  pub front_now : AppendsFront first out reported
  front_now = front_so_far first out was.sent kept reported was.is was.written
