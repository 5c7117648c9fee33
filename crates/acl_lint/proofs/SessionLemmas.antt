-- What is reported for the lines of a session, one more at a time, and of sessions.
use Rattle.std.proofs.Common.{◌≡◌, ◌∙◌, ◌<◌, ◌+◌, ◌++◌, ℕ, Bor, List, [], ◌∷◌, Vec, Global, ap, append_assoc, drop, get_or, length, map, refl, sym}
use Rattle.std.specs.List.{flat_map}
use Rattle.std.proofs.lemmas.Grind.{flat_map-append}
use Rattle.std.proofs.lemmas.List.{drop_more}
use Rattle.clap.specs.Words.{Text}
use Rattle.acl_names.specs.Bytes.{newline}
use Rattle.acl_names.specs.Directory.{Known}
use Rattle.acl_names.specs.Pieces.{parts, without_empty_last}
use Rattle.acl_lint.specs.LintText.{found_from, found_in_line, found_text, session_text, sessions_text}

-- what is reported for the lines after so many
abbrev pub reported_from : Known → Text → ℕ → List (List ℕ) → List ℕ
reported_from known name before lines = flat_map (found_text name) (found_from known before lines)

module _ (known : Known) where
  -- an empty last line reports nothing
  found_from-empty_last : (before : ℕ) (lines : List (List ℕ)) → found_from known before (without_empty_last lines) ≡ found_from known before lines
  found_from-empty_last before [] = refl
  found_from-empty_last before ([] ∷ []) = refl
  found_from-empty_last before ([] ∷ (next ∷ more)) = ap (λ rest. found_in_line known (before + 1) [] ++ rest) (found_from-empty_last (before + 1) (next ∷ more))
  found_from-empty_last before ((byte ∷ bytes) ∷ more) = ap (λ rest. found_in_line known (before + 1) (byte ∷ bytes) ++ rest) (found_from-empty_last (before + 1) more)

  -- the parts round the newlines report what the lines do
  pub reported_of_parts : (name : Text) (text : List ℕ) → reported_from known name 0 (parts newline text) ≡ session_text known name text
  reported_of_parts name text = ap (flat_map (found_text name)) (sym (found_from-empty_last 0 (parts newline text)))

  module _ (name : Text) (sent : List ℕ) (all : List ℕ) where
    -- a line more is reported
    pub session-next : (kept new : List ℕ) (number : ℕ) (lines : List (List ℕ)) (line : List ℕ) (more : List (List ℕ)) → lines ≡ line ∷ more
        → new ≡ kept ++ flat_map (found_text name) (found_in_line known (number + 1) line)
        → sent ++ (kept ++ reported_from known name number lines) ≡ all → sent ++ (new ++ reported_from known name (number + 1) more) ≡ all
    session-next kept new number lines line more are is left =
        let reported = flat_map (found_text name) (found_in_line known (number + 1) line) in
        let rest = reported_from known name (number + 1) more in
        let split : reported_from known name number lines ≡ reported ++ rest =
        ap (reported_from known name number) are ∙ flat_map-append (found_text name) (found_in_line known (number + 1) line) (found_from known (number + 1) more) in
        ap (λ bytes. sent ++ (bytes ++ rest)) is ∙ ap (λ bytes. sent ++ bytes) (append_assoc kept reported rest)
        ∙ ap (λ bytes. sent ++ (kept ++ bytes)) (sym split) ∙ left

-- what was kept went out, or stays
pub session-sent : (sent kept rest more new all : List ℕ) → sent ++ (kept ++ rest) ≡ all → kept ≡ more ++ new → (sent ++ more) ++ (new ++ rest) ≡ all
session-sent sent kept rest more new all left is =
    append_assoc sent more (new ++ rest) ∙ ap (λ bytes. sent ++ bytes) (sym (append_assoc more new rest)) ∙ ap (λ bytes. sent ++ (bytes ++ rest)) (sym is) ∙ left

-- the names themselves
abbrev pub shown : List (Bor (List ℕ)) → List Text
shown names = map (λ name. name.now) names

-- what is reported for the sessions from one on
pub sessions-next : (known : Known) (names : List (Bor (List ℕ))) (texts : List (Vec ℕ Global)) (at : ℕ) (name : Bor (List ℕ)) (text : Vec ℕ Global)
    → at < length names → at < length texts → text ≡ get_or texts at text
    → session_text known (get_or names at name).now text.items ++ sessions_text known (shown (drop (at + 1) names)) (drop (at + 1) texts)
    ≡ sessions_text known (shown (drop at names)) (drop at texts)
sessions-next known names texts at name text within inside is = rw (drop_more names at name within, drop_more texts at text inside, ← is) refl
