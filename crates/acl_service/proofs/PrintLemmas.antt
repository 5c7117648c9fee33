-- What is printed of sessions, one after the other.
use Rattle.std.proofs.Common.{◌≡◌, ◌<◌, ◌≤◌, ◌+◌, ◌++◌, ◌∷◌, [], ℕ, Bor, List, ap, append_assoc, append-nil, arith, codes, decimal, drop, get_or, length, map, refl, flat_map}
use Rattle.std.proofs.lemmas.List.{drop_more}
use Rattle.std.specs.declared.vec.Vec.{Vec}
use Rattle.std.specs.declared.alloc.Global.{Global}
use Rattle.acl_names.specs.Bytes.{newline}
use Rattle.acl_service.specs.RunText.{sessions_text}

-- the outputs as lists
abbrev pub all_items : List (Vec ℕ Global) → List (List ℕ)
all_items outputs = map (λ output. output.items) outputs

-- a title, and what stands after it
titled : (title number body more : List ℕ) → (title ++ (number ++ newline ∷ (body ++ []))) ++ more ≡ (title ++ number ++ newline ∷ []) ++ body ++ more
titled title number body more = simp (append_assoc, append-nil)

-- the texts that are written of a session, its number and its output among them
abbrev pub session_texts : List ℕ → List ℕ → List ℕ
session_texts number body = codes "session " ++ (number ++ newline ∷ (body ++ []))

-- the text of the sessions from one on begins with that one's
pub sessions_text-next : (outputs : List (Vec ℕ Global)) (session : ℕ) (output : Vec ℕ Global) (number body : List ℕ) → session < length outputs
    → output ≡ get_or outputs session output → number ≡ decimal session → body ≡ output.items
    → session_texts number body ++ sessions_text (session + 1) (all_items (drop (session + 1) outputs))
    ≡ sessions_text session (all_items (drop session outputs))
sessions_text-next outputs session output number body within is is_number is_body =
    rw (drop_more outputs session output within, ← is, is_number, is_body)
    (titled (codes "session ") (decimal session) output.items (sessions_text (session + 1) (all_items (drop (session + 1) outputs))))

-- a list of one member is that member's
pub only_one : {A : Type 0} (list : List A) (member : A) → 1 ≤ length list → length list < 2 → get_or list 0 member ≡ member → list ≡ member ∷ []
only_one [] member some few is = absurd (omega arith)
only_one (first ∷ []) member some few is = ap (λ it. it ∷ []) is
only_one (first ∷ second ∷ more) member some few is = absurd (omega arith)

-- the texts from one on are that one, and those from the next on
pub texts-next : (texts : List (Bor (List ℕ))) (at : ℕ) (none : Bor (List ℕ)) → at < length texts
    → flat_map (λ text. text.now) (drop at texts) ≡ (get_or texts at none).now ++ flat_map (λ text. text.now) (drop (at + 1) texts)
texts-next texts at none within = rw (drop_more texts at none within) refl
