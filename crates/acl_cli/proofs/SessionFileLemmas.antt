-- Texts for names, one more at a time.
use Rattle.std.proofs.Common.{◌≡◌, ◌<◌, ◌≤◌, ◌+◌, ◌++◌, ◌∷◌, [], ℕ, Bool, true, false, cond, Bor, List}
use Rattle.std.proofs.Common.{Option, arith, codes, count_by, bytes_eq, get_or, length, map, take, drop, ap}
use Rattle.std.proofs.Common.{refl, subst, sym, ◌∙◌}
use Rattle.std.specs.Prelude.{Contains}
use Rattle.std.proofs.lemmas.List.Elements.{Contains-get_or}
use Rattle.std.proofs.lemmas.List.{get_or-map, length-map, map-append, take-append-drop}
use Rattle.std.proofs.lemmas.List.Recursion.{is_count_by}
use Rattle.std.specs.declared.vec.Vec.{Vec}
use Rattle.std.specs.declared.alloc.Global.{Global}
use Rattle.clap.specs.Words.{Text}
use Rattle.acl_cli.specs.declared.failure.Failure.{Failure}
use Rattle.acl_cli.specs.Failures.{IsUnexplained}
use Rattle.acl_cli.specs.SessionFiles.{HasBytes, HaveBytes, bytes_of_session, input_count}
use Rattle.acl_cli.proofs.FailureLemmas.{IsUnexplained-as}

pub HaveBytes-more : (bytes_of : Text → Option (List ℕ)) (input : Option (List ℕ)) (names : List Text) (texts : List (Vec ℕ Global)) (name : Text) (text : Vec ℕ Global)
    → HaveBytes bytes_of input names texts → HasBytes (bytes_of_session bytes_of input name) text.items → HaveBytes bytes_of input (names ++ name ∷ []) (texts ++ text ∷ [])
HaveBytes-more bytes_of input [] [] name text reported last = (last, tt)
HaveBytes-more bytes_of input (first ∷ names) (before ∷ texts) name text (here, more) last = (here, HaveBytes-more bytes_of input names texts name text more last)
HaveBytes-more bytes_of input [] (before ∷ texts) name text reported last = absurd reported
HaveBytes-more bytes_of input (first ∷ names) [] name text reported last = absurd reported

-- the names themselves
abbrev pub shown : List (Bor (List ℕ)) → List Text
shown names = map (λ name. name.now) names

-- how many of all are standard input, by parts
pub input_count-append : (names more : List Text) → input_count (names ++ more) ≡ input_count names + input_count more
input_count-append [] more = omega arith
input_count-append (name ∷ names) more = go (bytes_eq name (codes "-")) (input_count-append names more)
  where
    go : (is_input : Bool) → input_count (names ++ more) ≡ input_count names + input_count more
        → cond is_input (1 + input_count (names ++ more)) (input_count (names ++ more)) ≡ cond is_input (1 + input_count names) (input_count names) + input_count more
    go true is = omega (arith, is)
    go false is = is

-- and by their count
pub input_count-counts : (names : List (Bor (List ℕ))) → input_count (shown names) ≡ count_by (λ name. bytes_eq name.now (codes "-")) names
input_count-counts names =
    is_count_by (λ names. input_count (shown names)) (λ name. bytes_eq name.now (codes "-")) refl (λ name names. refl) names

-- of names so far there are no more than of all
pub input_count-take : (names : List (Bor (List ℕ))) (at : ℕ) → input_count (shown (take at names)) ≤ input_count (shown names)
input_count-take names at =
    let parts = ap input_count (map-append (λ name. name.now) (take at names) (drop at names)) in
    let whole = ap (λ names. input_count (shown names)) (take-append-drop at names) in
    omega (arith, whole, parts, input_count-append (shown (take at names)) (shown (drop at names)))

module _ (so_far : List Text) (name : Text) where
  -- the next name is standard input's, or it isn't
  pub input_count-next : bytes_eq name (codes "-") ≡ true → input_count (so_far ++ name ∷ []) ≡ input_count so_far + 1
  input_count-next is = input_count-append so_far (name ∷ []) ∙ ap (λ (b : Bool). input_count so_far + cond b 1 0) is

  -- if none of them is standard input, the last isn't, and none before it
  pub none_so_far : input_count (so_far ++ name ∷ []) ≡ 0 → (input_count so_far ≡ 0) × (bytes_eq name (codes "-") ≡ false)
  none_so_far none = go (bytes_eq name (codes "-")) refl
    where
      go : (b : Bool) → bytes_eq name (codes "-") ≡ b → (input_count so_far ≡ 0) × (bytes_eq name (codes "-") ≡ false)
      go true is = absurd (omega (arith, none, input_count-next is))
      go false is = (omega (arith, none, input_count-append so_far (name ∷ [])), is)

-- what is reported for a text by the input as it is, by the input as it was, if it stayed for a name that is its
pub reported_before : (bytes_of : Text → Option (List ℕ)) (now first : Option (List ℕ)) (name : Text) (text : List ℕ)
    → (bytes_eq name (codes "-") ≡ true → now ≡ first) → HasBytes (bytes_of_session bytes_of now name) text → HasBytes (bytes_of_session bytes_of first name) text
reported_before bytes_of now first name text stayed = go (bytes_eq name (codes "-")) stayed
  where
    go : (b : Bool) → (b ≡ true → now ≡ first) → HasBytes (cond b now (bytes_of name)) text → HasBytes (cond b first (bytes_of name)) text
    go true stayed reported = subst (λ input. HasBytes input text) (stayed refl) reported
    go false stayed reported = reported

-- what is refused for one of the names is refused for the names
pub refused_among : (names : List (Bor (List ℕ))) (at : ℕ) (none : Bor (List ℕ)) → at < length names → (failure : Failure)
    → IsUnexplained (λ refused. refused ≡ (get_or names at none).now) failure → IsUnexplained (Contains (shown names)) failure
refused_among names at none within = IsUnexplained-as (λ refused. refused ≡ (get_or names at none).now) (Contains (shown names)) (λ refused is.
    subst (Contains (shown names)) (get_or-map (λ name. name.now) names at none none.now within ∙ sym is)
    (Contains-get_or (shown names) at none.now (subst (λ n. at < n) (sym (length-map names (λ name. name.now))) within)))
