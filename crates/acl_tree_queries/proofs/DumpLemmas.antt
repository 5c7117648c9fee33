-- The lines of a dump, one more at a time.
use Rattle.std.proofs.Common.{◌≡◌, ◌∙◌, ◌<◌, ◌+◌, ◌++◌, ℕ, zero, suc, List, [], ◌∷◌, Result, Err, IfErr, inl, inr}
use Rattle.std.proofs.Common.{ap, append_assoc, append-nil, arith, get_or, length, length-append, map as each}
use Rattle.std.proofs.Common.{refl, subst, sym, take}
use Rattle.std.specs.List.{flat_map}
use Rattle.std.proofs.lemmas.Grind.{flat_map-append}
use Rattle.std.proofs.lemmas.List.{map-append, take_more}
use Rattle.std.proofs.lemmas.List.Elements.{All-append, Contains-append_left, Contains-append_right}
use Rattle.std.proofs.lemmas.Result.{IfErr-weaker}
use Rattle.acl_names.specs.Bytes.{newline}
use Rattle.acl_tree.specs.Entries.{Entry}
use Rattle.acl_tree.specs.declared.request.Request.{Request}
use Rattle.acl_lang.specs.CommandText.{command_text, session_text}
use Rattle.acl_lang.specs.declared.limits.TheConstants.{MAX_LINE_LEN}
use Rattle.acl_tree_queries.specs.TreeMeaning.{IsAnswerFailure}
use Rattle.acl_tree_queries.specs.DumpText.{AddsLines, HasLongLine, IsDumped}
use Rattle.acl_cli.specs.declared.failure.Failure.{Failure}

-- ---- what was added

pub more_lines : (first second : List Request) (old mid new : List ℕ) → AddsLines first old mid → AddsLines second mid new → AddsLines (first ++ second) old new
more_lines first second old mid new before behind = record {
  text = behind.text ∙ ap (λ bytes. bytes ++ session_text second) before.text ∙ append_assoc old (session_text first) (session_text second)
      ∙ ap (λ bytes. old ++ bytes) (sym (flat_map-append (λ request. command_text request ++ newline ∷ []) first second));
  dumped = All-append IsDumped first second before.dumped behind.dumped;
}

-- ---- what was too long

pub long_line : (request : Request) (old command : List ℕ) → command ≡ old ++ command_text request → length old + MAX_LINE_LEN < length command
    → HasLongLine (request ∷ [])
long_line request old command is long =
    (request, (0, omega arith, refl), omega (arith, long, ap length is, length-append old (command_text request)))

pub long_before : (first second : List Request) → HasLongLine first → HasLongLine (first ++ second)
long_before first second (request, among, long) = (request, Contains-append_left first second request among, long)

pub long_behind : (first second : List Request) → HasLongLine second → HasLongLine (first ++ second)
long_behind first second (request, among, long) = (request, Contains-append_right first second request among, long)

-- the fault of a part is that of the whole
pub fault_weaker : (P Q : Type 0) → (P → Q) → (failure : Failure) → IsAnswerFailure P failure → IsAnswerFailure Q failure
fault_weaker P Q then failure (inl (is, refused)) = inl (is, then refused)
fault_weaker P Q then failure (inr lack) = inr lack

pub refused_weaker : {T : Type 0} (result : Result T Failure) (P Q : Type 0) → (P → Q) → IfErr result (IsAnswerFailure P) → IfErr result (IsAnswerFailure Q)
refused_weaker result P Q then = IfErr-weaker result (IsAnswerFailure P) (IsAnswerFailure Q) (fault_weaker P Q then)

-- what holds of the fault that a result has
pub of_fault : {T E : Type 0} (result : Result T E) (fault : E) (P : E → Type 0) → result ≡ Err fault → P fault → IfErr result P
of_fault result fault P is holds = subst (λ r. IfErr r P) (sym is) holds

-- ---- of one entry more

module _ {A : Type 0} (shown : A → Entry) (lines : Entry → List Request) where
  next_are : (items : List A) (at : ℕ) (item : A) → at < length items → get_or items at item ≡ item
      → flat_map lines (each shown (take (at + 1) items)) ≡ flat_map lines (each shown (take at items)) ++ lines (shown item)
  next_are items at item within here =
      let before : List Entry = each shown (take at items) in
      ap (λ some. flat_map lines (each shown some)) (take_more items at item within ∙ ap (λ one. take at items ++ one ∷ []) here)
      ∙ ap (flat_map lines) (map-append shown (take at items) (item ∷ []))
      ∙ flat_map-append lines before (shown item ∷ [])
      ∙ ap (λ requests. flat_map lines before ++ requests) (append-nil (lines (shown item)))

  pub next_lines : (items : List A) (at : ℕ) (item : A) → at < length items → get_or items at item ≡ item → (old mid new : List ℕ)
      → AddsLines (flat_map lines (each shown (take at items))) old mid → AddsLines (lines (shown item)) mid new
      → AddsLines (flat_map lines (each shown (take (at + 1) items))) old new
  next_lines items at item within here old mid new before next =
      subst (λ requests. AddsLines requests old new) (sym (next_are items at item within here))
      (more_lines (flat_map lines (each shown (take at items))) (lines (shown item)) old mid new before next)

  pub long_within : (items : List A) (at : ℕ) (item : A) → at < length items → get_or items at item ≡ item → HasLongLine (lines (shown item))
      → HasLongLine (flat_map lines (each shown items))
  long_within [] at item within here long = absurd (omega (arith, within))
  long_within (first ∷ items) zero item within here long =
      long_before (lines (shown first)) (flat_map lines (each shown items)) (subst (λ one. HasLongLine (lines (shown one))) (sym here) long)
  long_within (first ∷ items) (suc at) item within here long =
      long_behind (lines (shown first)) (flat_map lines (each shown items)) (long_within items at item (omega (arith, within)) here long)
