-- Marks of whos, one entry after the other.
use Rattle.std.proofs.Common.{◌≡◌, ◌≢◌, ℕ, ◌<◌, ◌+◌, ◌==◌, map, Bool, true, false, cond, ◌&&◌, ◌||◌, List, []}
use Rattle.std.proofs.Common.{◌∷◌, ◌++◌, length, take, get_or, set, refl, sym, ap, ◌∙◌, add-one, zero, suc}
use Rattle.std.proofs.Common.{filter, arith, inl, inr, take-suc, get_or-set_other}
use Rattle.std.specs.List.{list_any}
use Rattle.std.proofs.lemmas.Bool.{cases_Bool, eqb-true, true≢false, and_parts}
use Rattle.std.proofs.lemmas.Bool.Decides.{Decides-eqb}
use Rattle.std.proofs.lemmas.List.Folds.{list_any-append}
use Rattle.std.proofs.Math.Bool.{or-false, and-false}
use Rattle.acl_names.specs.Bits.{union}
use Rattle.acl_nfs4.specs.Ace.{Nfsace4, decides, is_deny}
use Rattle.acl_nfs4.specs.Marks.{mark_of, IsMarked}
use Rattle.acl_nfs4.specs.ModeChange.{names, names_someone, denies_by_name, denied_to}
use Rattle.acl_nfs4.specs.Who.{same_who}
use Rattle.acl_nfs4.specs.declared.who.Who.{Who}
use Rattle.acl_nfs4.proofs.ModeChangeDenials.{same_who-true}

-- a test that an entry about another who doesn't pass
abbrev IsAbout : (Who → Nfsace4 → Bool) → Type 0
IsAbout test = (who : Who) (ace : Nfsace4) → test who ace ≡ true → ace.who ≡ who

pub names-about : IsAbout names
names-about who ace e = same_who-true ace.who who (and_parts (names_someone ace) (same_who ace.who who) e).1

pub denies-about : IsAbout denies_by_name
denies-about who ace e =
    same_who-true ace.who who (and_parts (is_deny ace.kind) (same_who ace.who who) (and_parts (decides ace) (is_deny ace.kind && same_who ace.who who) e).1).1

none_more : (test : Nfsace4 → Bool) (aces : List Nfsace4) (i : ℕ) (ace : Nfsace4) → i < length aces → ace ≡ get_or aces i ace
    → list_any test (take i aces) ≡ false → test ace ≡ false → list_any test (take (i + 1) aces) ≡ false
none_more test aces i ace inside here none other =
    ap (list_any test) (rw add-one (take-suc aces i ace inside) ∙ ap (λ x. take i aces ++ x ∷ []) (sym here))
    ∙ list_any-append test (take i aces) (ace ∷ [])
    ∙ ap (λ b. b || (test ace || false)) none
    ∙ or-false (test ace)
    ∙ other

get_or-set_true : (marks : List Bool) (i : ℕ) → get_or (set marks i true) i true ≡ true
get_or-set_true [] i = refl
get_or-set_true (mark ∷ marks) zero = refl
get_or-set_true (mark ∷ marks) (suc i) = get_or-set_true marks i

-- with the mark of the next entry's who
pub marked-more : (test : Who → Nfsace4 → Bool) → IsAbout test → (marks : List Bool) (aces : List Nfsace4) (i : ℕ) (ace : Nfsace4)
    → i < length aces → ace ≡ get_or aces i ace
    → IsMarked test marks (take i aces) → IsMarked test (set marks (mark_of ace.who) true) (take (i + 1) aces)
marked-more test about marks aces i ace inside here before who absent =
    elim (cases_Bool (mark_of who == mark_of ace.who)) [
      | inl same ↦ absurd (true≢false
          (sym (get_or-set_true marks (mark_of ace.who))
          ∙ ap (λ n. get_or (set marks (mark_of ace.who) true) n true) (sym (eqb-true (mark_of who) (mark_of ace.who) same)) ∙ absent))
      | inr other ↦
          let apart : mark_of who ≢ mark_of ace.who = λ e. true≢false (sym ((Decides-eqb (mark_of who) (mark_of ace.who)).1 e) ∙ other) in
          none_more (test who) aces i ace inside here
          (before who (sym (get_or-set_other marks (mark_of ace.who) (mark_of who) true true apart) ∙ absent))
          (fails (test who ace) refl apart)
    ]
  where
    fails : (b : Bool) → test who ace ≡ b → mark_of who ≢ mark_of ace.who → test who ace ≡ false
    fails true passes apart = absurd (apart (ap mark_of (sym (about who ace passes))))
    fails false e apart = e

-- an entry that fails the test of every who needs no mark
pub marked-on : (test : Who → Nfsace4 → Bool) (marks : List Bool) (aces : List Nfsace4) (i : ℕ) (ace : Nfsace4)
    → i < length aces → ace ≡ get_or aces i ace → ((who : Who) → test who ace ≡ false)
    → IsMarked test marks (take i aces) → IsMarked test marks (take (i + 1) aces)
marked-on test marks aces i ace inside here none before who absent = none_more (test who) aces i ace inside here (before who absent) (none who)

pub denies-none : (who : Who) (ace : Nfsace4) → is_deny ace.kind ≡ false → denies_by_name who ace ≡ false
denies-none who ace allows = ap (λ b. decides ace && (b && same_who ace.who who)) allows ∙ and-false (decides ace)

-- if no entry denies a who anything, nothing is denied
pub denied-none : (who : Who) (aces : List Nfsace4) → list_any (denies_by_name who) aces ≡ false → denied_to who aces ≡ 0
denied-none who [] none = refl
denied-none who (ace ∷ aces) none = go (denied-none who aces) (denies_by_name who ace) refl none
  where
    go : (list_any (denies_by_name who) aces ≡ false → denied_to who aces ≡ 0) → (b : Bool) → denies_by_name who ace ≡ b
        → (b || list_any (denies_by_name who) aces) ≡ false → denied_to who (ace ∷ aces) ≡ 0
    go later true is none = absurd (true≢false none)
    go later false is none = ap (λ b. union (map (λ (x : Nfsace4). x.mask) (cond b (ace ∷ filter (denies_by_name who) aces) (filter (denies_by_name who) aces)))) is ∙ later none

-- what stands within a list stands there whatever stands past its end
pub same_inside : (marks : List Bool) (i : ℕ) → i < length marks → get_or marks i true ≡ get_or marks i false
same_inside [] i inside = absurd (omega arith)
same_inside (mark ∷ marks) zero inside = refl
same_inside (mark ∷ marks) (suc i) inside = same_inside marks i (omega arith)
