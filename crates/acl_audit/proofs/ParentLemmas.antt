-- A directory stands before what is in it, in the order of paths.
use Rattle.std.proofs.Common.{◌≡◌, ◌≢◌, ◌∙◌, ◌<◌, ℕ, zero, suc, Bool, true, false, ◌&&◌, ◌||◌, List, [], ◌∷◌, refl, sym, ap, length, take, nat_le, bytes_eq, arith, eqb-true, true≢false, Ordering}
use Rattle.std.specs.declared.cmp.Ordering.TheVariants.{Less}
use Rattle.std.specs.List.{list_all}
use Rattle.std.specs.Ordering.{ordering_then}
use Rattle.std.proofs.lemmas.Cmp.{nat_cmp_total, tied_itself}
use Rattle.std.proofs.lemmas.Slice.Eq.{bytes_eq-Decides}
use Rattle.acl_names.specs.Pieces.{parts}
use Rattle.acl_tree.specs.Path.{has_components, is_component, is_path, is_slash, or_root, parent}
use Rattle.acl_tree.specs.declared.limits.TheConstants.{MAX_PATH_LEN}
use Rattle.acl_audit.specs.Dump.{root}
use Rattle.acl_audit.proofs.PutLemmas.{order, and_left, and_right}

-- a front of a text that leaves something stands before it
front_less : (n : ℕ) (text : List ℕ) → n < length text → order (take n text) text ≡ Less
front_less n [] inside = absurd (omega arith)
front_less zero (byte ∷ bytes) inside = refl
front_less (suc n) (byte ∷ bytes) inside =
    ap (λ (o : Ordering). ordering_then o (order (take n bytes) bytes)) (tied_itself nat_cmp_total byte) ∙ front_less n bytes (omega arith)

-- a path that isn't the root begins with a slash, and goes on
begins : (path : List ℕ) → is_path path ≡ true → path ≢ root → has_components path ≡ true
begins path is other = by (bytes_eq path root) refl is
  where
    by : (b : Bool) → bytes_eq path root ≡ b → (b || (nat_le (length path) MAX_PATH_LEN && has_components path)) ≡ true → has_components path ≡ true
    by true same _ = absurd (other ((bytes_eq-Decides path root).0 same))
    by false same has = and_right (nat_le (length path) MAX_PATH_LEN) (has_components path) has

-- and so it stands behind the root
pub root_first : (path : List ℕ) → is_path path ≡ true → path ≢ root → order root path ≡ Less
root_first path is other = by path (begins path is other) other
  where
    by : (text : List ℕ) → has_components text ≡ true → text ≢ root → order root text ≡ Less
    by [] has apart = absurd (true≢false (sym has))
    by (first ∷ rest) has apart =
        let slash : first ≡ 47 = eqb-true first 47 (and_left (is_slash first) (list_all is_component (parts 47 rest)) has) in
        further first rest slash apart
      where
        further : (one : ℕ) (more : List ℕ) → one ≡ 47 → (one ∷ more) ≢ root → order root (one ∷ more) ≡ Less
        further one [] is_slash apart = absurd (apart (ap (λ (b : ℕ). b ∷ []) is_slash))
        further one (next ∷ more) is_slash apart =
            ap (λ (b : ℕ). order root (b ∷ next ∷ more)) is_slash

pub parent_before : (path : List ℕ) → is_path path ≡ true → path ≢ root → order (parent path) path ≡ Less
parent_before path is other = by path refl
  where
    front : (text : List ℕ) (n : ℕ) → path ≡ text → n < length text → order (or_root (take n text)) text ≡ Less
    front text n same inside = go (take n text) refl
      where
        go : (first : List ℕ) → take n text ≡ first → order (or_root first) text ≡ Less
        go [] none = ap (order root) (sym same) ∙ root_first path is other
        go (byte ∷ bytes) some = ap (λ (xs : List ℕ). order xs text) (sym some) ∙ front_less n text inside

    by : (text : List ℕ) → path ≡ text → order (parent text) text ≡ Less
    by [] same = absurd (true≢false (sym is ∙ ap is_path same))
    by (byte ∷ bytes) same = front (byte ∷ bytes) _ same (omega arith)
