-- Putting entries into a buffer, one behind the other.
use Rattle.std.proofs.Common.{◌≡◌, ℕ, ◌+◌, ◌*◌, ◌≤◌, ◌<◌, List, [], ◌∷◌, ◌++◌, length, get_or, take, drop, map, add-one, refl, sym, ap, ◌∙◌, append_assoc, arith, length-append}
use Rattle.std.specs.List.{flat_map}
use Rattle.std.proofs.lemmas.List.{take_at, drop_at, drop-drop, length-take, length-map, map-append, set_at, take_more}
use Rattle.std.proofs.Math.ListN.{set}
use Rattle.std.proofs.Math.Seq.{drop-cons}
use Rattle.std.proofs.lemmas.List.Concat.{flat_map-cons}
use Rattle.acl_posix.specs.Entry.{EntryValue}
use Rattle.acl_names.proofs.TakeLemmas.{flat_map-take-next}
use Rattle.acl_wire.specs.Xattr.{entry_bytes, xattr_of}

-- what was put, some bytes more, and the rest of the buffer
pub put_behind : {A : Type 0} (front more old : List A) (n : ℕ) → length front ≡ n
    → take n (front ++ drop n old) ++ (more ++ drop (n + length more) (front ++ drop n old)) ≡ (front ++ more) ++ drop (n + length more) old
put_behind front more old n is =
    let before : take n (front ++ drop n old) ≡ front = take_at front (drop n old) n is in
    let behind : drop (n + length more) (front ++ drop n old) ≡ drop (n + length more) old =
    sym (drop-drop (length more) n (front ++ drop n old)) ∙ ap (drop (length more)) (drop_at front (drop n old) n is) ∙ drop-drop (length more) n old in
    rw (before, behind) (sym (append_assoc front more (drop (n + length more) old)))

-- each entry has eight bytes
pub length-entries : (entries : List EntryValue) → length (flat_map entry_bytes entries) ≡ 8 * length entries
length-entries [] = refl
length-entries (entry ∷ more) =
    ap length (flat_map-cons entry_bytes entry more) ∙ length-append (entry_bytes entry) (flat_map entry_bytes more) ∙ omega (arith, length-entries more)

pub length-xattr : (entries : List EntryValue) → length (xattr_of entries) ≡ 4 + 8 * length entries
length-xattr entries = omega (arith, length-entries entries)

-- one entry more
pub xattr_more : (entries : List EntryValue) (old : List ℕ) (i : ℕ) (entry : EntryValue) → i < length entries → entry ≡ get_or entries i entry
    → take (4 + 8 * i) (xattr_of (take i entries) ++ drop (4 + 8 * i) old)
    ++ (entry_bytes entry ++ drop (4 + 8 * i + 8) (xattr_of (take i entries) ++ drop (4 + 8 * i) old))
    ≡ xattr_of (take (i + 1) entries) ++ drop (4 + 8 * (i + 1)) old
xattr_more entries old i entry lt is =
    let len : length (xattr_of (take i entries)) ≡ 4 + 8 * i = omega (arith, length-xattr (take i entries), length-take i entries) in
    let count : 4 + 8 * i + 8 ≡ 4 + 8 * (i + 1) = omega arith in
    let more : xattr_of (take i entries) ++ entry_bytes entry ≡ xattr_of (take (i + 1) entries) =
    ap (λ (bytes : List ℕ). 2 ∷ 0 ∷ 0 ∷ 0 ∷ bytes) (sym (flat_map-take-next entry_bytes entries i entry lt is)) in
    put_behind (xattr_of (take i entries)) (entry_bytes entry) old (4 + 8 * i) len
    ∙ ap (λ (bytes : List ℕ). bytes ++ drop (4 + 8 * i + 8) old) more
    ∙ ap (λ (n : ℕ). xattr_of (take (i + 1) entries) ++ drop n old) count

-- what the elements so far became, and one more in the place of the next
pub map_more : {A B : Type 0} (f : A → B) (xs : List A) (old : List B) (i : ℕ) (x : A) (y : B) → i < length xs → length xs ≤ length old → x ≡ get_or xs i x
    → set (map f (take i xs) ++ drop i old) i (f x) ≡ map f (take (i + 1) xs) ++ drop (i + 1) old
map_more {A} {B} f xs old i x y lt room is =
    let next : drop i old ≡ get_or old i y ∷ drop (i + 1) old = rw add-one (drop-cons old i y (omega arith)) in
    let count : length (map f (take i xs)) ≡ i = length-map (take i xs) f ∙ omega (arith, length-take i xs) in
    let more : map f (take (i + 1) xs) ≡ map f (take i xs) ++ f x ∷ [] =
    ap (map f) (take_more xs i x lt) ∙ map-append f (take i xs) (get_or xs i x ∷ []) ∙ ap (λ (z : A). map f (take i xs) ++ f z ∷ []) (sym is) in
    ap (λ (rest : List B). set (map f (take i xs) ++ rest) i (f x)) next
    ∙ set_at (map f (take i xs)) (get_or old i y) (drop (i + 1) old) (f x) i count
    ∙ sym (append_assoc (map f (take i xs)) (f x ∷ []) (drop (i + 1) old))
    ∙ ap (λ (front : List B). front ++ drop (i + 1) old) (sym more)
