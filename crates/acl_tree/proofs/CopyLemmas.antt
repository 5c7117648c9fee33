-- The finite map of a list's end, one entry more at a time.
use Rattle.std.proofs.Common.{◌≡◌, ◌∙◌, ◌+◌, ◌-◌, ◌<◌, ℕ, List, arith, ap, sym, length, drop, get_or}
use Rattle.std.proofs.lemmas.List.{drop_more}
use Rattle.std.specs.Cmp.Lexicographic.{nat_list_cmp_total}
use Rattle.std.specs.FinMap as finite
use Rattle.std.specs.FinMap.{nat_cmp-IsAntisymmetric, slice_cmp-IsAntisymmetric, get-from_entries, get-entries, same_map}
use Rattle.acl_tree.specs.Entries.{Entry}
use Rattle.acl_tree.specs.Tree.{Nodes}

-- the map of a list of entries
abbrev pub map_of : List Entry → Nodes
map_of entries = finite.from_entries entries

-- the map of its entries is the map
pub map_of_entries : (nodes : Nodes) → map_of (finite.entries nodes) ≡ nodes
map_of_entries nodes =
    same_map nat_list_cmp_total (slice_cmp-IsAntisymmetric nat_cmp-IsAntisymmetric) _ _
    (λ path. get-from_entries nat_list_cmp_total (finite.entries nodes) path ∙ sym (get-entries nodes path))

-- with one entry more, counted from the end
pub one_more : (entries : List Entry) (copied : ℕ) (entry : Entry) → copied < length entries → get_or entries (length entries - (copied + 1)) entry ≡ entry
    → map_of (drop (length entries - (copied + 1)) entries) ≡ finite.insert (map_of (drop (length entries - copied) entries)) entry.0 entry.1
one_more entries copied entry within is =
    let at = length entries - (copied + 1) in
    let next : at + 1 ≡ length entries - copied = omega (arith, within) in
    ap map_of (drop_more entries at entry (omega (arith, within)))
    ∙ ap (λ (e : Entry). finite.insert (map_of (drop (at + 1) entries)) e.0 e.1) is
    ∙ ap (λ (n : ℕ). finite.insert (map_of (drop n entries)) entry.0 entry.1) next
