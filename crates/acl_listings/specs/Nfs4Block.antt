-- The block of a file with NFSv4 entries instead of its lists.
use Rattle.std.specs.Prelude.{◌≡◌, ◌<◌, ◌≤◌, ◌+◌, ℕ, List, [], ◌∷◌, ◌++◌, Ok, codes, length}
use Rattle.std.specs.Prelude.{if◌then◌else◌}
use Rattle.std.specs.List.{flat_map}
use Rattle.acl_names.specs.Bytes.{newline}
use Rattle.acl_names.specs.Names.{Names}
use Rattle.acl_nfs4.specs.Ace.{Nfsace4}
use Rattle.acl_nfs4.specs.Acl.{AreAces}
use Rattle.acl_nfs4.specs.NamedAces.{ReadNumbers}
use Rattle.acl_nfs4.specs.PrintedText.{HaveIds}
use Rattle.acl_listings.specs.Block.{FileValue, file_by}
use Rattle.acl_listings.specs.Guess.{begins}
use Rattle.acl_listings.specs.Lines.{after_line, first_line}
use Rattle.acl_listings.specs.declared.limits.TheConstants.{MAX_BLOCK}
use Rattle.acl_listings.specs.declared.lists.Lists.TheVariants.{Nfs4}

-- a text's first line, and its newline
abbrev pub ended_line : List ℕ → List ℕ
ended_line text = first_line text ++ newline ∷ []

-- the line of the flags, if there is one
abbrev pub flags_line : List ℕ → List ℕ
flags_line list = if begins (codes "# flags: ") (first_line list) then ended_line list else []

-- the lines at the front of a block, unchanged: those of the file, its owner, its group and its
-- flags
abbrev pub front_of : List ℕ → List ℕ
front_of text =
    let second = after_line text in
    let third = after_line second in
    ended_line text ++ (ended_line second ++ (ended_line third ++ flags_line (after_line third)))

-- a line for each entry, as one is printed
abbrev pub aces_lines : (Nfsace4 → List ℕ) → List Nfsace4 → List ℕ
aces_lines print aces = flat_map (λ ace. print ace ++ newline ∷ []) aces

abbrev pub nfs4_block : (Nfsace4 → List ℕ) → List ℕ → List Nfsace4 → List ℕ
nfs4_block print text aces = front_of text ++ aces_lines print aces

-- A block is read as the same file with other lists, if its own entries are replaced by a line for
-- each of these, printed in this form. They are entries of a list, there is at least one, and the
-- block is no longer than one may be.
abbrev pub AreReadAgain : (Nfsace4 → List ℕ) → Type 0
AreReadAgain print =
    (names : Names) (text : List ℕ) (file : FileValue) (aces : List Nfsace4)
    → ReadNumbers names → AreAces aces → HaveIds aces → 0 < length aces
    → file_by names text ≡ Ok file → length (nfs4_block print text aces) ≤ MAX_BLOCK + 1
    → (block : List ℕ) × (nfs4_block print text aces ≡ block ++ newline ∷ [])
    × (file_by names block ≡ Ok (record file { lists = Nfs4 aces }))
