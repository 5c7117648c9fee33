-- How long printed entries are.
use Rattle.std.proofs.Common.{◌≡◌, ◌≤◌, ◌+◌, ◌*◌, ℕ, List, [], ◌∷◌, ◌++◌, length, length-append, refl, arith}
use Rattle.acl_names.specs.Bytes.{colon, newline}
use Rattle.acl_names.specs.Directory.{Known}
use Rattle.acl_names.specs.Letters.{letters_text}
use Rattle.acl_nfs4.specs.Ace.{Nfsace4}
use Rattle.acl_nfs4.specs.Letters.{flag_table, mask_table}
use Rattle.acl_nfs4.specs.PrintedText.{ace_text, aces_text, fields_text, front_text, line_text, type_text, who_text}
use Rattle.acl_nfs4.specs.declared.ace.AceType.{AceType}
use Rattle.acl_nfs4.specs.declared.ace.AceType.TheVariants.{Allow, Deny, Audit, Alarm}
use Rattle.acl_nfs4.specs.declared.printing.TheConstants.{SHORTEST_LINE}

-- an entry is as long as its front, its who, a colon and its letters
fields_length : (who : List ℕ) (ace : Nfsace4) → length (fields_text who ace) ≡ length (front_text ace) + length who + 1 + length (letters_text mask_table ace.mask)
fields_length who ace =
    let kind = type_text ace.kind in
    let flags = letters_text flag_table ace.flags in
    let mask = letters_text mask_table ace.mask in
    omega (
      arith,
      length-append kind (colon ∷ (flags ++ colon ∷ (who ++ colon ∷ mask))),
      length-append flags (colon ∷ (who ++ colon ∷ mask)),
      length-append who (colon ∷ mask),
      length-append kind (colon ∷ (flags ++ colon ∷ [])),
      length-append flags (colon ∷ []),
    )

type_length : (kind : AceType) → length (type_text kind) ≡ 1
type_length Allow = refl
type_length Deny = refl
type_length Audit = refl
type_length Alarm = refl

-- a line is no shorter than the shortest
line_length : (known : Known) (ace : Nfsace4) → SHORTEST_LINE ≤ length (line_text known ace)
line_length known ace =
    let kind = type_text ace.kind in
    let flags = letters_text flag_table ace.flags in
    omega (
      arith,
      type_length ace.kind,
      fields_length (who_text known ace.who) ace,
      length-append kind (colon ∷ (flags ++ colon ∷ [])),
      length-append flags (colon ∷ []),
      length-append (ace_text known ace) (newline ∷ []),
    )

-- the lines are no shorter than as many of the shortest
pub lines_length : (known : Known) (aces : List Nfsace4) → length aces * SHORTEST_LINE ≤ length (aces_text known aces)
lines_length known [] = omega arith
lines_length known (ace ∷ aces) =
    let here = line_length known ace in
    let more = lines_length known aces in
    omega (arith, here, more, length-append (line_text known ace) (aces_text known aces))
