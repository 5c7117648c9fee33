-- Two blocks that are alike behind their first lines say files that are alike but for their paths.
use Rattle.std.proofs.Common.{◌≡◌, ◌∙◌, ◌≤◌, ℕ, Bool, true, false, cond, nat_le, List, length, Option, Some, None, Result, Ok, Err, ap, arith, codes, option_and_then, sym}
use Rattle.std.proofs.lemmas.Bool.Decides.{nat_tests}
use Rattle.std.proofs.lemmas.Option.{cond_some}
use Rattle.acl_names.specs.Names.{Names}
use Rattle.acl_names.specs.Steps.{◌>>=◌, or_fault}
use Rattle.acl_names.proofs.StepLemmas.{bind_ok, given}
use Rattle.acl_listings.specs.BlockLists.{lists_by}
use Rattle.acl_listings.specs.Block.{FileValue, file_by, owners_by, path_of, within_limit}
use Rattle.acl_listings.specs.Header.{Header, after_prefix, as_header, header_of, path_in}
use Rattle.acl_listings.specs.Lines.{after_line, first_line}
use Rattle.acl_listings.specs.declared.fault.BlockFault.{BlockFault}
use Rattle.acl_listings.specs.declared.fault.BlockFault.TheVariants.{TooLong, BadHeader}
use Rattle.acl_listings.specs.declared.limits.TheConstants.{MAX_BLOCK}
use Rattle.acl_listings.proofs.HandedLemmas.{from_lists, from_block, from_header, from_ids}

abbrev header_at : List ℕ → Header → Header
header_at path header = record { path = path; owner = header.owner; group = header.group; list = header.list }

abbrev pub file_at : List ℕ → FileValue → FileValue
file_at path file = record { path = path; owner = file.owner; group = file.group; flags = file.flags; lists = file.lists }

abbrev found_at : List ℕ → Option Header → Option Header
found_at path (Some header) = Some (header_at path header)
found_at path None = None

abbrev said_at : List ℕ → Result FileValue BlockFault → Result FileValue BlockFault
said_at path (Ok file) = Ok (file_at path file)
said_at path (Err fault) = Err fault

other_path : (path : Option (List ℕ)) (other : List ℕ) (owner group : Option (List ℕ)) (list : List ℕ) (header : Header) → as_header path owner group list ≡ Some header
    → as_header (Some other) owner group list ≡ Some (header_at other header)
other_path (Some path) other (Some owner) (Some group) list header is = ap (found_at other) is
other_path (Some path) other (Some owner) None list header is = cc
other_path (Some path) other None group list header is = cc
other_path None other (Some owner) (Some group) list header is = cc
other_path None other (Some owner) None list header is = cc
other_path None other None (Some group) list header is = cc
other_path None other None None list header is = cc

-- the header that lines behind the first make with a path
abbrev behind : Option (List ℕ) → List ℕ → Option Header
behind path lines = as_header path (after_prefix (codes "# owner: ") (first_line lines)) (after_prefix (codes "# group: ") (first_line (after_line lines))) (after_line (after_line lines))

path_read : (text path : List ℕ) → path_of text ≡ Some path → path_in (first_line text) ≡ Some path
path_read text path is = by (nat_le (length (first_line text)) MAX_BLOCK) is
  where
    by : (b : Bool) → option_and_then path_in (cond b (Some (first_line text)) None) ≡ Some path → path_in (first_line text) ≡ Some path
    by true is = is
    by false is = cc

pub file_of-alike : (names : Names) (one other : List ℕ) (file : FileValue) (path : List ℕ) → after_line one ≡ after_line other → length other ≤ MAX_BLOCK → path_of other ≡ Some path
    → file_by names one ≡ Ok file → file_by names other ≡ Ok (file_at path file)
file_of-alike names one other file path same short is_at is =
    let (block, taken, of_block) = bind_ok (or_fault TooLong (within_limit one)) (from_block names) file is in
    let (_, own) = cond_some (nat_le (length one) MAX_BLOCK) one block (given TooLong (within_limit one) block taken) in
    let (header, read, of_header) = bind_ok (or_fault BadHeader (header_of block)) (from_header names) file of_block in
    let (ids, its, of_ids) = bind_ok (owners_by names header) (from_ids names header) file of_header in
    let (lists, listed, made) = bind_ok (lists_by names header.list) (from_lists header ids) file of_ids in
    let header_is : header_of one ≡ Some header = ap header_of own ∙ given BadHeader (header_of block) header read in
    let lines_is : behind (path_in (first_line one)) (after_line other) ≡ Some header = ap (behind (path_in (first_line one))) (sym same) ∙ header_is in
    let other_is : header_of other ≡ Some (header_at path header) =
    ap (λ found. behind found (after_line other)) (path_read other path is_at) ∙ other_path (path_in (first_line one)) path _ _ _ header lines_is in
    let fits : nat_le (length other) MAX_BLOCK ≡ true = grind (arith, nat_tests) in
    ap (λ b. or_fault TooLong (cond b (Some other) None) >>= from_block names) fits
    ∙ ap (λ found. or_fault BadHeader found >>= from_header names) other_is
    ∙ ap (λ ids. ids >>= from_ids names (header_at path header)) its
    ∙ ap (λ list. list >>= from_lists (header_at path header) ids) listed
    ∙ ap (said_at path) made
