-- A block that says something of a file has the file's path.
use Rattle.std.proofs.Common.{◌≡◌, ◌∙◌, ◌≤◌, ℕ, true, cond, nat_le, List, length, length-take, Option, Some, None, Result, Ok, Err, ap, arith, option_and_then}
use Rattle.std.proofs.lemmas.Bool.Decides.{nat_tests}
use Rattle.std.proofs.lemmas.Option.{cond_some}
use Rattle.acl_names.specs.Names.{Names}
use Rattle.acl_names.specs.Steps.{or_fault}
use Rattle.acl_names.proofs.StepLemmas.{bind_ok, given}
use Rattle.acl_listings.specs.Block.{FileValue, file_by, owners_by, path_of, within_limit}
use Rattle.acl_listings.specs.BlockLists.{lists_by}
use Rattle.acl_listings.specs.Header.{Header, as_header, header_of, path_in}
use Rattle.acl_listings.specs.Lines.{first_line}
use Rattle.acl_listings.specs.declared.fault.BlockFault.{BlockFault}
use Rattle.acl_listings.specs.declared.fault.BlockFault.TheVariants.{TooLong, BadHeader}
use Rattle.acl_listings.specs.declared.limits.TheConstants.{MAX_BLOCK}
use Rattle.acl_listings.proofs.HandedLemmas.{from_lists, from_block, from_header, from_ids}

-- a text that is within the limit, and how long it is
limited : (text block : List ℕ) → within_limit text ≡ Some block → (text ≡ block) × (length text ≤ MAX_BLOCK)
limited text block is =
    let (short, same) = cond_some (nat_le (length text) MAX_BLOCK) text block is in
    (same, grind (arith, nat_tests, short))

within : (text : List ℕ) → length text ≤ MAX_BLOCK → within_limit text ≡ Some text
within text short = ap (λ b. cond b (Some text) None) is
  where
    is : nat_le (length text) MAX_BLOCK ≡ true
    is = grind (arith, nat_tests)

path_in_header : (path : Option (List ℕ)) (owner group : Option (List ℕ)) (list : List ℕ) (header : Header) → as_header path owner group list ≡ Some header → path ≡ Some header.path
path_in_header (Some path) (Some owner) (Some group) list header is = ap (λ found. path_found found) is
  where
    path_found : Option Header → Option (List ℕ)
    path_found (Some header) = Some header.path
    path_found None = None
path_in_header (Some path) (Some owner) None list header is = cc
path_in_header (Some path) None group list header is = cc
path_in_header None (Some owner) (Some group) list header is = cc
path_in_header None (Some owner) None list header is = cc
path_in_header None None (Some group) list header is = cc
path_in_header None None None list header is = cc

abbrev path_read : Result FileValue BlockFault → Option (List ℕ)
path_read (Ok file) = Some file.path
path_read (Err fault) = None

pub path_of-file : (names : Names) (text : List ℕ) (file : FileValue) → file_by names text ≡ Ok file → path_of text ≡ Some file.path
path_of-file names text file is =
    let (block, taken, of_block) = bind_ok (or_fault TooLong (within_limit text)) (from_block names) file is in
    let (same, short) = limited text block (given TooLong (within_limit text) block taken) in
    let (header, read, of_header) = bind_ok (or_fault BadHeader (header_of block)) (from_header names) file of_block in
    let (ids, its, of_ids) = bind_ok (owners_by names header) (from_ids names header) file of_header in
    let (lists, listed, made) = bind_ok (lists_by names header.list) (from_lists header ids) file of_ids in
    let front : path_in (first_line block) ≡ Some header.path = path_in_header (path_in (first_line block)) _ _ _ header (given BadHeader (header_of block) header read) in
    let line_is : length (first_line text) ≤ MAX_BLOCK = omega (arith, short, length-take {A = ℕ}) in
    ap (option_and_then path_in) (within (first_line text) line_is)
    ∙ ap (λ text. path_in (first_line text)) same ∙ front ∙ ap path_read made
