-- What the lines of a block say of the file that it has.
use Rattle.std.proofs.Common.{◌≡◌, ◌∙◌, ℕ, nat_le, length, List, Option, Some, None, Result, Ok, Err, ap, codes}
use Rattle.std.proofs.lemmas.Option.{cond_some}
use Rattle.acl_names.specs.Names.{Names, resolved}
use Rattle.acl_names.specs.Steps.{or_fault}
use Rattle.acl_names.specs.declared.directory.resolve.NameFault.{NameFault}
use Rattle.acl_names.specs.declared.directory.resolve.NameFault.TheVariants.{Malformed, Unknown}
use Rattle.acl_names.proofs.StepLemmas.{bind_ok, given}
use Rattle.acl_listings.specs.Block.{FileValue, file_by, owners_by, owners_of, within_limit}
use Rattle.acl_listings.specs.BlockLists.{lists_by}
use Rattle.acl_listings.specs.FileFlags.{flags_by}
use Rattle.acl_listings.specs.Header.{Header, after_prefix, as_header, header_of, path_in}
use Rattle.acl_listings.specs.Lines.{after_line, first_line}
use Rattle.acl_listings.specs.declared.fault.BlockFault.TheVariants.{TooLong, BadHeader}
use Rattle.acl_listings.specs.declared.limits.TheConstants.{MAX_BLOCK}
use Rattle.acl_listings.proofs.HandedLemmas.{from_block, from_header, from_ids, from_lists}

-- the fields of a header
header_fields : (path owner group : Option (List ℕ)) (list : List ℕ) (header : Header) → as_header path owner group list ≡ Some header
    → (owner ≡ Some header.owner) × (group ≡ Some header.group) × (list ≡ header.list)
header_fields (Some path) (Some owner) (Some group) list header is =
    let same : record { path = path; owner = owner; group = group; list = list } ≡ header = cc in
    (ap (λ (header : Header). Some header.owner) same, ap (λ (header : Header). Some header.group) same, ap (λ (header : Header). header.list) same)
header_fields (Some path) (Some owner) None list header is = cc
header_fields (Some path) None group list header is = cc
header_fields None owner group list header is = cc

-- the ids of a file's owner and group
owners_read : (owner group : Result ℕ NameFault) (ids : ℕ × ℕ) → owners_of owner group ≡ Ok ids → (owner ≡ Ok ids.0) × (group ≡ Ok ids.1)
owners_read (Ok owner) (Ok group) ids is = let same : (owner, group) ≡ ids = cc in (ap (λ (ids : ℕ × ℕ). Ok ids.0) same, ap (λ (ids : ℕ × ℕ). Ok ids.1) same)
owners_read (Ok owner) (Err Malformed) ids is = cc
owners_read (Ok owner) (Err Unknown) ids is = cc
owners_read (Err Malformed) group ids is = cc
owners_read (Err Unknown) (Ok group) ids is = cc
owners_read (Err Unknown) (Err Malformed) ids is = cc
owners_read (Err Unknown) (Err Unknown) ids is = cc

-- the lines of the owner and the group name those of the file, and the lines behind these its lists
pub record HasLines (names : Names) (text : List ℕ) (file : FileValue) : Type 0 where
  pub owner : List ℕ
  pub group : List ℕ
  pub owner_line : after_prefix (codes "# owner: ") (first_line (after_line text)) ≡ Some owner
  pub group_line : after_prefix (codes "# group: ") (first_line (after_line (after_line text))) ≡ Some group
  pub owner_is : resolved names.written names.uid owner ≡ Ok file.owner
  pub group_is : resolved names.written names.gid group ≡ Ok file.group
  pub lists_are : lists_by names (after_line (after_line (after_line text))) ≡ Ok file.lists

pub file_lines : (names : Names) (text : List ℕ) (file : FileValue) → file_by names text ≡ Ok file → HasLines names text file
file_lines names text file is =
    let (block, taken, of_block) = bind_ok (or_fault TooLong (within_limit text)) (from_block names) file is in
    let (_, own) = cond_some (nat_le (length text) MAX_BLOCK) text block (given TooLong (within_limit text) block taken) in
    let (header, read, of_header) = bind_ok (or_fault BadHeader (header_of block)) (from_header names) file of_block in
    let (ids, its, of_ids) = bind_ok (owners_by names header) (from_ids names header) file of_header in
    let (lists, listed, made) = bind_ok (lists_by names header.list) (from_lists header ids) file of_ids in
    let header_is : header_of text ≡ Some header = ap header_of own ∙ given BadHeader (header_of block) header read in
    let second = after_line text in
    let third = after_line second in
    let fields = header_fields (path_in (first_line text)) (after_prefix (codes "# owner: ") (first_line second))
    (after_prefix (codes "# group: ") (first_line third)) (after_line third) header header_is in
    let owners = owners_read (resolved names.written names.uid header.owner) (resolved names.written names.gid header.group) ids its in
    let found : FileValue = record { path = header.path; owner = ids.0; group = ids.1; flags = flags_by header.list; lists = lists } in
    let same : found ≡ file = cc in
    record {
      owner = header.owner;
      group = header.group;
      owner_line = fields.0;
      group_line = fields.1;
      owner_is = owners.0 ∙ ap (λ (file : FileValue). Ok file.owner) same;
      group_is = owners.1 ∙ ap (λ (file : FileValue). Ok file.group) same;
      lists_are = ap (lists_by names) fields.2 ∙ listed ∙ ap (λ (file : FileValue). Ok file.lists) same;
    }
