-- The POSIX lists that a block says are ones.
use Rattle.std.proofs.Common.{◌≡◌, ℕ, List, [], Option, Some, None, Result, Ok, ap, refl, subst}
use Rattle.acl_names.specs.Names.{Names}
use Rattle.acl_names.specs.Pieces.{pieces}
use Rattle.acl_names.specs.Steps.{◌>>=◌, map_fault, or_fault}
use Rattle.acl_names.proofs.StepLemmas.{bind_ok}
use Rattle.acl_posix.specs.AclText.{entries_of}
use Rattle.acl_posix.specs.Entry.{EntryValue}
use Rattle.acl_posix.specs.EntryText.{entry_by}
use Rattle.acl_posix.specs.InOrder.{in_order}
use Rattle.acl_posix.specs.Validity.{IsValid, fault_of}
use Rattle.acl_posix.specs.declared.acl.Invalid.{Invalid}
use Rattle.acl_posix.proofs.InOrderLemmas.{in_order-permutation}
use Rattle.acl_posix.proofs.ValidityLemmas.{IsValid-from_fault_of, IsValid-permutation}
use Rattle.acl_nfs4.specs.Ace.{Nfsace4}
use Rattle.acl_nfs4.specs.NamedAces.{ace_by}
use Rattle.acl_nfs4.specs.declared.reading.PieceFault.{PieceFault}
use Rattle.acl_forms.specs.Forms.{form_of}
use Rattle.acl_forms.specs.FormText as freebsd
use Rattle.acl_forms.specs.declared.form.Form.{Form}
use Rattle.acl_forms.specs.declared.form.Form.TheVariants as form
use Rattle.acl_listings.specs.Access.{acl_by, default_by, list_of, posix_by}
use Rattle.acl_listings.specs.Block.{FileValue, file_by, owners_by, within_limit}
use Rattle.acl_listings.specs.BlockLists.{aces_by, lists_by, lists_in, nfs4_by}
use Rattle.acl_listings.specs.Header.{header_of}
use Rattle.acl_listings.specs.ListLines.{pieces_of}
use Rattle.acl_listings.specs.declared.fault.BlockFault.{BlockFault}
use Rattle.acl_listings.specs.declared.fault.BlockFault.TheVariants.{Acl, BadHeader, TooLong}
use Rattle.acl_listings.specs.declared.list_lines.ListKind.TheVariants.{Access}
use Rattle.acl_listings.specs.declared.lists.Lists.{Lists}
use Rattle.acl_listings.specs.declared.lists.Lists.TheVariants.{Nfs4, Posix}
use Rattle.acl_listings.proofs.HandedLemmas.{from_block, from_header, from_ids, from_lists}

-- of POSIX lists the access list is one
abbrev pub HasValidAccess : Lists → Type 0
HasValidAccess (Posix access default) = IsValid access
HasValidAccess (Nfs4 acl) = Unit {0}

listed_valid : (entries acl : List EntryValue) (found : Option Invalid) → fault_of entries ≡ found → list_of found entries ≡ Ok acl → IsValid acl
listed_valid entries acl None none is =
    let same : in_order entries ≡ acl = cc in
    subst IsValid same (IsValid-permutation entries (in_order entries) (in_order-permutation entries) (IsValid-from_fault_of entries none))
listed_valid entries acl (Some fault) wrong is = cc

module _ (names : Names) where
  acl_valid : (texts : List (List ℕ)) (acl : List EntryValue) → acl_by names texts ≡ Ok acl → IsValid acl
  acl_valid texts acl is =
      let (entries, read, listed) = bind_ok (map_fault (λ fault. Acl fault) (entries_of (entry_by names) texts)) (λ entries. list_of (fault_of entries) entries) acl is in
      listed_valid entries acl (fault_of entries) refl listed

  posix_valid : (list : List ℕ) (lists : Lists) → posix_by names list ≡ Ok lists → HasValidAccess lists
  posix_valid list lists is =
      let (access, its, of_access) = bind_ok (acl_by names (pieces_of Access list)) (λ access. default_by names list >>= (λ default. Ok (Posix access default))) lists is in
      let (default, other, made) = bind_ok (default_by names list) (λ default. Ok (Posix access default)) lists of_access in
      let same : Posix access default ≡ lists = cc in
      subst HasValidAccess same (acl_valid (pieces_of Access list) access its)

  nfs4_valid : (said : List ℕ → Result Nfsace4 PieceFault) (texts : List (List ℕ)) (lists : Lists) → nfs4_by said texts ≡ Ok lists → HasValidAccess lists
  nfs4_valid said texts lists is =
      let (aces, read, made) = bind_ok (map_fault (λ fault. Acl fault) (aces_by said texts)) (λ aces. Ok (Nfs4 aces)) lists is in
      let same : Nfs4 aces ≡ lists = cc in
      subst HasValidAccess same tt

  lists_valid : (of : Form) (list : List ℕ) (lists : Lists) → lists_in of names list ≡ Ok lists → HasValidAccess lists
  lists_valid form.Posix list lists is = posix_valid list lists is
  lists_valid form.Nfs4 list lists is = nfs4_valid (ace_by names) (pieces list) lists is
  lists_valid form.Freebsd list lists is = nfs4_valid (freebsd.entry_by names) (pieces list) lists is

  -- a file that a block says
  pub file_valid : (text : List ℕ) (file : FileValue) → file_by names text ≡ Ok file → HasValidAccess file.lists
  file_valid text file is =
      let (block, taken, of_block) = bind_ok (or_fault TooLong (within_limit text)) (from_block names) file is in
      let (header, read, of_header) = bind_ok (or_fault BadHeader (header_of block)) (from_header names) file of_block in
      let (ids, its, of_ids) = bind_ok (owners_by names header) (from_ids names header) file of_header in
      let (lists, listed, made) = bind_ok (lists_by names header.list) (from_lists header ids) file of_ids in
      let same : lists ≡ file.lists = ap lists_or made in
      subst HasValidAccess same (lists_valid (form_of header.list) header.list lists listed)
    where
      lists_or : Result FileValue BlockFault → Lists
      lists_or (Ok file) = file.lists
      lists_or _ = Nfs4 []
