-- A block that is refused for its entries has a line at fault.
use Rattle.std.proofs.Common.{◌≡◌, ◌∙◌, ℕ, Bool, true, false, cond, ◌&&◌, List, [], ◌∷◌, ap, refl, sym, length, is_ok, leb, nat_le}
use Rattle.std.proofs.Common.{Option, Some, None, Result, Ok, Err, flat_map}
use Rattle.std.specs.List.{filter_map, list_all, list_any}
use Rattle.acl_names.specs.Bytes.{newline}
use Rattle.acl_names.specs.Names.{Names}
use Rattle.acl_names.specs.Pieces.{parts, pieces}
use Rattle.acl_names.specs.Steps.{◌>>=◌, map_fault, or_fault}
use Rattle.acl_posix.specs.AclText.{entries_of, entry_in, piece_fault}
use Rattle.acl_posix.specs.Entry.{EntryValue}
use Rattle.acl_posix.specs.EntryText as posix
use Rattle.acl_posix.specs.Validity.{fault_of}
use Rattle.acl_posix.specs.declared.acl.Invalid.{Invalid}
use Rattle.acl_posix.specs.declared.acl_text.AclFault.{AclFault}
use Rattle.acl_posix.specs.declared.acl_text.AclFault.TheVariants.{TooMany}
use Rattle.acl_posix.specs.declared.limits.TheConstants.{MAX_ENTRIES}
use Rattle.acl_nfs4.specs.Ace.{Nfsace4}
use Rattle.acl_nfs4.specs.NamedAces.{ace_by}
use Rattle.acl_nfs4.specs.declared.limits.TheConstants.{MAX_ACES}
use Rattle.acl_nfs4.specs.declared.reading.PieceFault.{PieceFault}
use Rattle.acl_forms.specs.Forms.{form_of}
use Rattle.acl_forms.specs.FormText as freebsd
use Rattle.acl_forms.specs.declared.form.Form.{Form}
use Rattle.acl_forms.specs.declared.form.Form.TheVariants as form
use Rattle.acl_listings.specs.Access.{acl_by, default_by, if_there, list_of, posix_by}
use Rattle.acl_listings.specs.Block.{FileValue, file_by, owners_of}
use Rattle.acl_listings.specs.BlockLists as lists
use Rattle.acl_listings.specs.FaultyLine.{faulty_kind, is_entry, kind_at_fault, lines_read, list_in}
use Rattle.acl_listings.specs.Header.{Header, as_header, header_of}
use Rattle.acl_listings.specs.ListLines.{is_default, pieces_of}
use Rattle.acl_listings.specs.declared.fault.BlockFault.{BlockFault}
use Rattle.acl_listings.specs.declared.fault.BlockFault.TheVariants.{Acl, TooLong, BadHeader}
use Rattle.acl_listings.specs.declared.limits.TheConstants.{MAX_BLOCK}
use Rattle.acl_listings.specs.declared.list_lines.ListKind.TheVariants.{Access, Default, Nfs4, Freebsd}
use Rattle.acl_listings.specs.declared.lists.Lists.{Lists}
use Rattle.acl_listings.specs.declared.lists.Lists.TheVariants as value
use Rattle.acl_listings.proofs.AccessLemmas.{line_pieces}
use Rattle.acl_listings.proofs.FaultyLemmas.{at_most_ok, reported_ok}
use Rattle.acl_listings.proofs.HandedLemmas.{from_block, from_header, from_ids, from_lists}
use Rattle.acl_names.specs.declared.directory.resolve.NameFault.{NameFault}
use Rattle.acl_names.specs.declared.directory.resolve.NameFault.TheVariants.{Malformed, Unknown}

-- all lines of an NFSv4 list are of it
every_line : (lines : List (List ℕ)) → filter_map (λ line. Some line) lines ≡ lines
every_line [] = refl
every_line (line ∷ lines) = ap (λ rest. line ∷ rest) (every_line lines)

module _ (names : Names) where
  entries_ok : (texts : List (List ℕ)) → is_ok (entries_of (posix.entry_by names) texts)
      ≡ (list_all (λ piece. is_ok (posix.entry_by names piece)) texts && leb (length texts) MAX_ENTRIES)
  entries_ok texts =
      at_most_ok TooMany MAX_ENTRIES (entry_in (posix.entry_by names)) (λ piece. is_ok (posix.entry_by names piece))
      (λ piece. reported_ok piece_fault (posix.entry_by names piece)) texts

  -- a list whose entries are refused
  acl_refused : (texts : List (List ℕ)) (fault : AclFault) → acl_by names texts ≡ Err (Acl fault) → is_ok (entries_of (posix.entry_by names) texts) ≡ false
  acl_refused texts fault is = go (entries_of (posix.entry_by names) texts) is
    where
      by_rule : (broken : Option Invalid) (entries : List EntryValue) (read : Result (List EntryValue) AclFault) → list_of broken entries ≡ Err (Acl fault) → is_ok read ≡ false
      by_rule None entries read is = cc
      by_rule (Some invalid) entries read is = cc

      go : (read : Result (List EntryValue) AclFault) → (map_fault (λ f. Acl f) read >>= (λ entries. list_of (fault_of entries) entries)) ≡ Err (Acl fault) → is_ok read ≡ false
      go (Ok entries) is = by_rule (fault_of entries) entries (Ok entries) is
      go (Err other) is = refl

  -- and one whose entries read
  acl_read : (texts : List (List ℕ)) (acl : List EntryValue) → acl_by names texts ≡ Ok acl → is_ok (entries_of (posix.entry_by names) texts) ≡ true
  acl_read texts acl is = go (entries_of (posix.entry_by names) texts) is
    where
      go : (read : Result (List EntryValue) AclFault) → (map_fault (λ f. Acl f) read >>= (λ entries. list_of (fault_of entries) entries)) ≡ Ok acl → is_ok read ≡ true
      go (Ok entries) is = refl
      go (Err other) is = cc

  posix_refused : (list : List ℕ) (fault : AclFault) → posix_by names list ≡ Err (Acl fault)
      → lines_read names (kind_at_fault names form.Posix (parts newline list)) (parts newline list) ≡ false
  posix_refused list fault is = by_access (acl_by names (pieces_of Access list)) refl is
    where
      lines : List (List ℕ)
      lines = parts newline list

      at_fault : (read : Bool) → lines_read names Access lines ≡ read → lines_read names (cond read Default Access) lines ≡ false
          → lines_read names (kind_at_fault names form.Posix lines) lines ≡ false
      at_fault read is bad = ap (λ b. lines_read names (cond b Default Access) lines) is ∙ bad

      by_default : (some : Bool) → (cond some (if_there (acl_by names (pieces_of Default list))) (Ok None) >>= (λ default. Ok default)) ≡ Err (Acl fault)
          → lines_read names Default lines ≡ false
      by_default false is = cc
      by_default true is = sym (entries_ok (pieces_of Default list)) ∙ acl_refused (pieces_of Default list) fault (refused (acl_by names (pieces_of Default list)) is)
        where
          refused : (read : Result (List EntryValue) BlockFault) → (if_there read >>= (λ default. Ok default)) ≡ Err (Acl fault) → read ≡ Err (Acl fault)
          refused (Ok acl) is = cc
          refused (Err other) is = cc

      without_access : (access : List EntryValue) (read : Result (Option (List EntryValue)) BlockFault) → (read >>= (λ default. Ok (value.Posix access default))) ≡ Err (Acl fault)
          → (read >>= (λ default. Ok default)) ≡ Err (Acl fault)
      without_access access (Ok default) is = cc
      without_access access (Err other) is = cc

      by_access : (read : Result (List EntryValue) BlockFault) → acl_by names (pieces_of Access list) ≡ read
          → (read >>= (λ access. default_by names list >>= (λ default. Ok (value.Posix access default)))) ≡ Err (Acl fault)
          → lines_read names (kind_at_fault names form.Posix lines) lines ≡ false
      by_access (Ok access) reads is =
          at_fault true (sym (entries_ok (pieces_of Access list)) ∙ acl_read (pieces_of Access list) access reads)
          (by_default (list_any is_default lines) (without_access access (default_by names list) is))
      by_access (Err other) reads is =
          let same : other ≡ Acl fault = cc in
          let bad : lines_read names Access lines ≡ false = sym (entries_ok (pieces_of Access list)) ∙ acl_refused (pieces_of Access list) fault (reads ∙ ap Err same) in
          at_fault false bad bad

  nfs4_refused : (said : List ℕ → Result Nfsace4 PieceFault) (list : List ℕ) (fault : AclFault) → lists.nfs4_by said (pieces list) ≡ Err (Acl fault)
      → (list_all (λ piece. is_ok (said piece)) (pieces list) && leb (length (pieces list)) MAX_ACES) ≡ false
  nfs4_refused said list fault is =
      sym (at_most_ok TooMany MAX_ACES (λ text. map_fault lists.piece_fault (said text)) (λ piece. is_ok (said piece)) (λ piece. reported_ok lists.piece_fault (said piece)) (pieces list))
      ∙ go (lists.aces_by said (pieces list)) is
    where
      go : (read : Result (List Nfsace4) AclFault) → (map_fault (λ f. Acl f) read >>= (λ aces. Ok (value.Nfs4 aces))) ≡ Err (Acl fault) → is_ok read ≡ false
      go (Ok aces) is = cc
      go (Err other) is = refl

  whole_pieces : (list : List ℕ) → flat_map line_pieces (filter_map (λ line. Some line) (parts newline list)) ≡ pieces list
  whole_pieces list = ap (flat_map line_pieces) (every_line (parts newline list))

  lists_refused : (list : List ℕ) (fault : AclFault) → lists.lists_by names list ≡ Err (Acl fault)
      → lines_read names (faulty_kind names list) (parts newline list) ≡ false
  lists_refused list fault is = by_form (form_of list) is
    where
      by_form : (of : Form) → lists.lists_in of names list ≡ Err (Acl fault) → lines_read names (kind_at_fault names of (parts newline list)) (parts newline list) ≡ false
      by_form form.Posix is = posix_refused list fault is
      by_form form.Nfs4 is =
          ap (λ texts. list_all (is_entry names Nfs4) texts && leb (length texts) MAX_ACES) (whole_pieces list) ∙ nfs4_refused (ace_by names) list fault is
      by_form form.Freebsd is =
          ap (λ texts. list_all (is_entry names Freebsd) texts && leb (length texts) MAX_ACES) (whole_pieces list) ∙ nfs4_refused (freebsd.entry_by names) list fault is

  -- the owners of a block are refused for nothing in its list
  owners_other : (owner group : Result ℕ NameFault) (fault : AclFault) (next : ℕ × ℕ → Result FileValue BlockFault) → (owners_of owner group >>= next) ≡ Err (Acl fault)
      → (ids : ℕ × ℕ) × (next ids ≡ Err (Acl fault))
  owners_other (Ok owner) (Ok group) fault next is = ((owner, group), is)
  owners_other (Ok owner) (Err Malformed) fault next is = cc
  owners_other (Ok owner) (Err Unknown) fault next is = cc
  owners_other (Err Malformed) group fault next is = cc
  owners_other (Err Unknown) (Ok group) fault next is = cc
  owners_other (Err Unknown) (Err Malformed) fault next is = cc
  owners_other (Err Unknown) (Err Unknown) fault next is = cc

  listed_of : (header : Header) (ids : ℕ × ℕ) (fault : AclFault) → from_ids names header ids ≡ Err (Acl fault) → lists.lists_by names header.list ≡ Err (Acl fault)
  listed_of header ids fault is = go (lists.lists_by names header.list) is
    where
      go : (read : Result Lists BlockFault) → (read >>= from_lists header ids) ≡ Err (Acl fault) → read ≡ Err (Acl fault)
      go (Ok found) is = cc
      go (Err other) is = cc

  pub headed_list : (path owner group : Option (List ℕ)) (list : List ℕ) (header : Header) → as_header path owner group list ≡ Some header → header.list ≡ list
  headed_list (Some path) (Some owner) (Some group) list header is = ap (λ found. list_or found list) (sym is)
    where
      list_or : Option Header → List ℕ → List ℕ
      list_or (Some header) other = header.list
      list_or None other = other
  headed_list (Some path) (Some owner) None list header is = cc
  headed_list (Some path) None group list header is = cc
  headed_list None owner group list header is = cc

  pub file_refused : (text : List ℕ) (fault : AclFault) → file_by names text ≡ Err (Acl fault)
      → lines_read names (faulty_kind names (list_in text)) (parts newline (list_in text)) ≡ false
  file_refused text fault is = by_limit (nat_le (length text) MAX_BLOCK) is
    where
      by_header : (found : Option Header) → header_of text ≡ found → (or_fault BadHeader found >>= from_header names) ≡ Err (Acl fault)
          → lines_read names (faulty_kind names (list_in text)) (parts newline (list_in text)) ≡ false
      by_header None read is = cc
      by_header (Some header) read is =
          let own = owners_other _ _ fault (from_ids names header) is in
          let same : header.list ≡ list_in text = headed_list _ _ _ (list_in text) header read in
          ap (λ list. lines_read names (faulty_kind names list) (parts newline list)) (sym same)
          ∙ lists_refused header.list fault (listed_of header own.0 fault own.1)

      by_limit : (b : Bool) → (or_fault TooLong (cond b (Some text) None) >>= from_block names) ≡ Err (Acl fault)
          → lines_read names (faulty_kind names (list_in text)) (parts newline (list_in text)) ≡ false
      by_limit true is = by_header (header_of text) refl is
      by_limit false is = cc
