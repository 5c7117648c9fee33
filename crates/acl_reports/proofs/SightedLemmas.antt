-- A file names an id without an account exactly if a line of its block does.
use Rattle.std.proofs.Common.{◌≡◌, ◌∙◌, ◌||◌, ◌+◌, ℕ, Bool, true, false, cond, List, [], ◌∷◌, Option, Some, None, Result, Ok, Err, ap, ap₂, codes, is_some, map, refl, sym}
use Rattle.std.specs.List.{list_any}
use Rattle.std.specs.Option.{option_and_then, option_or}
use Rattle.std.proofs.lemmas.List.Sorted.{list_any-IsPermutation}
use Rattle.acl_names.specs.Bytes.{newline}
use Rattle.acl_names.specs.Pieces.{parts, pieces}
use Rattle.acl_names.specs.ReadList.{at_most_read}
use Rattle.acl_names.specs.Steps.{map_fault}
use Rattle.acl_names.proofs.ReadListLemmas.{at_most_read-said}
use Rattle.acl_names.proofs.StepLemmas.{bind_ok, map_fault-ok}
use Rattle.acl_names.specs.declared.directory.resolve.NameFault.{NameFault}
use Rattle.acl_posix.specs.AclText.{entries_of, piece_fault}
use Rattle.acl_posix.specs.Entry.{EntryValue}
use Rattle.acl_posix.specs.EntryText as posix
use Rattle.acl_posix.specs.InOrder.{in_order}
use Rattle.acl_posix.specs.Validity.{fault_of}
use Rattle.acl_posix.specs.declared.acl.Invalid.{Invalid}
use Rattle.acl_posix.specs.declared.acl_text.AclFault.TheVariants.{TooMany}
use Rattle.acl_posix.specs.declared.limits.TheConstants.{MAX_ENTRIES}
use Rattle.acl_posix.proofs.InOrderLemmas.{in_order-permutation}
use Rattle.acl_nfs4.specs.Ace.{Nfsace4}
use Rattle.acl_nfs4.specs.NamedAces.{ace_by}
use Rattle.acl_nfs4.specs.declared.limits.TheConstants.{MAX_ACES}
use Rattle.acl_nfs4.specs.declared.reading.PieceFault.{PieceFault}
use Rattle.acl_forms.specs.Forms.{form_of}
use Rattle.acl_forms.specs.FormText as freebsd
use Rattle.acl_forms.specs.declared.form.Form.{Form}
use Rattle.acl_forms.specs.declared.form.Form.TheVariants as form
use Rattle.acl_listings.specs.Access.{acl_by, list_of, posix_by}
use Rattle.acl_listings.specs.Block.{FileValue, file_by}
use Rattle.acl_listings.specs.BlockLists as lists
use Rattle.acl_listings.specs.Header.{after_prefix}
use Rattle.acl_listings.specs.Lines.{after_line, first_line}
use Rattle.acl_listings.specs.declared.fault.BlockFault.{BlockFault}
use Rattle.acl_listings.specs.declared.fault.BlockFault.TheVariants.{Acl}
use Rattle.acl_listings.specs.declared.lists.Lists.{Lists}
use Rattle.acl_listings.specs.declared.lists.Lists.TheVariants as value
use Rattle.acl_listings.proofs.FileLines.{file_lines}
use Rattle.acl_listings.proofs.LinePieces.{pieces-any, posix-any}
use Rattle.acl_people.specs.Host.{Host, lacks_group, lacks_user, names_of_host}
use Rattle.acl_reports.specs.Strangers.{entries_in, file_stranger, first_stranger, group_stranger, has_stranger, have_stranger, if_read, is_strange, line_stranger, list_stranger, names_stranger, owner_stranger, piece_stranger, placed, stranger_behind, stranger_in, tag_stranger, who_stranger}
use Rattle.acl_reports.specs.StrangersLaws.{StrangersStandInLines}

-- ---- whether there is one

some-or : {A : Type 0} (one other : Option A) → is_some (option_or one other) ≡ (is_some one || is_some other)
some-or None other = refl
some-or (Some found) other = refl

grouped : (a b c : Bool) → ((a || b) || c) ≡ (a || (b || c))
grouped true b c = refl
grouped false b c = refl

some-placed : (before : ℕ) (id : Option ℕ) → is_some (placed before id) ≡ is_some id
some-placed before None = refl
some-placed before (Some id) = refl

some-if : (b : Bool) (id : ℕ) → is_some (cond b (Some id) None) ≡ b
some-if true id = refl
some-if false id = refl

-- an id that a line writes
some-written : (lacks : ℕ → Bool) (read : List ℕ → Result ℕ NameFault) (found : Option (List ℕ)) (text : List ℕ) (id : ℕ) → found ≡ Some text → read text ≡ Ok id
    → is_some (option_and_then (λ text. if_read (λ id. cond (lacks id) (Some id) None) (read text)) found) ≡ lacks id
some-written lacks read found text id is reads =
    ap (λ found. is_some (option_and_then (λ text. if_read (λ id. cond (lacks id) (Some id) None) (read text)) found)) is
    ∙ ap (λ written. is_some (if_read (λ id. cond (lacks id) (Some id) None) written)) reads
    ∙ some-if (lacks id) id

-- ---- what pieces say

-- one of what texts say passes if one of the texts says such a thing
said-any : {A F : Type 0} (read : List ℕ → Result A F) (named : A → Option ℕ) (texts : List (List ℕ)) (values : List A) → map read texts ≡ map Ok values
    → list_any (λ value. is_some (named value)) values ≡ list_any (λ text. is_some (if_read named (read text))) texts
said-any read named [] [] said = refl
said-any read named [] (value ∷ values) said = cc
said-any read named (text ∷ texts) [] said = cc
said-any read named (text ∷ texts) (value ∷ values) said =
    let first : read text ≡ Ok value = cc in
    let more : map read texts ≡ map Ok values = cc in
    ap₂ (λ one rest. one || rest) (sym (ap (λ found. is_some (if_read named found)) first)) (said-any read named texts values more)

-- the same, where faults are reported as others
reported-any : {A F G : Type 0} (becomes : F → G) (said : List ℕ → Result A F) (named : A → Option ℕ) (too_many : G) (most : ℕ) (texts : List (List ℕ)) (values : List A)
    → at_most_read too_many most (λ text. map_fault becomes (said text)) texts ≡ Ok values
    → list_any (λ value. is_some (named value)) values ≡ list_any (λ text. is_some (if_read named (said text))) texts
reported-any {A = A} becomes said named too_many most texts values is =
    said-any said named texts values (unreported texts values (at_most_read-said (λ text. map_fault becomes (said text)) too_many most texts values is).0)
  where
    unreported : (texts : List (List ℕ)) (values : List A) → map (λ text. map_fault becomes (said text)) texts ≡ map Ok values → map said texts ≡ map Ok values
    unreported [] [] is = refl
    unreported [] (value ∷ values) is = cc
    unreported (text ∷ texts) [] is = cc
    unreported (text ∷ texts) (value ∷ values) is =
        let first : map_fault becomes (said text) ≡ Ok value = cc in
        let more : map (λ text. map_fault becomes (said text)) texts ≡ map Ok values = cc in
        ap₂ (λ one rest. one ∷ rest) (map_fault-ok becomes (said text) value first) (unreported texts values more)

module _ (host : Host) where
  abbrev is_strange_piece : Form → List ℕ → Bool
  is_strange_piece of piece = is_some (piece_stranger host of piece)

  pieces_some : (of : Form) (texts : List (List ℕ)) → is_some (first_stranger host of texts) ≡ list_any (is_strange_piece of) texts
  pieces_some of [] = refl
  pieces_some of (piece ∷ more) =
      some-or (piece_stranger host of piece) (first_stranger host of more) ∙ ap (λ rest. is_strange_piece of piece || rest) (pieces_some of more)

  lines_some : (of : Form) (before : ℕ) (each : List (List ℕ))
      → is_some (list_stranger host of before each) ≡ list_any (λ line. list_any (is_strange_piece of) (pieces (entries_in of line))) each
  lines_some of before [] = refl
  lines_some of before (line ∷ more) =
      some-or (placed before (line_stranger host of line)) (list_stranger host of (before + 1) more)
      ∙ ap₂ (λ one rest. one || rest) (some-placed before (line_stranger host of line) ∙ pieces_some of (pieces (entries_in of line))) (lines_some of (before + 1) more)

  -- ---- the lists of a block

  -- a POSIX list that is read
  acl_sighted : (texts : List (List ℕ)) (acl : List EntryValue) → acl_by (names_of_host host) texts ≡ Ok acl → has_stranger host acl ≡ list_any (is_strange_piece form.Posix) texts
  acl_sighted texts acl is =
      let (entries, read, made) = bind_ok (map_fault (λ fault. Acl fault) (entries_of (posix.entry_by (names_of_host host)) texts)) (λ entries. list_of (fault_of entries) entries) acl is in
      sym (any_order entries (by_rule (fault_of entries) entries made))
      ∙ reported-any piece_fault (posix.entry_by (names_of_host host)) (λ entry. tag_stranger host entry.tag) TooMany MAX_ENTRIES texts entries
      (map_fault-ok (λ fault. Acl fault) (entries_of (posix.entry_by (names_of_host host)) texts) entries read)
    where
      by_rule : (broken : Option Invalid) (entries : List EntryValue) → list_of broken entries ≡ Ok acl → in_order entries ≡ acl
      by_rule None entries is = cc
      by_rule (Some invalid) entries is = cc

      any_order : (entries : List EntryValue) → in_order entries ≡ acl → has_stranger host entries ≡ has_stranger host acl
      any_order entries is = list_any-IsPermutation (is_strange host) entries (in_order entries) (in_order-permutation entries) ∙ ap (has_stranger host) is

  posix_sighted : (list : List ℕ) (found : Lists) → posix_by (names_of_host host) list ≡ Ok found
      → have_stranger host found ≡ list_any (λ line. list_any (is_strange_piece form.Posix) (pieces (entries_in form.Posix line))) (parts newline list)
  posix_sighted list found is =
      let (access, default, same, any) = posix-any (names_of_host host) (has_stranger host) (is_strange_piece form.Posix) acl_sighted list found is in
      ap (have_stranger host) (sym same) ∙ any

  nfs4_sighted : (said : List ℕ → Result Nfsace4 PieceFault) (list : List ℕ) (found : Lists) → lists.nfs4_by said (pieces list) ≡ Ok found
      → have_stranger host found ≡ list_any (λ line. list_any (λ piece. is_some (if_read (λ ace. who_stranger host ace.who) (said piece))) (pieces line)) (parts newline list)
  nfs4_sighted said list found is =
      let (aces, read, made) = bind_ok (map_fault (λ fault. Acl fault) (lists.aces_by said (pieces list))) (λ aces. Ok (value.Nfs4 aces)) found is in
      let same : value.Nfs4 aces ≡ found = cc in
      ap (have_stranger host) (sym same)
      ∙ reported-any lists.piece_fault said (λ ace. who_stranger host ace.who) TooMany MAX_ACES (pieces list) aces
      (map_fault-ok (λ fault. Acl fault) (lists.aces_by said (pieces list)) aces read)
      ∙ sym (pieces-any (λ piece. is_some (if_read (λ ace. who_stranger host ace.who) (said piece))) list)

  lists_sighted : (of : Form) (list : List ℕ) (found : Lists) → lists.lists_in of (names_of_host host) list ≡ Ok found
      → have_stranger host found ≡ list_any (λ line. list_any (is_strange_piece of) (pieces (entries_in of line))) (parts newline list)
  lists_sighted form.Posix list found is = posix_sighted list found is
  lists_sighted form.Nfs4 list found is = nfs4_sighted (ace_by (names_of_host host)) list found is
  lists_sighted form.Freebsd list found is = nfs4_sighted (freebsd.entry_by (names_of_host host)) list found is

  -- ---- a block

  file_sighted : (text : List ℕ) (file : FileValue) → file_by (names_of_host host) text ≡ Ok file → names_stranger host file ≡ is_some (stranger_behind host (after_line text))
  file_sighted text file is =
      let has = file_lines (names_of_host host) text file is in
      let second = after_line text in
      let third = after_line second in
      let list = after_line third in
      let owner : is_some (owner_stranger host (first_line second)) ≡ lacks_user host file.owner =
      some-written (lacks_user host) _ (after_prefix (codes "# owner: ") (first_line second)) has.owner file.owner has.owner_line has.owner_is in
      let group : is_some (group_stranger host (first_line third)) ≡ lacks_group host file.group =
      some-written (lacks_group host) _ (after_prefix (codes "# group: ") (first_line third)) has.group file.group has.group_line has.group_is in
      let lines : have_stranger host file.lists ≡ is_some (list_stranger host (form_of list) 3 (parts newline list)) =
      lists_sighted (form_of list) list file.lists has.lists_are ∙ sym (lines_some (form_of list) 3 (parts newline list)) in
      grouped (lacks_user host file.owner) (lacks_group host file.group) (have_stranger host file.lists)
      ∙ sym (
      some-or (placed 1 (owner_stranger host (first_line second))) _
      ∙ ap₂ (λ one rest. one || rest) (some-placed 1 (owner_stranger host (first_line second)) ∙ owner)
      (some-or (placed 2 (group_stranger host (first_line third))) _
      ∙ ap₂ (λ one rest. one || rest) (some-placed 2 (group_stranger host (first_line third)) ∙ group) (sym lines))
      )

  -- whether a block names one, which reads
  pub block_sighted : (text : List ℕ) (file : FileValue) → file_by (names_of_host host) text ≡ Ok file → names_stranger host file ≡ is_some (stranger_in host text)
  block_sighted text file is =
      by_named (names_stranger host file) refl
      ∙ sym (ap (λ read. is_some (if_read (λ file. file_stranger host file (after_line text)) read)) is)
    where
      by_named : (b : Bool) → names_stranger host file ≡ b → b ≡ is_some (cond b (stranger_behind host (after_line text)) None)
      by_named true named = sym named ∙ file_sighted text file is
      by_named false named = refl

  -- and which, if it names one
  pub block_named : (text : List ℕ) → is_some (stranger_in host text) ≡ true → stranger_behind host (after_line text) ≡ stranger_in host text
  block_named text some = by_file (file_by (names_of_host host) text) some
    where
      by_named : (b : Bool) → is_some (cond b (stranger_behind host (after_line text)) None) ≡ true → stranger_behind host (after_line text) ≡ cond b (stranger_behind host (after_line text)) None
      by_named true some = refl
      by_named false some = cc

      by_file : (read : Result FileValue BlockFault) → is_some (if_read (λ file. file_stranger host file (after_line text)) read) ≡ true
          → stranger_behind host (after_line text) ≡ if_read (λ file. file_stranger host file (after_line text)) read
      by_file (Ok file) some = by_named (names_stranger host file) some
      by_file (Err fault) some = cc

pub strangers_stand_in_lines : StrangersStandInLines
strangers_stand_in_lines host text file is = file_sighted host text file is
