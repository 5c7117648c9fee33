-- What the reader of lists says of a text, as what a block says; and the pieces of lines.
use Rattle.std.proofs.Common.{◌≡◌, ℕ, ◌==◌, ◌||◌, Bool, true, false, cond, List, [], ◌∷◌, ◌++◌, Err, ap, refl, sym, ◌∙◌, append_assoc, flat_map, subst}
use Rattle.std.specs.List.{All, cons_option, filter_map, list_any, onto_first}
use Rattle.std.proofs.lemmas.List.Elements.{All-drop, All-nil, All-cons, All-head, All-tail}
use Rattle.std.proofs.lemmas.List.Splits.{slice_split_at}
use Rattle.std.specs.Prelude.{None, Ok, Option, Some, drop}
use Rattle.acl_names.specs.Bytes.{newline}
use Rattle.acl_names.specs.Pieces.{content, parts, pieces, pieces_of_content}
use Rattle.acl_names.specs.ListText.{Spells}
use Rattle.acl_names.specs.Names.{Names}
use Rattle.acl_names.specs.Steps.{◌>>=◌, map_fault}
use Rattle.acl_names.proofs.ReadListLemmas.{read-fault, read-many}
use Rattle.acl_posix.specs.AclText.{entry_in, piece_fault}
use Rattle.acl_posix.specs.Entry.{EntryValue}
use Rattle.acl_posix.specs.EntryText.{entry_by}
use Rattle.acl_posix.specs.ReadFault.{IsFaultBy}
use Rattle.acl_posix.specs.Validity.{IsRefusedFor, fault_of}
use Rattle.acl_posix.specs.declared.acl.Invalid.{Invalid}
use Rattle.acl_posix.specs.declared.acl.Invalid.TheVariants as invalid
use Rattle.acl_posix.specs.declared.acl_text.AclFault.TheVariants.{TooMany}
use Rattle.acl_posix.specs.declared.entries.TextFault.{TextFault}
use Rattle.acl_posix.specs.declared.entries.TextFault.TheVariants as text
use Rattle.acl_posix.specs.declared.limits.TheConstants.{MAX_ENTRIES}
use Rattle.acl_posix.proofs.AclTextLemmas.{entries_of-spelt}
use Rattle.acl_listings.specs.Access.{acl_by, default_by, if_there, list_of, posix_by}
use Rattle.acl_listings.specs.Faults.{ReadsAs, entries_fault, fault_of_entries}
use Rattle.acl_listings.specs.ListLines.{ended_line, is_default, line_of, pieces_of}
use Rattle.acl_listings.specs.Rules.{missing_of}
use Rattle.acl_listings.specs.declared.fault.BlockFault.TheVariants.{Acl}
use Rattle.acl_listings.specs.declared.list_lines.ListKind.{ListKind}
use Rattle.acl_listings.specs.declared.list_lines.ListKind.TheVariants.{Access, Default, Nfs4, Freebsd}
use Rattle.acl_listings.specs.declared.fault.FileFault.{FileFault}
use Rattle.acl_listings.specs.declared.fault.FileFault.TheVariants.{Block, Memory}
use Rattle.acl_listings.specs.declared.lists.Lists.TheVariants.{Posix}

entry_said : (names : Names) (piece : List ℕ) (entry : EntryValue) → entry_by names piece ≡ Ok entry → entry_in (entry_by names) piece ≡ Ok entry
entry_said names piece entry is = ap (map_fault piece_fault) is

-- a text whose entries are refused is refused for them
pub unread : (names : Names) (words : List ℕ) (fault : TextFault) → IsFaultBy names words fault → ReadsAs (acl_by names (pieces words)) (Err (entries_fault fault))
unread names words text.Syntax is =
    rw (read-fault (entry_by names) (entry_in (entry_by names)) TooMany MAX_ENTRIES words (entry_said names) _ _ is (λ piece is. ap (map_fault piece_fault) is)) refl
unread names words text.UnknownName is =
    rw (read-fault (entry_by names) (entry_in (entry_by names)) TooMany MAX_ENTRIES words (entry_said names) _ _ is (λ piece is. ap (map_fault piece_fault) is)) refl
unread names words text.TooMany is = rw (read-many (entry_by names) (entry_in (entry_by names)) TooMany MAX_ENTRIES words (entry_said names) is) refl
unread names words text.Memory is = tt

-- what is read of a text whose entries are read: their list, if they are one
pub listed : (names : Names) (words : List ℕ) (entries : List EntryValue) (fault : Option Invalid) → Spells (entry_by names) MAX_ENTRIES words entries → fault_of entries ≡ fault
    → acl_by names (pieces words) ≡ list_of fault entries
listed names words entries fault spelt is =
    ap (λ found. map_fault (λ fault. Acl fault) found >>= (λ entries. list_of (fault_of entries) entries)) (entries_of-spelt names words entries spelt)
    ∙ ap (λ fault. list_of fault entries) is

-- and else the rule that they break
pub unlisted : (names : Names) (words : List ℕ) (entries : List EntryValue) → Spells (entry_by names) MAX_ENTRIES words entries
    → (fault : Invalid) → IsRefusedFor entries fault → ReadsAs (acl_by names (pieces words)) (Err (fault_of_entries (missing_of entries) fault))
unlisted names words entries spelt invalid.Missing is = listed names words entries (Some invalid.Missing) spelt is
unlisted names words entries spelt invalid.Repeated is = listed names words entries (Some invalid.Repeated) spelt is
unlisted names words entries spelt invalid.NoMask is = listed names words entries (Some invalid.NoMask) spelt is
unlisted names words entries spelt invalid.Memory is = tt

-- the pieces of a line
abbrev pub line_pieces : List ℕ → List (List ℕ)
line_pieces line = pieces_of_content (content line)

-- without a default line nothing is passed over
pub nothing_passed_over : (lines : List (List ℕ)) → list_any is_default lines ≡ false → filter_map (line_of Access) lines ≡ lines
nothing_passed_over [] none = refl
nothing_passed_over (line ∷ lines) none = by_first (is_default line) none (nothing_passed_over lines)
  where
    by_first : (b : Bool) → (b || list_any is_default lines) ≡ false → (list_any is_default lines ≡ false → filter_map (line_of Access) lines ≡ lines)
        → cons_option (cond b None (Some line)) (filter_map (line_of Access) lines) ≡ line ∷ lines
    by_first true e more = cc
    by_first false e more = ap (λ rest. line ∷ rest) (more e)

pub pieces-whole : (list : List ℕ) → list_any is_default (parts newline list) ≡ false → pieces list ≡ pieces_of Access list
pieces-whole list none = ap (flat_map line_pieces) (sym (nothing_passed_over (parts newline list) none))

abbrev pub LacksNewline : List ℕ → Type 0
LacksNewline line = All (λ byte. (byte == newline) ≡ false) line

-- no part has a newline
lacks-onto : (byte : ℕ) (lines : List (List ℕ)) → (byte == newline) ≡ false → All LacksNewline lines → All LacksNewline (onto_first byte lines)
lacks-onto byte [] is each = All-cons LacksNewline (byte ∷ []) [] (All-cons (λ x. (x == newline) ≡ false) byte [] is (All-nil (λ x. (x == newline) ≡ false))) (All-nil LacksNewline)
lacks-onto byte (line ∷ lines) is each =
    All-cons LacksNewline (byte ∷ line) lines (All-cons (λ x. (x == newline) ≡ false) byte line is (All-head LacksNewline line lines each)) (All-tail LacksNewline line lines each)

pub parts-lack : (text : List ℕ) → All LacksNewline (parts newline text)
parts-lack [] = All-cons LacksNewline [] [] (All-nil (λ x. (x == newline) ≡ false)) (All-nil LacksNewline)
parts-lack (byte ∷ bytes) = by_first (byte == newline) refl (parts-lack bytes)
  where
    by_first : (b : Bool) → (byte == newline) ≡ b → All LacksNewline (parts newline bytes) → All LacksNewline (cond b ([] ∷ parts newline bytes) (onto_first byte (parts newline bytes)))
    by_first true is each = All-cons LacksNewline [] (parts newline bytes) (All-nil (λ x. (x == newline) ≡ false)) each
    by_first false is each = lacks-onto byte (parts newline bytes) is each

-- nor has what a line has of a list
lacks-part : (b : Bool) (line text : List ℕ) → LacksNewline line → cond b (Some (drop 8 line)) None ≡ Some text → LacksNewline text
lacks-part true line text lacks is = let same : drop 8 line ≡ text = cc in subst LacksNewline same (All-drop (λ byte. (byte == newline) ≡ false) 8 line lacks)
lacks-part false line text lacks is = cc

lacks-rest : (b : Bool) (line text : List ℕ) → LacksNewline line → cond b None (Some line) ≡ Some text → LacksNewline text
lacks-rest true line text lacks is = cc
lacks-rest false line text lacks is = let same : line ≡ text = cc in subst LacksNewline same lacks

lacks-whole : (line text : List ℕ) → LacksNewline line → Some line ≡ Some text → LacksNewline text
lacks-whole line text lacks is = let same : line ≡ text = cc in subst LacksNewline same lacks

pub lacks-line_of : (kind : ListKind) (line text : List ℕ) → LacksNewline line → line_of kind line ≡ Some text → LacksNewline text
lacks-line_of Access line text lacks is = lacks-rest (is_default line) line text lacks is
lacks-line_of Default line text lacks is = lacks-part (is_default line) line text lacks is
lacks-line_of Nfs4 line text lacks is = lacks-whole line text lacks is
lacks-line_of Freebsd line text lacks is = lacks-whole line text lacks is

-- each line with its newline
abbrev pub ended : List (List ℕ) → List ℕ
ended lines = flat_map (λ line. line ++ newline ∷ []) lines

pieces-ended : (line rest : List ℕ) → LacksNewline line → pieces ((line ++ newline ∷ []) ++ rest) ≡ line_pieces line ++ pieces rest
pieces-ended line rest lacks =
    ap pieces (append_assoc line (newline ∷ []) rest)
    ∙ ap (flat_map line_pieces) (slice_split_at (λ x. x == newline) line newline rest lacks refl)

-- what the lines have of a list, each with a newline behind it
abbrev pub copied : ListKind → List (List ℕ) → List ℕ
copied kind lines = flat_map (λ line. ended_line (line_of kind line)) lines

pub pieces-of_lines : (kind : ListKind) (lines : List (List ℕ)) → All LacksNewline lines → pieces (copied kind lines) ≡ flat_map line_pieces (filter_map (line_of kind) lines)
pieces-of_lines kind [] each = refl
pieces-of_lines kind (line ∷ lines) each = by_first (line_of kind line) refl (pieces-of_lines kind lines (All-tail LacksNewline line lines each))
  where
    by_first : (found : Option (List ℕ)) → line_of kind line ≡ found → pieces (copied kind lines) ≡ flat_map line_pieces (filter_map (line_of kind) lines)
        → pieces (ended_line found ++ copied kind lines) ≡ flat_map line_pieces (cons_option found (filter_map (line_of kind) lines))
    by_first None is rest = rest
    by_first (Some text) is rest =
        pieces-ended text (copied kind lines) (lacks-line_of kind line text (All-head LacksNewline line lines each) is)
        ∙ ap (λ more. line_pieces text ++ more) rest

-- the text of what the lines have of a list
pub pieces-copied : (kind : ListKind) (list copy : List ℕ) → copy ≡ copied kind (parts newline list) → pieces copy ≡ pieces_of kind list
pieces-copied kind list copy is = ap pieces is ∙ pieces-of_lines kind (parts newline list) (parts-lack list)

-- a block without a default list
pub posix_alone : (names : Names) (list : List ℕ) (access : List EntryValue) → list_any is_default (parts newline list) ≡ false
    → acl_by names (pieces list) ≡ Ok access → posix_by names list ≡ Ok (Posix access None)
posix_alone names list access none is =
    ap (λ texts. acl_by names texts >>= (λ acl. default_by names list >>= (λ default. Ok (Posix acl default)))) (sym (pieces-whole list none))
    ∙ ap (λ found. found >>= (λ acl. default_by names list >>= (λ default. Ok (Posix acl default)))) is
    ∙ ap (λ b. cond b (if_there (acl_by names (pieces_of Default list))) (Ok None) >>= (λ default. Ok (Posix access default))) none

pub posix_alone_refused : (names : Names) (list : List ℕ) (fault : FileFault) → list_any is_default (parts newline list) ≡ false
    → ReadsAs (acl_by names (pieces list)) (Err fault) → ReadsAs (posix_by names list) (Err fault)
posix_alone_refused names list (Block fault) none is =
    ap (λ texts. acl_by names texts >>= (λ acl. default_by names list >>= (λ default. Ok (Posix acl default)))) (sym (pieces-whole list none))
    ∙ ap (λ found. found >>= (λ acl. default_by names list >>= (λ default. Ok (Posix acl default)))) is
posix_alone_refused names list Memory none is = tt
