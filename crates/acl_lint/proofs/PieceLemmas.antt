-- Where a line sets a list and has a fault of a piece, the piece that is reported is the first that doesn't read, and has that fault.
use Rattle.std.proofs.Common.{◌≡◌, ◌≢◌, ◌∙◌, ◌+◌, ◌++◌, ◌==◌, ◌&&◌, ℕ, Bool, true, false, cond, List, [], ◌∷◌}
use Rattle.std.proofs.Common.{Option, Some, None, Result, Ok, Err, ap, ap₂, append_assoc, arith, bytes_eq}
use Rattle.std.proofs.Common.{codes, drop, is_none, length, refl, subst, sym, take}
use Rattle.std.specs.Prelude.{All, IsSomeAnd, nat_lt}
use Rattle.std.proofs.lemmas.List.{take-append-drop}
use Rattle.std.proofs.lemmas.List.Elements.{All-cons, All-nil}
use Rattle.std.proofs.lemmas.Slice.Eq.{bytes_eq-Decides}
use Rattle.acl_names.specs.Bytes.{hash}
use Rattle.acl_names.specs.Directory.{Known}
use Rattle.acl_names.specs.Pieces.{after_word, first_word, pieces, trim}
use Rattle.acl_names.specs.ReadList.{at_most_read, each_read}
use Rattle.acl_names.specs.Steps.{◌>>=◌, map_fault}
use Rattle.acl_names.proofs.ReadListLemmas.{at_most_read-map_fault}
use Rattle.acl_nfs4.specs.Ace.{Nfsace4}
use Rattle.acl_nfs4.specs.AceText.{piece_value}
use Rattle.acl_nfs4.specs.declared.limits.TheConstants.{MAX_ACES}
use Rattle.acl_nfs4.specs.declared.reading.PieceFault as aces
use Rattle.acl_posix.specs.AclText.{acl_of_entries, entries_of, entry_in, piece_fault}
use Rattle.acl_posix.specs.Entry.{EntryValue}
use Rattle.acl_posix.specs.EntryText.{entry_of}
use Rattle.acl_posix.specs.InOrder.{in_order}
use Rattle.acl_posix.specs.Validity.{fault_of as entries_fault}
use Rattle.acl_posix.specs.declared.acl_text.AclFault.{AclFault}
use Rattle.acl_posix.specs.declared.acl_text.AclFault.TheVariants as acl
use Rattle.acl_posix.specs.declared.limits.TheConstants.{MAX_ENTRIES}
use Rattle.acl_posix.specs.declared.reading.PieceFault as entries
use Rattle.acl_tree.specs.Path.{is_path}
use Rattle.acl_tree.specs.declared.faults.LineFault.{LineFault}
use Rattle.acl_tree.specs.declared.faults.LineFault.TheVariants.{BadPath, InvalidAcl, LineTooLong, Syntax, TooMany}
use Rattle.acl_tree.specs.declared.request.Request.TheVariants.{Bad, SetAccess, SetDefault, SetNfs4}
use Rattle.acl_lang.specs.Commands.{asked_by, command, set, set_access, set_default, set_list, set_nfs4}
use Rattle.acl_lang.specs.Fields.{acl_of, ace_fault, aces_of, as_ace, default_of}
use Rattle.acl_lang.specs.Lines.{line_of_trimmed, request_of}
use Rattle.acl_lang.specs.Refusals.{Asked, acl_line_fault}
use Rattle.acl_lang.specs.declared.limits.TheConstants.{MAX_LINE_LEN}
use Rattle.acl_lang.specs.declared.line.Line.TheVariants.{Nothing, Command}
use Rattle.acl_lint.specs.LintLaws.{IsFirstAtFault, IsFirstOfFields, ReportsThePiece, fault_of, fault_of_piece}
use Rattle.acl_lint.specs.Places.{Piece, first_unread, is_of_piece, piece_of_trimmed, piece_or, unread_in, unread_of_fields, unread_of_kind}

-- ---- the first text that doesn't read

-- the first of those that are read is the first of all
whole : (texts : List (List ℕ)) (most : ℕ) (earlier behind : List (List ℕ)) (text : List ℕ) → take most texts ≡ earlier ++ text ∷ behind
    → texts ≡ earlier ++ text ∷ (behind ++ drop most texts)
whole texts most earlier behind text are =
    sym (take-append-drop most texts) ∙ ap (λ front. front ++ drop most texts) are ∙ append_assoc earlier (text ∷ behind) (drop most texts)

module _ {A B F : Type 0} (read : List ℕ → Result A F) (said : Result A F → Asked B) (oks : (value : A) → (b : B) × (said (Ok value) ≡ Ok b))
    (errs : (cause : F) → (fault : LineFault) × (said (Err cause) ≡ Err fault)) where
  -- a text has the fault, those before it read, and it has its number after so many
  record IsFirst (texts : List (List ℕ)) (before : ℕ) (fault : LineFault) (piece : Piece) : Type 0 where
    earlier : List (List ℕ)
    behind : List (List ℕ)
    texts_are : texts ≡ earlier ++ piece.text ∷ behind
    number_is : piece.number ≡ before + length earlier + 1
    earlier_read : All (λ text. fault_of (said (read text)) ≡ None) earlier
    at_fault : fault_of (said (read piece.text)) ≡ Some fault

  after_one : (text : List ℕ) (more : List (List ℕ)) (before : ℕ) (fault : LineFault) → fault_of (said (read text)) ≡ None
      → (found : Option Piece) → IsSomeAnd found (IsFirst more (before + 1) fault) → IsSomeAnd found (IsFirst (text ∷ more) before fault)
  after_one text more before fault reads None is = absurd is
  after_one text more before fault reads (Some piece) is = record {
    earlier = text ∷ is.earlier;
    behind = is.behind;
    texts_are = ap (λ texts. text ∷ texts) is.texts_are;
    number_is = omega (arith, is.number_is);
    earlier_read = All-cons (λ text. fault_of (said (read text)) ≡ None) text is.earlier reads is.earlier_read;
    at_fault = is.at_fault;
  }

  rest_fault : (rest : Asked (List B)) (first : B) (fault : LineFault) → rest >>= (λ values. Ok (first ∷ values)) ≡ Err fault → rest ≡ Err fault
  rest_fault (Ok values) first fault is = cc
  rest_fault (Err other) first fault is = is

  unread-here : (text : List ℕ) (more : List (List ℕ)) (before : ℕ) (fault : LineFault)
      → (each_read (λ text. said (read text)) more ≡ Err fault → IsSomeAnd (first_unread read (before + 1) more) (IsFirst more (before + 1) fault))
      → (result : Result A F) → read text ≡ result
      → said (read text) >>= (λ first. each_read (λ text. said (read text)) more >>= (λ values. Ok (first ∷ values))) ≡ Err fault
      → IsSomeAnd (piece_or result (record { number = before + 1; text = text }) (first_unread read (before + 1) more)) (IsFirst (text ∷ more) before fault)
  unread-here text more before fault later (Ok value) same is =
      let one = oks value in
      let reads : said (read text) ≡ Ok one.0 = ap said same ∙ one.1 in
      let left = rest_fault (each_read (λ text. said (read text)) more) one.0 fault
      (subst (λ (result : Asked B). result >>= (λ first. each_read (λ text. said (read text)) more >>= (λ values. Ok (first ∷ values))) ≡ Err fault) reads is) in
      after_one text more before fault (ap fault_of reads) (first_unread read (before + 1) more) (later left)
  unread-here text more before fault later (Err cause) same is =
      let one = errs cause in
      let fails : said (read text) ≡ Err one.0 = ap said same ∙ one.1 in
      let this : one.0 ≡ fault = same_fault one.0 (Err one.0) refl
      (subst (λ (result : Asked B). result >>= (λ first. each_read (λ text. said (read text)) more >>= (λ values. Ok (first ∷ values))) ≡ Err fault) fails is) in
      record {
        earlier = [];
        behind = more;
        texts_are = refl;
        number_is = omega arith;
        earlier_read = All-nil (λ text. fault_of (said (read text)) ≡ None);
        at_fault = ap fault_of fails ∙ ap Some this;
      }
    where
      same_fault : (other : LineFault) (values : Asked (List B)) → values ≡ Err other → values ≡ Err fault → other ≡ fault
      same_fault other values is_other is = cc

  unread-first : (texts : List (List ℕ)) (before : ℕ) (fault : LineFault) → each_read (λ text. said (read text)) texts ≡ Err fault
      → IsSomeAnd (first_unread read before texts) (IsFirst texts before fault)
  unread-first [] before fault is = cc
  unread-first (text ∷ more) before fault is =
      unread-here text more before fault (λ left. unread-first more (before + 1) fault left) (read text) refl is

  -- if not too many are read
  most_fault : (most : ℕ) (texts : List (List ℕ)) (fault : LineFault) → at_most_read TooMany most (λ text. said (read text)) texts ≡ Err fault
      → fault ≢ TooMany → each_read (λ text. said (read text)) (take most texts) ≡ Err fault
  unfolding at_most_read
  most_fault most texts fault is other = go (each_read (λ text. said (read text)) (take most texts)) is
    where
      go : (all : Asked (List B)) → all >>= (λ values. cond (nat_lt most (length texts)) (Err TooMany) (Ok values)) ≡ Err fault → all ≡ Err fault
      go (Ok values) is = absurd (of_test (nat_lt most (length texts)) (cond (nat_lt most (length texts)) (Err TooMany) (Ok values)) refl is)
        where
          of_test : (b : Bool) (result : Asked (List B)) → result ≡ cond b (Err TooMany) (Ok values) → result ≡ Err fault → ⊥
          of_test true result is_many is = let same : fault ≡ TooMany = cc in other same
          of_test false result is_ok is = cc
      go (Err cause) is = is

  -- if a line's pieces are read so, the first of those that are read is the first of its list
  first_of_list : (known : Known) (kind text : List ℕ) (fault : LineFault) (most : ℕ)
      → ((piece : List ℕ) → fault_of_piece known kind piece ≡ fault_of (said (read piece)))
      → (found : Option Piece) → IsSomeAnd found (IsFirst (take most (pieces text)) 0 fault) → IsSomeAnd found (IsFirstAtFault known kind text fault)
  first_of_list known kind text fault most same None is = absurd is
  first_of_list known kind text fault most same (Some piece) is = record {
    before = is.earlier;
    behind = is.behind ++ drop most (pieces text);
    pieces_are = whole (pieces text) most is.earlier is.behind piece.text is.texts_are;
    number_is = omega (arith, is.number_is);
    earlier_read = λ k d within. same _ ∙ is.earlier_read k d within;
    at_fault = same piece.text ∙ is.at_fault;
  }

-- ---- the pieces of a list's text

-- what is read of a piece of a POSIX list, as the line has it
abbrev as_entry : Result EntryValue entries.PieceFault → Asked EntryValue
as_entry read = map_fault acl_line_fault (map_fault piece_fault read)

entry_oks : (entry : EntryValue) → (value : EntryValue) × (as_entry (Ok entry) ≡ Ok value)
entry_oks entry = (entry, refl)

entry_errs : (cause : entries.PieceFault) → (fault : LineFault) × (as_entry (Err cause) ≡ Err fault)
entry_errs cause = (acl_line_fault (piece_fault cause), refl)

ace_oks : (ace : Nfsace4) → (value : Nfsace4) × (as_ace (Ok ace) ≡ Ok value)
ace_oks ace = (ace, refl)

ace_errs : (cause : aces.PieceFault) → (fault : LineFault) × (as_ace (Err cause) ≡ Err fault)
ace_errs cause = (ace_fault cause, refl)

module _ (known : Known) (kind text : List ℕ) (fault : LineFault) where
  by_kind : (b : Bool) → bytes_eq kind (codes "nfs4") ≡ b → (piece : List ℕ)
      → fault_of_piece known kind piece ≡ cond b (fault_of (as_ace (piece_value known piece))) (fault_of (as_entry (entry_of known piece)))
  by_kind b is piece = ap (λ (b : Bool). cond b (fault_of (as_ace (piece_value known piece))) (fault_of (as_entry (entry_of known piece)))) is

  module _ (of_piece : is_of_piece fault ≡ true) where
    other : (not_of_piece : LineFault) → is_of_piece not_of_piece ≡ false → fault ≢ not_of_piece
    other not_of_piece is same = cc (ap is_of_piece same)

    -- the entries that the text spells, as the line has them
    abbrev entries_read : Asked (List EntryValue)
    entries_read = map_fault acl_line_fault (entries_of (entry_of known) (pieces text))

    -- a fault of a piece comes of the pieces
    of_entries : bytes_eq kind (codes "nfs4") ≡ false → entries_read ≡ Err fault → IsSomeAnd (unread_of_kind known kind text) (IsFirstAtFault known kind text fault)
    of_entries posix is =
        let reported : at_most_read TooMany MAX_ENTRIES (λ piece. as_entry (entry_of known piece)) (pieces text) ≡ Err fault =
        sym (at_most_read-map_fault acl_line_fault (entry_in (entry_of known)) acl.TooMany MAX_ENTRIES (pieces text)) ∙ is in
        let most = most_fault (entry_of known) as_entry entry_oks entry_errs MAX_ENTRIES (pieces text) fault reported (other TooMany refl) in
        subst (λ (b : Bool). IsSomeAnd (cond b (unread_in (piece_value known) MAX_ACES text) (unread_in (entry_of known) MAX_ENTRIES text)) (IsFirstAtFault known kind text fault))
        (sym posix)
        (first_of_list (entry_of known) as_entry entry_oks entry_errs known kind text fault MAX_ENTRIES (by_kind false posix) _
        (unread-first (entry_of known) as_entry entry_oks entry_errs (take MAX_ENTRIES (pieces text)) 0 fault most))

    of_aces : bytes_eq kind (codes "nfs4") ≡ true → aces_of known text ≡ Err fault → IsSomeAnd (unread_of_kind known kind text) (IsFirstAtFault known kind text fault)
    of_aces nfs4 is =
        let most = most_fault (piece_value known) as_ace ace_oks ace_errs MAX_ACES (pieces text) fault is (other TooMany refl) in
        subst (λ (b : Bool). IsSomeAnd (cond b (unread_in (piece_value known) MAX_ACES text) (unread_in (entry_of known) MAX_ENTRIES text)) (IsFirstAtFault known kind text fault))
        (sym nfs4)
        (first_of_list (piece_value known) as_ace ace_oks ace_errs known kind text fault MAX_ACES (by_kind true nfs4) _
        (unread-first (piece_value known) as_ace ace_oks ace_errs (take MAX_ACES (pieces text)) 0 fault most))

    accepted_fault : (entries : Result (List EntryValue) AclFault) → map_fault acl_line_fault (entries >>= acl_of_entries) ≡ Err fault → map_fault acl_line_fault entries ≡ Err fault
    accepted_fault (Ok entries) is = absurd (of_test (is_none (entries_fault entries)) is)
      where
        of_test : (b : Bool) → map_fault acl_line_fault (cond b (Ok (in_order entries)) (Err acl.InvalidAcl)) ≡ Err fault → ⊥
        of_test true is = cc
        of_test false is = other InvalidAcl refl (cc)
    accepted_fault (Err cause) is = is

    -- a request isn't `Bad` but for a fault

    access_fault : (path : List ℕ) → request_of (set_access known path text) ≡ Bad fault → entries_read ≡ Err fault
    unfolding set_access
    access_fault path is = of_path (is_path path) is
      where
        of_acl : (acl : Asked (List EntryValue)) → request_of (acl >>= (λ acl. Ok (SetAccess path acl))) ≡ Bad fault → acl ≡ Err fault
        of_acl (Ok acl) is = cc
        of_acl (Err cause) is = cc

        of_path : (b : Bool) → request_of (cond b (Ok path) (Err BadPath) >>= (λ path. acl_of known text >>= (λ acl. Ok (SetAccess path acl)))) ≡ Bad fault
            → entries_read ≡ Err fault
        of_path true is = accepted_fault (entries_of (entry_of known) (pieces text)) (of_acl (acl_of known text) is)
        of_path false is = absurd (other BadPath refl (cc))

    default_fault : (path : List ℕ) → request_of (set_default known path text) ≡ Bad fault → entries_read ≡ Err fault
    unfolding set_default
    default_fault path is = of_path (is_path path) is
      where
        of_default : (default : Asked (Option (List EntryValue))) → request_of (default >>= (λ default. Ok (SetDefault path default))) ≡ Bad fault → default ≡ Err fault
        of_default (Ok default) is = cc
        of_default (Err cause) is = cc

        of_acl : (acl : Asked (List EntryValue)) → acl >>= (λ acl. Ok (Some acl)) ≡ Err fault → acl ≡ Err fault
        of_acl (Ok acl) is = cc
        of_acl (Err cause) is = cc

        of_none : (b : Bool) → cond b (Ok None) (acl_of known text >>= (λ acl. Ok (Some acl))) ≡ Err fault → entries_read ≡ Err fault
        of_none true is = cc
        of_none false is = accepted_fault (entries_of (entry_of known) (pieces text)) (of_acl (acl_of known text) is)

        of_path : (b : Bool) → request_of (cond b (Ok path) (Err BadPath) >>= (λ path. default_of known text >>= (λ default. Ok (SetDefault path default)))) ≡ Bad fault
            → entries_read ≡ Err fault
        of_path true is = of_none (bytes_eq text (codes "none")) (of_default (default_of known text) is)
        of_path false is = absurd (other BadPath refl (cc))

    nfs4_fault : (path : List ℕ) → request_of (set_nfs4 known path text) ≡ Bad fault → aces_of known text ≡ Err fault
    unfolding set_nfs4
    nfs4_fault path is = of_path (is_path path) is
      where
        of_acl : (acl : Asked (List Nfsace4)) → request_of (acl >>= (λ acl. Ok (SetNfs4 path acl))) ≡ Bad fault → acl ≡ Err fault
        of_acl (Ok acl) is = cc
        of_acl (Err cause) is = cc

        of_path : (b : Bool) → request_of (cond b (Ok path) (Err BadPath) >>= (λ path. aces_of known text >>= (λ acl. Ok (SetNfs4 path acl)))) ≡ Bad fault
            → aces_of known text ≡ Err fault
        of_path true is = of_acl (aces_of known text) is
        of_path false is = absurd (other BadPath refl (cc))

    -- one word is no other
    posix_word : (word : List ℕ) → bytes_eq word (codes "nfs4") ≡ false → bytes_eq kind word ≡ true → bytes_eq kind (codes "nfs4") ≡ false
    posix_word word posix same = subst (λ (w : List ℕ). bytes_eq w (codes "nfs4") ≡ false) (sym ((bytes_eq-Decides kind word).0 same)) posix

    of_kind : (path : List ℕ) (access default nfs4 : Bool) → bytes_eq kind (codes "access") ≡ access → bytes_eq kind (codes "default") ≡ default → bytes_eq kind (codes "nfs4") ≡ nfs4
        → request_of (cond access (set_access known path text) (cond default (set_default known path text) (cond nfs4 (set_nfs4 known path text) (Err Syntax)))) ≡ Bad fault
        → IsSomeAnd (unread_of_kind known kind text) (IsFirstAtFault known kind text fault)
    of_kind path true default nfs4 access_is default_is nfs4_is is = of_entries (posix_word (codes "access") refl access_is) (access_fault path is)
    of_kind path false true nfs4 access_is default_is nfs4_is is = of_entries (posix_word (codes "default") refl default_is) (default_fault path is)
    of_kind path false false true access_is default_is nfs4_is is = of_aces nfs4_is (nfs4_fault path is)
    of_kind path false false false access_is default_is nfs4_is is = absurd (other Syntax refl (cc))

set_list_first : (known : Known) (path kind text : List ℕ) (fault : LineFault) → is_of_piece fault ≡ true → request_of (set_list known path kind text) ≡ Bad fault
    → IsSomeAnd (unread_of_kind known kind text) (IsFirstAtFault known kind text fault)
set_list_first known path kind [] fault of_piece is = absurd (other known kind [] fault of_piece Syntax refl (cc))
set_list_first known path kind (byte ∷ bytes) fault of_piece is = of_kind known kind (byte ∷ bytes) fault of_piece path _ _ _ refl refl refl is

-- ---- the line

command_set : (known : Known) (word fields : List ℕ) → word ≡ codes "set" → command known word fields ≡ set known fields
unfolding command
command_set known word fields is = rw is refl

module _ (known : Known) (fault : LineFault) (of_piece : is_of_piece fault ≡ true) where
  trimmed_first : (line : List ℕ) → first_word line ≡ codes "set" → request_of (asked_by known line) ≡ Bad fault
      → IsSomeAnd (piece_of_trimmed known fault line) (IsFirstOfFields known (after_word line) fault)
  trimmed_first line sets is =
      let fields = after_word line in
      let asked : request_of (set known fields) ≡ Bad fault = ap request_of (sym (command_set known (first_word line) fields sets)) ∙ is in
      let word : bytes_eq (first_word line) (codes "set") ≡ true = ap (λ word. bytes_eq word (codes "set")) sets in
      subst (λ (b : Bool). IsSomeAnd (cond b (unread_of_fields known fields) None) (IsFirstOfFields known fields fault))
      (sym (ap₂ (λ (a b : Bool). a && b) of_piece word))
      (set_list_first known (first_word fields) (first_word (after_word fields)) (after_word (after_word fields)) fault of_piece asked)

  of_line : (line : List ℕ) → first_word line ≡ codes "set" → line_of_trimmed known line ≡ Command (Bad fault)
      → IsSomeAnd (piece_of_trimmed known fault line) (IsFirstOfFields known (after_word line) fault)
  of_line [] sets is = cc
  of_line (byte ∷ bytes) sets is = trimmed_first (byte ∷ bytes) sets (of_test (byte == hash) is)
    where
      of_test : (b : Bool) → cond b Nothing (Command (request_of (asked_by known (byte ∷ bytes)))) ≡ Command (Bad fault) → request_of (asked_by known (byte ∷ bytes)) ≡ Bad fault
      of_test true is = cc
      of_test false is = cc

pub reports_the_piece : ReportsThePiece
reports_the_piece known bytes fault is of_piece sets = of_line known fault of_piece (trim bytes) sets (of_test (nat_lt MAX_LINE_LEN (length bytes)) is)
  where
    of_test : (b : Bool) → cond b (Command (Bad LineTooLong)) (line_of_trimmed known (trim bytes)) ≡ Command (Bad fault) → line_of_trimmed known (trim bytes) ≡ Command (Bad fault)
    of_test true is = absurd (other known [] [] fault of_piece LineTooLong refl (cc))
    of_test false is = is
