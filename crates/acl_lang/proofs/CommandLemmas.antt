-- The line of a printable request is read as that request, and a session of such lines as those requests.
use Rattle.std.proofs.Common.{◌≡◌, ◌≢◌, ◌∙◌, ℕ, ◌==◌, ◌+◌, ◌-◌, ◌<◌, ◌≤◌, true, false, List, [], ◌∷◌, ◌++◌}
use Rattle.std.proofs.Common.{length, length-append, map, subst, Option, None, Some, Ok, ap, refl, arith}
use Rattle.std.proofs.Common.{codes, decimal, nat_le, le-ltb, append_assoc}
use Rattle.std.specs.Prelude.{nat_lt}
use Rattle.std.specs.List.{All, join_with_byte}
use Rattle.std.proofs.lemmas.Bool.Decides.{nat_tests}
use Rattle.std.proofs.lemmas.List.Elements.{All-head, All-tail}
use Rattle.std.proofs.lemmas.List.Splits.{slice_split_at}
use Rattle.acl_names.specs.Bytes.{digit_0, newline, space}
use Rattle.acl_names.specs.Directory.{Known, uid_of}
use Rattle.acl_names.specs.Letters.{letters_text, HasBitsOf}
use Rattle.acl_names.specs.ListText.{Spells}
use Rattle.acl_names.specs.Names.{names_of}
use Rattle.acl_names.specs.Pieces.{after_word, first_word, lines_of, parts, pieces, trim, without_empty_last}
use Rattle.acl_names.specs.Steps.{or_fault}
use Rattle.acl_names.specs.declared.limits.TheConstants.{MAX_ID}
use Rattle.acl_names.proofs.DecimalIds.{decimal_again}
use Rattle.acl_names.proofs.LettersAgain.{letters_again}
use Rattle.acl_names.proofs.PlainLines.{Lacks}
use Rattle.acl_nfs4.specs.Ace.{Nfsace4}
use Rattle.acl_nfs4.specs.Acl.{AreAces}
use Rattle.acl_nfs4.specs.AceText.{piece_value}
use Rattle.acl_nfs4.specs.Letters.{mask_table}
use Rattle.acl_nfs4.specs.Mask.{mask_bits}
use Rattle.acl_nfs4.specs.declared.limits.TheConstants.{MAX_ACES}
use Rattle.acl_nfs4.specs.declared.mask.Mask.{Mask}
use Rattle.acl_nfs4.proofs.LetterLemmas.{mask_table_is}
use Rattle.acl_nfs4.proofs.NamedAgain as aces_again
use Rattle.acl_posix.specs.AclText.{SpellsAcl}
use Rattle.acl_posix.specs.Canonical.{IsAcl}
use Rattle.acl_posix.specs.Entry.{EntryValue}
use Rattle.acl_posix.specs.EntryText.{entry_by, entry_of}
use Rattle.acl_posix.specs.Mode.{Classes, AreClasses}
use Rattle.acl_posix.specs.ModeText.{is_octal}
use Rattle.acl_posix.specs.Perms.{bits_of, IsPermissions}
use Rattle.acl_posix.specs.PermsText.{perms_text}
use Rattle.acl_posix.specs.PrintedText.{short_text}
use Rattle.acl_posix.specs.declared.limits.TheConstants.{MAX_ENTRIES}
use Rattle.acl_posix.specs.declared.perms.Perms.{Perms}
use Rattle.acl_posix.proofs.AclTextLemmas.{spells_itself}
use Rattle.acl_posix.proofs.RoundTrip.{perms_again}
use Rattle.acl_posix.proofs.ShortRoundTrip.{short_spells}
use Rattle.acl_tree.specs.declared.faults.LineFault.TheVariants.{UnknownName}
use Rattle.acl_tree.specs.declared.request.Request.{Request}
use Rattle.acl_tree.specs.declared.request.Request.TheVariants.{Get, SetAccess, SetDefault, SetNfs4, Chmod, Create, Check, Check4, Translate, Bad}
use Rattle.acl_lang.specs.CommandText.{aces_field, command_text, default_field, numbered_from, session_text, words_of, HasShortLine, IsDefault, IsPrintable, ReadsAgain}
use Rattle.acl_lang.specs.Commands.{asked_by}
use Rattle.acl_lang.specs.Fields.{mask_of, mode_of, perms_of, user_of}
use Rattle.acl_lang.specs.Lines.{line_of, line_of_trimmed, request_of}
use Rattle.acl_lang.specs.Printed.{kind_text, mode_text}
use Rattle.acl_lang.specs.ReadAgain.{NameIds, NameIdsOfAces}
use Rattle.acl_lang.specs.Shapes.{AsksFor, Says, Sets, SpellsDefault}
use Rattle.acl_lang.specs.Texts.{requests_from, requests_of}
use Rattle.acl_lang.specs.Words.{words}
use Rattle.acl_lang.specs.declared.limits.TheConstants.{MAX_LINE_LEN}
use Rattle.acl_lang.specs.declared.line.Line.TheVariants.{Command}
use Rattle.acl_lang.proofs.PrintedWords.{IsWord, after_word-is, first_word-is, words-are, trim-same, line-lacks_newline}
use Rattle.acl_lang.proofs.RequestWords.{are_words}
use Rattle.acl_lang.proofs.ShapeLemmas.{asks-asked_by}

-- ---- fields that are read again

user_again : (known : Known) (user : ℕ) → user ≤ MAX_ID → user_of known (decimal user) ≡ Ok user
user_again known user small = ap (or_fault UnknownName) (decimal_again (uid_of known) user small)

is_octal-digit : (digit : ℕ) → digit < 8 → is_octal (digit_0 + digit) ≡ true
is_octal-digit digit small =
    let low : nat_le digit_0 (digit_0 + digit) ≡ true = grind (arith, nat_tests) in
    let high : nat_le (digit_0 + digit) 55 ≡ true = grind (arith, nat_tests) in
    rw (low, high) refl

digit_again : (digit : ℕ) → digit_0 + digit - digit_0 ≡ digit
digit_again digit = omega arith

mode_again : (mode : Classes) → AreClasses mode → mode_of (mode_text mode) ≡ Ok mode
mode_again mode are =
    rw (is_octal-digit mode.user are.user_is, is_octal-digit mode.group are.group_is, is_octal-digit mode.other are.other_is)
    (rw (digit_again mode.user, digit_again mode.group, digit_again mode.other) refl)

perms_field-again : (perms : Perms) → IsPermissions (bits_of perms) → perms_of (perms_text (bits_of perms)) ≡ Ok perms
perms_field-again perms has = rw (perms_again (bits_of perms) has) refl

mask_field-again : (mask : Mask) → HasBitsOf mask_table (mask_bits mask) → mask_of (letters_text mask_table (mask_bits mask)) ≡ Ok mask
mask_field-again mask has = rw (letters_again mask_table (mask_bits mask) mask_table_is has) refl

acl_again : (known : Known) (acl : List EntryValue) → IsAcl acl → NameIds acl → SpellsAcl known (short_text acl) acl
acl_again known acl is ids = spells_itself (names_of known) (short_text acl) acl is (short_spells known acl ids is.permissions is.within)

aces_field-again : (known : Known) (aces : List Nfsace4) → AreAces aces → NameIdsOfAces aces → Spells (piece_value known) MAX_ACES (aces_field aces) aces
aces_field-again known [] are ids = record { said = refl; within = are.within }
aces_field-again known (ace ∷ more) are ids = aces_again.short_spells known (ace ∷ more) are ids

-- `none` is no list
none_is_none : (known : Known) (acl : List EntryValue) → Spells (entry_of known) MAX_ENTRIES (codes "none") acl → ⊥
unfolding entry_by
none_is_none known [] spells = let said : map (entry_of known) (pieces (codes "none")) ≡ [] = spells.said in cc
none_is_none known (entry ∷ more) spells = let said : map (entry_of known) (pieces (codes "none")) ≡ map Ok (entry ∷ more) = spells.said in cc

default_again : (known : Known) (default : Option (List EntryValue)) → IsDefault default → SpellsDefault known (default_field default) default
default_again known None is = refl
default_again known (Some acl) (is, ids) =
    let spells = short_spells known acl ids is.permissions is.within in (
      λ none. none_is_none known acl (subst (λ (text : List ℕ). Spells (entry_of known) MAX_ENTRIES text acl) none spells),
      acl_again known acl is ids,
    )

-- ---- what the words ask for

said : (command field : List ℕ) (more : List (List ℕ)) → All IsWord (command ∷ field ∷ more) → Says (join_with_byte space (command ∷ field ∷ more)) command (field ∷ more)
said command field more are = record {
  command_is = first_word-is command (join_with_byte space (field ∷ more)) (All-head IsWord command (field ∷ more) are);
  fields_are = ap words (after_word-is command field more are) ∙ words-are field more (All-tail IsWord command (field ∷ more) are);
}

module _ (path kind text : List ℕ) (are : All IsWord (codes "set" ∷ path ∷ kind ∷ text ∷ [])) where
  line : List ℕ
  line = join_with_byte space (codes "set" ∷ path ∷ kind ∷ text ∷ [])

  are_fields : All IsWord (path ∷ kind ∷ text ∷ [])
  are_fields = All-tail IsWord (codes "set") (path ∷ kind ∷ text ∷ []) are

  are_last : All IsWord (kind ∷ text ∷ [])
  are_last = All-tail IsWord path (kind ∷ text ∷ []) are_fields

  behind_set : after_word line ≡ join_with_byte space (path ∷ kind ∷ text ∷ [])
  unfolding line
  behind_set = after_word-is (codes "set") path (kind ∷ text ∷ []) are

  behind_path : after_word (after_word line) ≡ join_with_byte space (kind ∷ text ∷ [])
  behind_path = ap after_word behind_set ∙ after_word-is path kind (text ∷ []) are_fields

  some_text : text ≢ []
  some_text none = absurd (omega (arith, (All-head IsWord text [] (All-tail IsWord kind (text ∷ []) are_last)).filled, ap length none))

  sets : Sets line path kind text
  unfolding line
  sets = record {
    command_is = first_word-is (codes "set") (join_with_byte space (path ∷ kind ∷ text ∷ [])) (All-head IsWord (codes "set") (path ∷ kind ∷ text ∷ []) are);
    path_is = ap first_word behind_set ∙ first_word-is path (join_with_byte space (kind ∷ text ∷ [])) (All-head IsWord path (kind ∷ text ∷ []) are_fields);
    kind_is = ap first_word behind_path ∙ first_word-is kind text (All-head IsWord kind (text ∷ []) are_last);
    text_is = ap after_word behind_path ∙ after_word-is kind text [] are_last;
    filled = some_text;
  }

asks : (known : Known) (request : Request) → IsPrintable request → AsksFor known (command_text request) request
unfolding line
asks known (Get path) is = (said (codes "get") path [] (are_words known (Get path) is), is)
asks known (Translate path) is = (said (codes "translate") path [] (are_words known (Translate path) is), is)
asks known (SetAccess path acl) is =
    (short_text acl, sets path (codes "access") (short_text acl) (are_words known (SetAccess path acl) is), is.0, acl_again known acl is.1 is.2)
asks known (SetDefault path default) is =
    (default_field default, sets path (codes "default") (default_field default) (are_words known (SetDefault path default) is), is.0, default_again known default is.1)
asks known (SetNfs4 path acl) is =
    (aces_field acl, sets path (codes "nfs4") (aces_field acl) (are_words known (SetNfs4 path acl) is), is.0, aces_field-again known acl is.1 is.2)
asks known (Chmod path mode) is =
    (mode_text mode, said (codes "chmod") path (mode_text mode ∷ []) (are_words known (Chmod path mode) is), is.0, mode_again mode is.1)
asks known (Create kind path user mode) is = (
  decimal user,
  mode_text mode,
  said (codes "create") (kind_text kind) (path ∷ decimal user ∷ mode_text mode ∷ []) (are_words known (Create kind path user mode) is),
  is.0,
  user_again known user is.1,
  mode_again mode is.2,
)
asks known (Check path user perms) is = (
  decimal user,
  perms_text (bits_of perms),
  said (codes "check") path (decimal user ∷ perms_text (bits_of perms) ∷ []) (are_words known (Check path user perms) is),
  is.0,
  user_again known user is.1,
  perms_field-again perms is.2,
)
asks known (Check4 path user mask) is = (
  decimal user,
  letters_text mask_table (mask_bits mask),
  said (codes "check4") path (decimal user ∷ letters_text mask_table (mask_bits mask) ∷ []) (are_words known (Check4 path user mask) is),
  is.0,
  user_again known user is.1,
  mask_field-again mask is.2.0,
)
asks known (Bad fault) is = absurd is

-- ---- lines

trimmed_again : (known : Known) (request : Request) → IsPrintable request → line_of_trimmed known (command_text request) ≡ Command request
trimmed_again known request is = by_kind request is (asks-asked_by known (command_text request) request (asks known request is))
  where
    by_kind : (request : Request) → IsPrintable request → asked_by known (command_text request) ≡ Ok request → line_of_trimmed known (command_text request) ≡ Command request
    by_kind (Get path) is asked = ap (λ asked. Command (request_of asked)) asked
    by_kind (SetAccess path acl) is asked = ap (λ asked. Command (request_of asked)) asked
    by_kind (SetDefault path default) is asked = ap (λ asked. Command (request_of asked)) asked
    by_kind (SetNfs4 path acl) is asked = ap (λ asked. Command (request_of asked)) asked
    by_kind (Chmod path mode) is asked = ap (λ asked. Command (request_of asked)) asked
    by_kind (Create kind path user mode) is asked = ap (λ asked. Command (request_of asked)) asked
    by_kind (Check path user perms) is asked = ap (λ asked. Command (request_of asked)) asked
    by_kind (Check4 path user mask) is asked = ap (λ asked. Command (request_of asked)) asked
    by_kind (Translate path) is asked = ap (λ asked. Command (request_of asked)) asked
    by_kind (Bad fault) is asked = absurd is

trim_joined : (texts : List (List ℕ)) → All IsWord texts → trim (join_with_byte space texts) ≡ join_with_byte space texts
trim_joined [] are = refl
trim_joined (text ∷ more) are = trim-same text more are

pub line_again : (known : Known) (request : Request) → IsPrintable request → HasShortLine request → line_of known (command_text request) ≡ Command request
line_again known request is short =
    let within : nat_lt MAX_LINE_LEN (length (command_text request)) ≡ false = le-ltb MAX_LINE_LEN (length (command_text request)) short in
    let trimmed : trim (command_text request) ≡ command_text request = trim_joined (words_of request) (are_words known request is) in
    rw (within, trimmed) (trimmed_again known request is)

-- ---- sessions

kept_line : (line : List ℕ) (more : List (List ℕ)) → 0 < length line → without_empty_last (line ∷ more) ≡ line ∷ without_empty_last more
kept_line [] more some = absurd (omega (arith, some))
kept_line (byte ∷ bytes) more some = refl

line_filled : (texts : List (List ℕ)) → 0 < length texts → All IsWord texts → 0 < length (join_with_byte space texts)
line_filled [] some are = absurd (omega (arith, some))
line_filled (text ∷ []) some are = (All-head IsWord text [] are).filled
line_filled (text ∷ next ∷ more) some are = omega (arith, length-append text (space ∷ join_with_byte space (next ∷ more)))

some_words : (request : Request) → IsPrintable request → 0 < length (words_of request)
some_words (Get path) is = omega arith
some_words (SetAccess path acl) is = omega arith
some_words (SetDefault path default) is = omega arith
some_words (SetNfs4 path acl) is = omega arith
some_words (Chmod path mode) is = omega arith
some_words (Create kind path user mode) is = omega arith
some_words (Check path user perms) is = omega arith
some_words (Check4 path user mask) is = omega arith
some_words (Translate path) is = omega arith
some_words (Bad fault) is = absurd is

-- the lines of a text that begins with this one
first_line : (line rest : List ℕ) → 0 < length line → Lacks newline line → lines_of (line ++ newline ∷ rest) ≡ line ∷ lines_of rest
first_line line rest some lacks =
    ap without_empty_last (slice_split_at (λ x. x == newline) line newline rest lacks refl) ∙ kept_line line (parts newline rest) some

lines_again : (known : Known) (requests : List Request) → All ReadsAgain requests → lines_of (session_text requests) ≡ map command_text requests
lines_again known [] are = refl
lines_again known (request ∷ more) are =
    let is : IsPrintable request = (All-head ReadsAgain request more are).0 in
    let text = command_text request in
    let words = are_words known request is in
    ap lines_of (append_assoc text (newline ∷ []) (session_text more))
    ∙ first_line text (session_text more) (line_filled (words_of request) (some_words request is) words) (line-lacks_newline (words_of request) words)
    ∙ ap (λ lines. text ∷ lines) (lines_again known more (All-tail ReadsAgain request more are))

requests_again : (known : Known) (before : ℕ) (requests : List Request) → All ReadsAgain requests → requests_from known before (map command_text requests) ≡ numbered_from before requests
requests_again known before [] are = refl
requests_again known before (request ∷ more) are =
    let here : ReadsAgain request = All-head ReadsAgain request more are in
    rw (line_again known request here.0 here.1, requests_again known (before + 1) more (All-tail ReadsAgain request more are)) refl

pub session_again : (known : Known) (requests : List Request) → All ReadsAgain requests → requests_of known (session_text requests) ≡ numbered_from 0 requests
session_again known requests are = ap (requests_from known 0) (lines_again known requests are) ∙ requests_again known 0 requests are

-- a session whose first line is another's way to write a request
pub session_behind : (known : Known) (line : List ℕ) (first : Request) → 0 < length line → Lacks newline line → line_of known line ≡ Command first
    → (requests : List Request) → All ReadsAgain requests
    → requests_of known ((line ++ newline ∷ []) ++ session_text requests) ≡ numbered_from 0 (first ∷ requests)
session_behind known line first some lacks is requests are =
    let lines : List (List ℕ) = map command_text requests in
    let begun : requests_from known 0 (line ∷ lines) ≡ numbered_from 0 (first ∷ requests) = rw (is, requests_again known 1 requests are) refl in
    ap (λ text. requests_from known 0 (lines_of text)) (append_assoc line (newline ∷ []) (session_text requests))
    ∙ ap (requests_from known 0) (first_line line (session_text requests) some lacks ∙ ap (λ lines. line ∷ lines) (lines_again known requests are))
    ∙ begun
