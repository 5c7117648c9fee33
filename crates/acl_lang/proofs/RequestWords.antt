-- The words of a printable request: none is empty, and none has a blank or a newline.
use Rattle.std.proofs.Common.{◌≡◌, ◌≢◌, ℕ, ◌==◌, ◌+◌, ◌<◌, ◌≤◌, Bool, true, false, not, ◌&&◌, ◌||◌, List, []}
use Rattle.std.proofs.Common.{◌∷◌, length, length-append, map, Option, None, Some, refl, sym, subst, arith}
use Rattle.std.proofs.Common.{codes, decimal, bytes_eq, nat_le}
use Rattle.std.specs.Prelude.{nat_lt}
use Rattle.std.specs.List.{All, join_with_byte, list_all}
use Rattle.std.proofs.lemmas.Bool.Decides.{nat_tests}
use Rattle.std.proofs.lemmas.List.{length-map}
use Rattle.std.proofs.lemmas.List.Elements.{All-nil, All-head, All-cons, All-weaker}
use Rattle.std.proofs.lemmas.List.Splits.{join_with_byte-slice_split}
use Rattle.std.proofs.lemmas.List.Sums.{AllPass-from_list_all}
use Rattle.std.proofs.lemmas.Slice.Eq.{bytes_eq-Decides}
use Rattle.acl_names.specs.Bytes.{comma, digit_0, hash, newline}
use Rattle.acl_names.specs.Directory.{Known}
use Rattle.acl_names.specs.Letters.{letters_of, letters_text, HasBitsOf}
use Rattle.acl_names.specs.Pieces.{is_blank, parts}
use Rattle.acl_names.specs.Plain.{is_field_byte, IsField}
use Rattle.acl_names.specs.declared.limits.TheConstants.{MAX_ID}
use Rattle.acl_names.proofs.DecimalIds.{decimal_field}
use Rattle.acl_names.proofs.Fields.{tested_field}
use Rattle.acl_names.proofs.IdTexts.{and_first, and_second}
use Rattle.acl_names.proofs.LettersAgain.{letters_again}
use Rattle.acl_names.proofs.PlainJoined.{IsPlainPiece}
use Rattle.acl_names.proofs.PlainLines.{Lacks, LacksBlanks, plain_lacks_blanks, plain_lacks_newline}
use Rattle.acl_nfs4.specs.Ace.{Nfsace4}
use Rattle.acl_nfs4.specs.Acl.{AreAces}
use Rattle.acl_nfs4.specs.Letters.{mask_table}
use Rattle.acl_nfs4.specs.Mask.{mask_bits}
use Rattle.acl_nfs4.specs.PrintedText.{short_ace}
use Rattle.acl_nfs4.specs.declared.inheritance.Kind.{Kind}
use Rattle.acl_nfs4.specs.declared.inheritance.Kind.TheVariants.{File, Dir}
use Rattle.acl_nfs4.proofs.LetterLemmas.{mask-field, mask_table_is}
use Rattle.acl_nfs4.proofs.NamedAgain as aces_again
use Rattle.acl_posix.specs.Canonical.{IsAcl}
use Rattle.acl_posix.specs.Entry.{EntryValue}
use Rattle.acl_posix.specs.Mode.{Classes, AreClasses}
use Rattle.acl_posix.specs.Perms.{bits_of}
use Rattle.acl_posix.specs.PermsText.{perms_text}
use Rattle.acl_posix.specs.PrintedText.{short_entry, short_text}
use Rattle.acl_posix.specs.Validity.{count_of}
use Rattle.acl_posix.specs.declared.entry.Tag.TheVariants.{UserObj}
use Rattle.acl_posix.proofs.RoundTrip.{perms_field}
use Rattle.acl_posix.proofs.ShortRoundTrip.{short_pieces}
use Rattle.acl_tree.specs.Path.{has_components, is_component, is_path_byte, is_slash}
use Rattle.acl_tree.specs.declared.limits.TheConstants.{MAX_COMPONENT_LEN, MAX_PATH_LEN}
use Rattle.acl_tree.specs.declared.request.Request.{Request}
use Rattle.acl_tree.specs.declared.request.Request.TheVariants.{Get, SetAccess, SetDefault, SetNfs4, Chmod, Create, Check, Check4, Translate, Bad}
use Rattle.acl_lang.specs.CommandText.{aces_field, default_field, words_of, IsDefault, IsPrintable}
use Rattle.acl_lang.specs.Printed.{kind_text, mode_text}
use Rattle.acl_lang.specs.ReadAgain.{NameIds, NameIdsOfAces}
use Rattle.acl_lang.specs.Shapes.{IsPath}
use Rattle.acl_lang.proofs.PrintedWords.{IsWord, All-joined, field_word}

-- a text that computes
pub tested_word : (text : List ℕ) → list_all is_field_byte text ≡ true → 0 < length text → IsWord text
tested_word text passes filled = field_word text filled (tested_field text passes)

-- ---- paths

abbrev slash : ℕ
slash = 47

path_byte : (byte : ℕ) → is_path_byte byte ≡ true → is_field_byte byte ≡ true
path_byte byte is = grind (arith, nat_tests)

component_field : (bytes : List ℕ) → is_component bytes ≡ true → IsField bytes
component_field bytes is =
    let some = nat_lt 0 (length bytes) && nat_le (length bytes) MAX_COMPONENT_LEN in
    let path_bytes = list_all is_path_byte bytes in
    let not_here = not (bytes_eq bytes (codes ".")) in
    let not_above = not (bytes_eq bytes (codes "..")) in
    let all : path_bytes ≡ true = and_second some path_bytes (and_first (some && path_bytes) not_here (and_first (some && path_bytes && not_here) not_above is)) in
    All-weaker (λ byte. is_path_byte byte ≡ true) (λ byte. is_field_byte byte ≡ true) path_byte bytes (AllPass-from_list_all is_path_byte bytes all)

slash_byte : (byte : ℕ) → is_slash byte ≡ true → is_field_byte byte ≡ true
slash_byte byte is = grind (arith, nat_tests)

-- a field that is not empty
abbrev pub IsSomeField : List ℕ → Type 0
IsSomeField text = IsField text × (0 < length text)

components_field : (path : List ℕ) → has_components path ≡ true → IsSomeField path
components_field [] is = absurd (cc)
components_field (first ∷ rest) is =
    let cut = parts slash rest in
    let begins : is_slash first ≡ true = and_first (is_slash first) (list_all is_component cut) is in
    let each = AllPass-from_list_all is_component cut (and_second (is_slash first) (list_all is_component cut) is) in
    let joined = All-joined (λ byte. is_field_byte byte ≡ true) slash refl cut (All-weaker (λ part. is_component part ≡ true) IsField component_field cut each) in
    (All-cons (λ byte. is_field_byte byte ≡ true) first rest (slash_byte first begins) (subst IsField (join_with_byte-slice_split slash rest) joined), omega arith)

path_by : (path : List ℕ) (b : Bool) → bytes_eq path (codes "/") ≡ b → (b || (nat_le (length path) MAX_PATH_LEN && has_components path)) ≡ true → IsSomeField path
path_by path true root is = subst IsSomeField (sym ((bytes_eq-Decides path (codes "/")).0 root)) (tested_field (codes "/") refl, omega arith)
path_by path false other is = components_field path (and_second (nat_le (length path) MAX_PATH_LEN) (has_components path) is)

pub path_field : (path : List ℕ) → IsPath path → IsSomeField path
path_field path is = path_by path (bytes_eq path (codes "/")) refl is

pub path_word : (path : List ℕ) → IsPath path → IsWord path
path_word path is = let field = path_field path is in field_word path field.1 field.0

-- ---- fields

pub decimal_word : (id : ℕ) → id ≤ MAX_ID → IsWord (decimal id)
decimal_word id small = let both = decimal_field id small in field_word (decimal id) both.1 both.0

pub kind_word : (kind : Kind) → IsWord (kind_text kind)
kind_word File = tested_word (codes "file") refl (omega arith)
kind_word Dir = tested_word (codes "dir") refl (omega arith)

digit_byte : (digit : ℕ) → digit < 8 → is_field_byte (digit_0 + digit) ≡ true
digit_byte digit small = grind (arith, nat_tests)

pub mode_word : (mode : Classes) → AreClasses mode → IsWord (mode_text mode)
mode_word mode are =
    let user = digit_0 + mode.user in
    let group = digit_0 + mode.group in
    let other = digit_0 + mode.other in
    let in_field : ℕ → Type 0 = λ byte. is_field_byte byte ≡ true in
    field_word (mode_text mode) (omega arith)
    (All-cons in_field user (group ∷ other ∷ []) (digit_byte mode.user are.user_is)
    (All-cons in_field group (other ∷ []) (digit_byte mode.group are.group_is)
    (All-cons in_field other [] (digit_byte mode.other are.other_is) (All-nil in_field))))

pub perms_word : (perms : ℕ) → IsWord (perms_text perms)
perms_word perms = field_word (perms_text perms) (omega arith) (perms_field perms)

-- ---- lists

pieces_filled : (pieces : List (List ℕ)) → 0 < length pieces → All IsPlainPiece pieces → 0 < length (join_with_byte comma pieces)
pieces_filled [] some each = absurd (omega (arith, some))
pieces_filled (piece ∷ []) some each = (All-head IsPlainPiece piece [] each).0
pieces_filled (piece ∷ next ∷ more) some each =
    omega (arith, (All-head IsPlainPiece piece (next ∷ more) each).0, length-append piece (comma ∷ join_with_byte comma (next ∷ more)))

pieces_word : (pieces : List (List ℕ)) → 0 < length pieces → All IsPlainPiece pieces → IsWord (join_with_byte comma pieces)
pieces_word pieces some each = record {
  filled = pieces_filled pieces some each;
  blanks = All-joined (λ byte. is_blank byte ≡ false) comma refl pieces (All-weaker IsPlainPiece LacksBlanks (λ piece is. plain_lacks_blanks piece is.1) pieces each);
  newlines = All-joined (λ byte. (byte == newline) ≡ false) comma refl pieces (All-weaker IsPlainPiece (Lacks newline) (λ piece is. plain_lacks_newline piece is.1) pieces each);
}

some_entry : (acl : List EntryValue) → IsAcl acl → 0 < length acl
some_entry [] is = let one : count_of UserObj [] ≡ 1 = is.valid.user_obj in absurd (omega (arith, one))
some_entry (entry ∷ more) is = omega arith

pub acl_word : (acl : List EntryValue) → IsAcl acl → NameIds acl → IsWord (short_text acl)
acl_word acl is ids = pieces_word (map short_entry acl) (omega (arith, length-map acl short_entry, some_entry acl is)) (short_pieces acl ids)

pub default_word : (default : Option (List EntryValue)) → IsDefault default → IsWord (default_field default)
default_word None is = tested_word (codes "none") refl (omega arith)
default_word (Some acl) is = acl_word acl is.0 is.1

hash_word : IsWord (hash ∷ [])
hash_word = record {
  filled = omega arith;
  blanks = All-cons (λ byte. is_blank byte ≡ false) hash [] refl (All-nil (λ byte. is_blank byte ≡ false));
  newlines = All-cons (λ byte. (byte == newline) ≡ false) hash [] refl (All-nil (λ byte. (byte == newline) ≡ false));
}

pub aces_word : (known : Known) (aces : List Nfsace4) → AreAces aces → NameIdsOfAces aces → IsWord (aces_field aces)
aces_word known [] are ids = hash_word
aces_word known (ace ∷ more) are ids = pieces_word (map short_ace (ace ∷ more)) (omega arith) (aces_again.short_pieces known (ace ∷ more) are ids)

-- ---- masks

no_letters : (mask : ℕ) (text : List ℕ) → text ≡ [] → letters_of mask_table text ≡ Some mask → mask ≡ 0
unfolding letters_of
no_letters mask text none read = let zero : letters_of mask_table [] ≡ Some mask = subst (λ (letters : List ℕ). letters_of mask_table letters ≡ Some mask) none read in cc

pub mask_word : (mask : ℕ) → HasBitsOf mask_table mask → mask ≢ 0 → IsWord (letters_text mask_table mask)
mask_word mask has some = by_text (letters_text mask_table mask) refl
  where
    by_text : (text : List ℕ) → letters_text mask_table mask ≡ text → IsWord (letters_text mask_table mask)
    by_text [] is = absurd (some (no_letters mask (letters_text mask_table mask) is (letters_again mask_table mask mask_table_is has)))
    by_text (letter ∷ more) is = field_word (letters_text mask_table mask) (rw is (omega arith)) (mask-field mask)

-- ---- the words of a request

two : (first second : List ℕ) → IsWord first → IsWord second → All IsWord (first ∷ second ∷ [])
two first second a b = All-cons IsWord first (second ∷ []) a (All-cons IsWord second [] b (All-nil IsWord))

three : (first second third : List ℕ) → IsWord first → IsWord second → IsWord third → All IsWord (first ∷ second ∷ third ∷ [])
three first second third a b c = All-cons IsWord first (second ∷ third ∷ []) a (two second third b c)

four : (first second third fourth : List ℕ) → IsWord first → IsWord second → IsWord third → IsWord fourth → All IsWord (first ∷ second ∷ third ∷ fourth ∷ [])
four first second third fourth a b c d = All-cons IsWord first (second ∷ third ∷ fourth ∷ []) a (three second third fourth b c d)

set_words : (path kind text : List ℕ) → IsPath path → IsWord kind → IsWord text → All IsWord (codes "set" ∷ path ∷ kind ∷ text ∷ [])
set_words path kind text there kind_is text_is = four (codes "set") path kind text (tested_word (codes "set") refl (omega arith)) (path_word path there) kind_is text_is

pub are_words : (known : Known) (request : Request) → IsPrintable request → All IsWord (words_of request)
are_words known (Get path) there = two (codes "get") path (tested_word (codes "get") refl (omega arith)) (path_word path there)
are_words known (Translate path) there = two (codes "translate") path (tested_word (codes "translate") refl (omega arith)) (path_word path there)
are_words known (SetAccess path acl) (there, is, ids) =
    set_words path (codes "access") (short_text acl) there (tested_word (codes "access") refl (omega arith)) (acl_word acl is ids)
are_words known (SetDefault path default) (there, is) =
    set_words path (codes "default") (default_field default) there (tested_word (codes "default") refl (omega arith)) (default_word default is)
are_words known (SetNfs4 path acl) (there, are, ids) =
    set_words path (codes "nfs4") (aces_field acl) there (tested_word (codes "nfs4") refl (omega arith)) (aces_word known acl are ids)
are_words known (Chmod path mode) (there, are) =
    three (codes "chmod") path (mode_text mode) (tested_word (codes "chmod") refl (omega arith)) (path_word path there) (mode_word mode are)
are_words known (Create kind path user mode) (there, small, are) =
    All-cons IsWord (codes "create") (kind_text kind ∷ path ∷ decimal user ∷ mode_text mode ∷ []) (tested_word (codes "create") refl (omega arith))
    (four (kind_text kind) path (decimal user) (mode_text mode) (kind_word kind) (path_word path there) (decimal_word user small) (mode_word mode are))
are_words known (Check path user perms) (there, small, has) =
    four (codes "check") path (decimal user) (perms_text (bits_of perms)) (tested_word (codes "check") refl (omega arith)) (path_word path there) (decimal_word user small) (perms_word (bits_of perms))
are_words known (Check4 path user mask) (there, small, has) =
    four (codes "check4") path (decimal user) (letters_text mask_table (mask_bits mask)) (tested_word (codes "check4") refl (omega arith)) (path_word path there) (decimal_word user small)
    (mask_word (mask_bits mask) has.0 has.1)
are_words known (Bad fault) never = absurd never
