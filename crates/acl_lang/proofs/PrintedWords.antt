-- Words that are joined by spaces: the line that they make, and how it is cut into them again.
use Rattle.std.proofs.Common.{◌≡◌, ◌∙◌, ℕ, ◌==◌, ◌+◌, ◌<◌, true, false, List, [], ◌∷◌, ◌++◌, length, length-append, ap, refl, sym, subst, drop, take, reverse, append_assoc, arith}
use Rattle.std.proofs.Math.Seq.{drop-append_seam}
use Rattle.std.proofs.lemmas.List.{append-nil, get_or_append_left, get_or_at, take_at, reverse-append, reverse-reverse}
use Rattle.std.proofs.lemmas.List.Elements.{All-nil, All-head, All-tail, All-cons, All-append, All-weaker}
use Rattle.std.proofs.lemmas.List.Splits.{slice_split_at, slice_split_none}
use Rattle.std.proofs.lemmas.List.Sums.{position_or_len_is}
use Rattle.std.specs.List.{All, filter, join_with_byte, position_or_len, slice_split}
use Rattle.acl_names.specs.Bytes.{newline, space}
use Rattle.acl_names.specs.Pieces.{after_word, first_word, is_blank, trim, trim_end, trim_start}
use Rattle.acl_names.specs.Plain.{IsField, IsPlain}
use Rattle.acl_names.proofs.Fields.{field_plain}
use Rattle.acl_names.proofs.PlainLines.{Lacks, LacksBlanks, plain_lacks_blanks, plain_lacks_newline}
use Rattle.acl_lang.specs.Words.{is_filled, words}

-- a word of a line
pub record IsWord (text : List ℕ) : Type 0 where
  pub filled : 0 < length text
  pub blanks : LacksBlanks text
  pub newlines : Lacks newline text

pub plain_word : (text : List ℕ) → 0 < length text → IsPlain text → IsWord text
plain_word text filled plain = record { filled = filled; blanks = plain_lacks_blanks text plain; newlines = plain_lacks_newline text plain }

pub field_word : (text : List ℕ) → 0 < length text → IsField text → IsWord text
field_word text filled field = plain_word text filled (field_plain text field)

-- what holds of the bytes of each text, and of the byte between them, holds of all that is joined
pub All-joined : (P : ℕ → Type 0) (byte : ℕ) → P byte → (texts : List (List ℕ)) → All (All P) texts → All P (join_with_byte byte texts)
All-joined P byte here [] each = All-nil P
All-joined P byte here (text ∷ []) each = All-head (All P) text [] each
All-joined P byte here (text ∷ next ∷ more) each =
    All-append P text (byte ∷ join_with_byte byte (next ∷ more)) (All-head (All P) text (next ∷ more) each)
    (All-cons P byte (join_with_byte byte (next ∷ more)) here (All-joined P byte here (next ∷ more) (All-tail (All P) text (next ∷ more) each)))

-- ---- the first word, and what stands after it

first_len : (word rest : List ℕ) → LacksBlanks word → position_or_len is_blank (word ++ space ∷ rest) ≡ length word
first_len word rest lacks =
    let len : length (word ++ space ∷ rest) ≡ length word + length (space ∷ rest) = length-append word (space ∷ rest) in
    position_or_len_is is_blank (word ++ space ∷ rest) (length word) 0 (omega arith)
    (λ k inside. rw (get_or_append_left word (space ∷ rest) 0 k inside) (lacks k 0 inside))
    (λ _. rw (get_or_at word space rest 0 (length word) refl) refl)

pub first_word-is : (word rest : List ℕ) → IsWord word → first_word (word ++ space ∷ rest) ≡ word
first_word-is word rest is =
    ap (λ n. take n (word ++ space ∷ rest)) (first_len word rest is.blanks) ∙ take_at word (space ∷ rest) (length word) refl

-- a text that begins with a word
pub record BeginsWithWord (text : List ℕ) : Type 0 where
  pub first : ℕ
  pub more : List ℕ
  pub cut : text ≡ first ∷ more
  pub not_blank : is_blank first ≡ false

trim_start-same : (text : List ℕ) → BeginsWithWord text → trim_start text ≡ text
trim_start-same text begins = rw (begins.cut, begins.not_blank) refl

begins : (word : List ℕ) → IsWord word → (rest : List ℕ) → BeginsWithWord (word ++ rest)
begins [] is rest = absurd (omega (arith, is.filled))
begins (byte ∷ bytes) is rest = record { first = byte; more = bytes ++ rest; cut = refl; not_blank = All-head (λ x. is_blank x ≡ false) byte bytes is.blanks }

pub line_begins : (word : List ℕ) (more : List (List ℕ)) → All IsWord (word ∷ more) → BeginsWithWord (join_with_byte space (word ∷ more))
line_begins word [] are = subst BeginsWithWord (append-nil word) (begins word (All-head IsWord word [] are) [])
line_begins word (next ∷ more) are = begins word (All-head IsWord word (next ∷ more) are) (space ∷ join_with_byte space (next ∷ more))

pub after_word-is : (word next : List ℕ) (more : List (List ℕ)) → All IsWord (word ∷ next ∷ more)
    → after_word (join_with_byte space (word ∷ next ∷ more)) ≡ join_with_byte space (next ∷ more)
after_word-is word next more are =
    let rest = join_with_byte space (next ∷ more) in
    ap (λ n. trim_start (drop n (word ++ space ∷ rest))) (first_len word rest (All-head IsWord word (next ∷ more) are).blanks)
    ∙ ap trim_start (drop-append_seam word (space ∷ rest))
    ∙ trim_start-same rest (line_begins next more (All-tail IsWord word (next ∷ more) are))

-- ---- all the words

split-is : (word : List ℕ) (more : List (List ℕ)) → All IsWord (word ∷ more) → slice_split is_blank (join_with_byte space (word ∷ more)) ≡ word ∷ more
split-is word [] are = slice_split_none is_blank word (All-head IsWord word [] are).blanks
split-is word (next ∷ more) are =
    slice_split_at is_blank word space (join_with_byte space (next ∷ more)) (All-head IsWord word (next ∷ more) are).blanks refl
    ∙ ap (λ rest. word ∷ rest) (split-is next more (All-tail IsWord word (next ∷ more) are))

filled-is : (word : List ℕ) → 0 < length word → is_filled word ≡ true
filled-is [] filled = absurd (omega (arith, filled))
filled-is (byte ∷ bytes) filled = refl

all_filled : (texts : List (List ℕ)) → All IsWord texts → filter is_filled texts ≡ texts
all_filled [] are = refl
all_filled (text ∷ more) are = rw (filled-is text (All-head IsWord text more are).filled, all_filled more (All-tail IsWord text more are)) refl

pub words-are : (word : List ℕ) (more : List (List ℕ)) → All IsWord (word ∷ more) → words (join_with_byte space (word ∷ more)) ≡ word ∷ more
words-are word more are = ap (filter is_filled) (split-is word more are) ∙ all_filled (word ∷ more) are

-- ---- the line, which begins and ends with no blank

record EndsWithWord (text : List ℕ) : Type 0 where
  front : List ℕ
  last : ℕ
  cut : text ≡ front ++ last ∷ []
  not_blank : is_blank last ≡ false

word_ends : (word : List ℕ) → 0 < length word → LacksBlanks word → EndsWithWord word
word_ends [] filled lacks = absurd (omega (arith, filled))
word_ends (byte ∷ []) filled lacks = record { front = []; last = byte; cut = refl; not_blank = All-head (λ x. is_blank x ≡ false) byte [] lacks }
word_ends (byte ∷ next ∷ bytes) filled lacks =
    let rest = word_ends (next ∷ bytes) (omega arith) (All-tail (λ x. is_blank x ≡ false) byte (next ∷ bytes) lacks) in
    record { front = byte ∷ rest.front; last = rest.last; cut = ap (λ xs. byte ∷ xs) rest.cut; not_blank = rest.not_blank }

line_ends : (word : List ℕ) (more : List (List ℕ)) → All IsWord (word ∷ more) → EndsWithWord (join_with_byte space (word ∷ more))
line_ends word [] are = let is = All-head IsWord word [] are in word_ends word is.filled is.blanks
line_ends word (next ∷ more) are =
    let rest = line_ends next more (All-tail IsWord word (next ∷ more) are) in
    record {
      front = word ++ space ∷ rest.front;
      last = rest.last;
      cut = ap (λ xs. word ++ space ∷ xs) rest.cut ∙ sym (append_assoc word (space ∷ rest.front) (rest.last ∷ []));
      not_blank = rest.not_blank;
    }

trim_end-same : (text : List ℕ) → EndsWithWord text → trim_end text ≡ text
trim_end-same text ends =
    let backwards : reverse text ≡ ends.last ∷ reverse ends.front = ap reverse ends.cut ∙ reverse-append ends.front (ends.last ∷ []) in
    let starts : BeginsWithWord (reverse text) = record { first = ends.last; more = reverse ends.front; cut = backwards; not_blank = ends.not_blank } in
    ap reverse (trim_start-same (reverse text) starts) ∙ reverse-reverse text

pub trim-same : (word : List ℕ) (more : List (List ℕ)) → All IsWord (word ∷ more) → trim (join_with_byte space (word ∷ more)) ≡ join_with_byte space (word ∷ more)
trim-same word more are =
    ap trim_end (trim_start-same (join_with_byte space (word ∷ more)) (line_begins word more are))
    ∙ trim_end-same (join_with_byte space (word ∷ more)) (line_ends word more are)

pub line-lacks_newline : (texts : List (List ℕ)) → All IsWord texts → Lacks newline (join_with_byte space texts)
line-lacks_newline texts are =
    All-joined (λ x. (x == newline) ≡ false) space refl texts (All-weaker IsWord (Lacks newline) (λ text is. is.newlines) texts are)
