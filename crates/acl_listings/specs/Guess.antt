-- What a text may be that isn't a listing, by its first block.
use Rattle.std.specs.Prelude.{ℕ, Bool, true, false, ◌&&◌, ◌||◌, not, List, [], ◌∷◌, codes, drop}
use Rattle.std.specs.Prelude.{bytes_eq, if◌then◌else◌, is_some, length, take}
use Rattle.std.specs.Io.BufRead.{ends_with_byte}
use Rattle.acl_names.specs.Bytes.{carriage_return}
use Rattle.acl_forms.specs.Forms.{form_of}
use Rattle.acl_forms.specs.declared.form.Form.{Form}
use Rattle.acl_forms.specs.declared.form.Form.TheVariants.{Posix, Nfs4, Freebsd}
use Rattle.acl_listings.specs.Header.{path_in}
use Rattle.acl_listings.specs.Lines.{after_line, first_line}
use Rattle.acl_listings.specs.declared.guess.Guess.{Guess}
use Rattle.acl_listings.specs.declared.guess.Guess.TheVariants.{Gzip, Utf16, CarriageReturns}
use Rattle.acl_listings.specs.declared.guess.Guess.TheVariants.{Tabular, NoOwners, NoListing}

-- the text begins with the word
abbrev pub begins : List ℕ → List ℕ → Bool
begins word text = bytes_eq (take (length word) text) word

-- the form is one of NFSv4 lists
abbrev pub is_nfs4 : Form → Bool
is_nfs4 Posix = false
is_nfs4 Nfs4 = true
is_nfs4 Freebsd = true

-- one byte of a letter in two bytes is 0
abbrev pub begins_wide : List ℕ → Bool
begins_wide text = begins (0 ∷ []) text || begins (0 ∷ []) (drop 1 text)

-- by the block's first line and its second
abbrev pub guess_of_lines : List ℕ → List ℕ → Guess
guess_of_lines first second =
    if ends_with_byte carriage_return first then CarriageReturns
    else if begins (codes "# file: ") first && begins (codes "USER") second then Tabular
    else if is_some (path_in first) && not (begins (codes "# owner: ") second) then NoOwners
    else if begins (codes "user::") first || is_nfs4 (form_of first) then NoOwners
    else NoListing

-- by the numbers that such files begin with, and else by the block's lines
abbrev pub guess_of : List ℕ → Guess
guess_of block =
    if begins (31 ∷ 139 ∷ []) block then Gzip
    else if begins (255 ∷ 254 ∷ []) block || begins (254 ∷ 255 ∷ []) block then Utf16
    else if begins_wide block then Utf16
    else guess_of_lines (first_line block) (first_line (after_line block))

abbrev pub guess_words : Guess → List ℕ
guess_words Gzip = codes "is it gzip?"
guess_words Utf16 = codes "is it UTF-16?"
guess_words CarriageReturns = codes "has it carriage returns?"
guess_words Tabular = codes "is it tabular (getfacl -t)?"
guess_words NoOwners = codes "is it without owners (getfacl -c, nfs4_getfacl)?"
guess_words NoListing = codes "is it a listing?"
