-- How permissions are written.
use Rattle.std.specs.Prelude.{ℕ, Bool, ◌&&◌, ◌||◌, ◌==◌, not, nat_le, List, [], ◌∷◌, length, Option}
use Rattle.std.specs.Prelude.{Some, None, if◌then◌else◌}
use Rattle.std.specs.List.{list_all}
use Rattle.acl_names.specs.Bytes.{hyphen, letter_r, letter_w, letter_x}
use Rattle.acl_names.specs.Bits.{◌∪◌, has_all}
use Rattle.acl_names.specs.Letters.{occurs, repeats}

-- r, w, x or -
abbrev pub is_perms_byte : ℕ → Bool
is_perms_byte byte = (byte == letter_r) || (byte == letter_w) || (byte == letter_x)
    || (byte == hyphen)

-- 1 to 3 characters out of r, w, x and -, no letter twice; - may repeat
abbrev pub is_perms_text : List ℕ → Bool
is_perms_text text = nat_le 1 (length text) && nat_le (length text) 3 && list_all is_perms_byte text
    && not (repeats letter_r text) && not (repeats letter_w text) && not (repeats letter_x text)

-- the set with exactly the permissions whose flag is true
abbrev pub perms_with : Bool → Bool → Bool → ℕ
perms_with read write execute = (if read then 4 else 0) ∪ (if write then 2 else 0)
    ∪ (if execute then 1 else 0)

-- the permissions whose letters the text has
unfoldable pub perms_of_text : List ℕ → Option ℕ
perms_of_text text = if is_perms_text text then Some
    (perms_with (occurs letter_r text) (occurs letter_w text) (occurs letter_x text)) else None

-- three characters: r or -, w or -, x or -
abbrev pub three_letters : Bool → Bool → Bool → List ℕ
three_letters read write execute = (if read then letter_r else hyphen)
    ∷ (if write then letter_w else hyphen) ∷ (if execute then letter_x else hyphen) ∷ []

-- how permissions are printed
abbrev pub perms_text : ℕ → List ℕ
perms_text perms = three_letters (has_all perms 4) (has_all perms 2) (has_all perms 1)
