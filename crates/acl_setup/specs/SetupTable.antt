-- The values of a table, by their types.
use Rattle.std.specs.Prelude.{◌≡◌, ℕ, ℤ, pos, negsuc, List, [], ◌∷◌, Option, Some, None, IsUtf8}
use Rattle.std.specs.Prelude.{if◌then◌else◌, nat_le, option_and_then}
use Rattle.toml.specs.Data.{Items, Members, as_array, as_integer, as_str, as_table}
use Rattle.toml.specs.Data.{get_member, item, no_items}
use Rattle.toml.specs.Parse.{parse_document}
use Rattle.acl_bridge.specs.Style.{style_of}
use Rattle.acl_bridge.specs.declared.style.Style.{Style}
use Rattle.acl_names.specs.declared.limits.TheConstants.{MAX_ID}
use Rattle.acl_posix.specs.Mode.{Classes}
use Rattle.acl_posix.specs.ModeText.{mode_of_octal}

-- the bytes are the text of a document, and the table is what it says
abbrev pub ReadsAs : List ℕ → Members → Type 0
ReadsAs bytes table = IsUtf8 bytes × (parse_document bytes ≡ Some table)

abbrev pub IsToml : List ℕ → Type 0
IsToml bytes = (table : Members) × ReadsAs bytes table

infixl 10 ◌>>=◌
abbrev pub ◌>>=◌ : {A B : Type 0} → Option A → (A → Option B) → Option B
reading >>= next = option_and_then next reading

-- an id: from 0 to 4294967294
abbrev pub id_of : ℤ → Option ℕ
id_of (pos number) = if nat_le number MAX_ID then Some number else None
id_of (negsuc number) = None

-- the text, the id, the mode, the style, the table and the texts at a key, which must be there and
-- be of this type
unfoldable pub text_at : List ℕ → Members → Option (List ℕ)
text_at key table = get_member key table >>= as_str

unfoldable pub id_at : List ℕ → Members → Option ℕ
id_at key table = get_member key table >>= as_integer >>= id_of

abbrev pub mode_at : List ℕ → Members → Option Classes
mode_at key table = text_at key table >>= mode_of_octal

abbrev pub style_at : List ℕ → Members → Option Style
style_at key table = text_at key table >>= style_of

unfoldable pub table_at : List ℕ → Members → Option Members
table_at key table = get_member key table >>= as_table

abbrev pub texts_in : Items → Option (List (List ℕ))
texts_in no_items = Some []
texts_in (item first more) = do
  text ← as_str first
  texts ← texts_in more
  Some (text ∷ texts)

unfoldable pub texts_at : List ℕ → Members → Option (List (List ℕ))
texts_at key table = get_member key table >>= as_array >>= texts_in
