-- White space, as C has it.
use Rattle.std.specs.Prelude.{ℕ, Bool, ◌==◌, ◌||◌, List, [], ◌∷◌, if◌then◌else◌}
use Rattle.acl_names.specs.Bytes.{space, tab, carriage_return}
use Rattle.acl_accounts.specs.Names.{is_between}

-- a space, or a byte from tab to carriage return
abbrev pub is_space : ℕ → Bool
is_space byte = (byte == space) || is_between tab carriage_return byte

-- without the white space in front
abbrev pub skip_space : List ℕ → List ℕ
skip_space [] = []
skip_space (byte ∷ bytes) = if is_space byte then skip_space bytes else byte ∷ bytes
