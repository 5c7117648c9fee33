-- Bytes by name.
use Rattle.std.specs.Prelude.{ℕ}

abbrev pub newline : ℕ
newline = 10

abbrev pub tab : ℕ
tab = 9

abbrev pub carriage_return : ℕ
carriage_return = 13

abbrev pub space : ℕ
space = 32

-- `#`
abbrev pub hash : ℕ
hash = 35

abbrev pub comma : ℕ
comma = 44

-- `-`
abbrev pub hyphen : ℕ
hyphen = 45

-- `.`
abbrev pub dot : ℕ
dot = 46

abbrev pub colon : ℕ
colon = 58

-- `@`
abbrev pub at_sign : ℕ
at_sign = 64

abbrev pub backslash : ℕ
backslash = 92

-- `_`
abbrev pub underscore : ℕ
underscore = 95

-- `0` and `7`
abbrev pub digit_0 : ℕ
digit_0 = 48

abbrev pub digit_7 : ℕ
digit_7 = 55

-- `~`, the last printable byte
abbrev pub tilde : ℕ
tilde = 126

-- the letters of permissions
abbrev pub letter_r : ℕ
letter_r = 114

abbrev pub letter_w : ℕ
letter_w = 119

abbrev pub letter_x : ℕ
letter_x = 120
