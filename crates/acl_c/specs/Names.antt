-- The names of what goes wrong, and the numbers of errno that stand for it.
use Rattle.std.specs.Prelude.{ℕ, ℤ, pos, negsuc, List, ◌==◌, codes, if◌then◌else◌}

abbrev pub name_at : ℕ → List ℕ
name_at n =
    if n == 0 then codes "no-memory"
    else if n == 1 then codes "no-room"
    else if n == 2 then codes "bad-argument"
    else if n == 3 then codes "bad-size"
    else if n == 4 then codes "bad-version"
    else if n == 5 then codes "too-many"
    else if n == 6 then codes "bad-tag"
    else if n == 7 then codes "bad-id"
    else if n == 8 then codes "bad-permissions"
    else if n == 9 then codes "missing-entry"
    else if n == 10 then codes "repeated-entry"
    else if n == 11 then codes "no-mask"
    else if n == 12 then codes "bad-type"
    else if n == 13 then codes "bad-flags"
    else if n == 14 then codes "bad-mask"
    else if n == 15 then codes "bad-who"
    else if n == 16 then codes "inherit-only"
    else if n == 17 then codes "syntax"
    else if n == 18 then codes "unknown-name"
    else if n == 19 then codes "invalid-list"
    else if n == 20 then codes "unkept-bits"
    else codes "unknown"

abbrev pub error_name : ℤ → List ℕ
error_name (pos n) = codes "unknown"
error_name (negsuc n) = name_at n

-- ENOMEM, ERANGE, ENOSPC and EINVAL
abbrev pub errno_at : ℕ → ℤ
errno_at n =
    if n == 0 then pos 12
    else if n == 1 then pos 34
    else if n == 5 then pos 28
    else pos 22

abbrev pub errno_of : ℤ → ℤ
errno_of (pos n) = pos 0
errno_of (negsuc n) = errno_at n
