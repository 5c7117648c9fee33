-- What a umask leaves.
use Rattle.std.proofs.Common.{ℕ, ◌<◌, arith, bit_and}
use Rattle.std.proofs.lemmas.Nat.{xor_lt, and_le_l}
use Rattle.acl_names.specs.Bits.{without}

-- permissions less some are permissions
pub without-small : (perms removed : ℕ) → perms < 8 → without perms removed < 8
unfolding without
without-small perms removed small = xor_lt 3 perms (bit_and perms removed) small (omega (arith, and_le_l perms removed, small))
