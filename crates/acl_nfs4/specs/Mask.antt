-- Access masks (RFC 8881, section 6.2.1.3), and which of their bits a file mode's permissions mean.
use Rattle.std.specs.Prelude.{ℕ, ◌+◌, ◌^◌, if◌then◌else◌}
use Rattle.acl_names.specs.Bits.{has, without, ◌∪◌}
use Rattle.acl_nfs4.specs.declared.mask.Mask.{Mask}

-- the number of a mask
abbrev pub mask_bits : Mask → ℕ
mask_bits mask = mask.0

-- the bits that have a name
abbrev pub all_masks : ℕ
all_masks = 0x1F01FF

-- the places of the mask's bits that a file mode controls
abbrev pub read_data : ℕ
read_data = 0

abbrev pub write_data : ℕ
write_data = 1

abbrev pub append_data : ℕ
append_data = 2

abbrev pub execute : ℕ
execute = 5

-- the mask of these bits
abbrev pub mode_bits : ℕ
mode_bits = 2 ^ read_data + 2 ^ write_data + 2 ^ append_data + 2 ^ execute

-- the places of a file mode's read, write and execute
abbrev pub read_permission : ℕ
read_permission = 2

abbrev pub write_permission : ℕ
write_permission = 1

abbrev pub execute_permission : ℕ
execute_permission = 0

-- the mask of a file mode's permissions
unfoldable pub mask_of : ℕ → ℕ
mask_of perms =
    (if has perms read_permission then 2 ^ read_data else 0)
    ∪ (if has perms write_permission then 2 ^ write_data + 2 ^ append_data else 0)
    ∪ (if has perms execute_permission then 2 ^ execute else 0)

-- the mode's bits that these permissions lack
abbrev pub rest_of : ℕ → ℕ
rest_of perms = without mode_bits (mask_of perms)
