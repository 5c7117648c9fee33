-- The flags of a file: the bits of its mode that aren't permissions.
use Rattle.std.specs.Prelude.{ℕ, Bool, true, false, ◌==◌, List, [], ◌∷◌, Option, Some, None}
use Rattle.std.specs.Prelude.{codes, unwrap_or, if◌then◌else◌}
use Rattle.std.specs.Option.{option_and_then}
use Rattle.acl_names.specs.Bytes.{hyphen}
use Rattle.acl_listings.specs.Header.{after_prefix}
use Rattle.acl_listings.specs.Lines.{first_line}
use Rattle.acl_listings.specs.declared.file_flags.FileFlags.{FileFlags}
use Rattle.acl_listings.specs.declared.file_flags.TheConstants.{ID_LETTER, STICKY_LETTER}

abbrev pub no_flags : FileFlags
no_flags = record { set_user_id = false; set_group_id = false; sticky = false }

-- a flag's letter, or a hyphen
abbrev pub flag_at : ℕ → ℕ → Option Bool
flag_at letter byte = if byte == letter then Some true
    else (if byte == hyphen then Some false else None)

abbrev pub flags_of : Option Bool → Option Bool → Option Bool → Option FileFlags
flags_of (Some set_user_id) (Some set_group_id) (Some sticky) = Some (record {
  set_user_id = set_user_id;
  set_group_id = set_group_id;
  sticky = sticky;
})
flags_of _ _ _ = None

-- three characters, as in `-s-`
abbrev pub flags_in : List ℕ → Option FileFlags
flags_in (user ∷ group ∷ sticky ∷ []) =
    flags_of (flag_at ID_LETTER user) (flag_at ID_LETTER group) (flag_at STICKY_LETTER sticky)
flags_in _ = None

-- those of a block, by the line after the group's: `# flags: -s-`; another comment has none
abbrev pub flags_by : List ℕ → FileFlags
flags_by list = unwrap_or
    (option_and_then flags_in (after_prefix (codes "# flags: ") (first_line list))) no_flags
