-- What `restore` reports for the blocks of two listings.
use Rattle.std.specs.Prelude.{◌≡◌, ℕ, false, List, [], ◌++◌, Option, Some, None, bytes_eq}
use Rattle.std.specs.Prelude.{codes, is_none, length, nat_le, unwrap_or, if◌then◌else◌}
use Rattle.acl_names.specs.Names.{Names}
use Rattle.acl_cli.specs.ErrorOutput.{line_of_words}
use Rattle.acl_listings.specs.Block.{path_of}
use Rattle.acl_listings.specs.declared.fault.BlockFault.{BlockFault}
use Rattle.acl_listings.specs.declared.fault.BlockFault.TheVariants.{TooLong, BadHeader}
use Rattle.acl_listings.specs.declared.limits.TheConstants.{MAX_BLOCK}
use Rattle.acl_reports.specs.Strangers.{none_sought}
use Rattle.acl_listing_changes.specs.Changes.{Wording}

-- no name is known, and none is asked for
abbrev pub no_names : Names
no_names = record { written = λ text. None; uid = λ name. None; gid = λ name. None }

-- a block is too long, or its first line is no file's; nothing else of it is read
abbrev pub restore_fault : List ℕ → Option BlockFault
restore_fault text = if nat_le (length text) MAX_BLOCK
    then (if is_none (path_of text) then Some BadHeader else None) else Some TooLong

-- `aclctl: PATH: WORD`, of the path of a block
abbrev pub path_line : List ℕ → List ℕ → List ℕ
path_line text word = line_of_words (unwrap_or (path_of text) [] ++ codes ": " ++ word)

-- a block and an empty line
abbrev pub block_text : List ℕ → List ℕ
block_text text = text ++ codes "\n\n"

-- the block before, if the one after is another
abbrev pub restored_text : List ℕ → List ℕ → List ℕ
restored_text old new = if bytes_eq old new then [] else block_text old

-- the blocks before whose paths the listing after has with another text; beside them the paths that
-- are new, and those that are gone
abbrev pub restoring : Wording
restoring = record {
  names = no_names;
  fault = restore_fault;
  stranger = none_sought;
  IsNew = λ text reported said. (reported ≡ []) × (said ≡ path_line text (codes "new"));
  IsChanged = λ old new reported said. (reported ≡ restored_text old new) × (said ≡ []);
  IsGone = λ old reported said. (reported ≡ []) × (said ≡ path_line old (codes "gone"));
  apart = λ first second. [];
  asks = false;
}
