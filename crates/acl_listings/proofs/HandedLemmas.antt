-- What is handed out of a block reports the same as the block.
use Rattle.std.proofs.Common.{◌≡◌, ℕ, ◌+◌, ◌<◌, cond, List, length, take, Some, None, Result, Ok, option_and_then, ap, sym, ◌∙◌, inl, inr, arith, length-take}
use Rattle.std.proofs.lemmas.Bool.{cases_lt, lt-leb}
use Rattle.std.proofs.lemmas.List.{take_all}
use Rattle.acl_names.specs.Names.{Names}
use Rattle.acl_names.specs.Steps.{◌>>=◌, or_fault}
use Rattle.acl_listings.specs.BlockLists.{lists_by}
use Rattle.acl_listings.specs.Block.{FileValue, file_by, owners_by, path_of, within_limit}
use Rattle.acl_listings.specs.FileFlags.{flags_by}
use Rattle.acl_listings.specs.Header.{Header, header_of, path_in}
use Rattle.acl_listings.specs.declared.fault.BlockFault.{BlockFault}
use Rattle.acl_listings.specs.declared.fault.BlockFault.TheVariants.{TooLong, BadHeader}
use Rattle.acl_listings.specs.Lines.{first_line}
use Rattle.acl_listings.specs.declared.limits.TheConstants.{MAX_BLOCK}
use Rattle.acl_listings.specs.declared.lists.Lists.{Lists}
use Rattle.acl_listings.proofs.LineLemmas.{first-front}

too_long : (text : List ℕ) → MAX_BLOCK < length text → within_limit text ≡ None
too_long text long = ap (λ b. cond b (Some text) None) (lt-leb (length text) MAX_BLOCK long)

-- whether a text is too long is seen of its front
limit-front : (text : List ℕ) → within_limit (take (MAX_BLOCK + 1) text) ≡ within_limit text
limit-front text = elim (cases_lt MAX_BLOCK (length text)) [
  | inl long ↦ too_long (take (MAX_BLOCK + 1) text) (omega (arith, long, length-take {A = ℕ})) ∙ sym (too_long text long)
  | inr short ↦ ap within_limit (take_all (MAX_BLOCK + 1) text (omega (arith, short)))
]

pub path-handed : (text : List ℕ) → path_of (take (MAX_BLOCK + 1) text) ≡ path_of text
path-handed text =
    ap (λ line. option_and_then path_in (within_limit line)) (first-front (MAX_BLOCK + 1) text)
    ∙ ap (option_and_then path_in) (limit-front (first_line text))

-- the steps of reading a block, each with what is known before it

abbrev pub from_lists : Header → ℕ × ℕ → Lists → Result FileValue BlockFault
from_lists header ids lists = Ok (record { path = header.path; owner = ids.0; group = ids.1; flags = flags_by header.list; lists = lists })

abbrev pub from_ids : Names → Header → ℕ × ℕ → Result FileValue BlockFault
from_ids names header ids = lists_by names header.list >>= from_lists header ids

abbrev pub from_header : Names → Header → Result FileValue BlockFault
from_header names header = owners_by names header >>= from_ids names header

abbrev pub from_block : Names → List ℕ → Result FileValue BlockFault
from_block names block = or_fault BadHeader (header_of block) >>= from_header names

pub file-handed : (names : Names) (text : List ℕ) → file_by names (take (MAX_BLOCK + 1) text) ≡ file_by names text
file-handed names text = ap (λ limited. or_fault TooLong limited >>= from_block names) (limit-front text)
