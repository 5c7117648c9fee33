use Rattle.std.proofs.Common.{◌==◌, arith, drop, take, w8}
use Rattle.std.proofs.lemmas.Simd.{bitmask_splat, length-chunk}
use Rattle.acl_names.specs.Bytes.{newline}
use Rattle.acl_listings.proofs.newlines.newlines_at.Goals as goal

pub returns : goal.returns
returns c = bitmask_splat w8 (λ a b. a == b) (take 64 (drop c.args.at c.args.text.now)) 64 newline (length-chunk c.args.at 64 c.args.text.now c.requires) (omega arith)
