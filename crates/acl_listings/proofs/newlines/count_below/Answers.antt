use Rattle.std.proofs.Common.{◌∙◌, ◌-◌, ◌^◌, ap, bit_and, count_ones, take}
use Rattle.std.proofs.lemmas.Simd.{ones-mask_l}
use Rattle.acl_listings.proofs.ExtentLemmas.{is_newline}
use Rattle.acl_listings.proofs.NewlineLemmas.{low_marks, one_shifted}
use Rattle.acl_listings.proofs.newlines.count_below.Goals as goal

pub returns : goal.returns
returns c bytes are =
    ap (λ low. count_ones (bit_and c.args.marks (low - 1))) (one_shifted c.args.len c.requires)
    ∙ ap (λ marks. count_ones (bit_and marks (2 ^ c.args.len - 1))) are
    ∙ ap count_ones (low_marks bytes c.args.len)
    ∙ ones-mask_l is_newline (take c.args.len bytes)
