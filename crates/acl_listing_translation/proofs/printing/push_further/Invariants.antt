use Rattle.std.proofs.Common.{◌≡◌, ◌++◌, ◌∷◌, flat_map, take}
use Rattle.acl_names.specs.Bytes.{comma}
use Rattle.acl_listing_translation.specs.Translated.{entry_in}
use Rattle.acl_listing_translation.proofs.printing.push_further.Given as goal

-- what was put is the entries so far
abbrev pub invariant-loop-ace : goal.invariant-loop-ace
invariant-loop-ace l = l.out.items ≡ l.fn.out.items ++ flat_map (λ ace. comma ∷ entry_in l.form ace) (take l.ace-index l.aces)
