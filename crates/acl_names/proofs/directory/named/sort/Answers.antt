use Rattle.std.proofs.Common.{◌∙◌, ap, not, nat_eq, nat_cmp, bytes_eq}
use Rattle.std.specs.Cmp.Lexicographic.{slice_cmp}
use Rattle.std.proofs.lemmas.Cmp.{nat_cmp_total, nat_list_cmp_total}
use Rattle.std.proofs.lemmas.List.Sorted.{IsPermutation-trans}
use Rattle.acl_names.proofs.AscendingLemmas.{repeats-permutation}
use Rattle.acl_names.proofs.Keys.{same_id, same_name}
use Rattle.acl_names.proofs.directory.named.sort.Goals as goal

pub returns-clause-permutation : goal.returns-clause-permutation
returns-clause-permutation g c = IsPermutation-trans _ _ _ c.sort_by_id-ids.ensures.permutation c.sort_by_name-names.ensures.permutation

pub returns-clause-names : goal.returns-clause-names
returns-clause-names g c =
    c.sort_by_name-names.ensures.distinct
    ∙ ap not (repeats-permutation (slice_cmp nat_cmp) nat_list_cmp_total g.T.Named.name_of bytes_eq same_name _ _ c.sort_by_name-names.ensures.permutation)

pub returns-clause-ids : goal.returns-clause-ids
returns-clause-ids g c =
    c.sort_by_id-ids.ensures.distinct
    ∙ ap not (repeats-permutation nat_cmp nat_cmp_total g.T.Named.id_of nat_eq same_id _ _
    (IsPermutation-trans _ _ _ c.sort_by_id-ids.ensures.permutation c.sort_by_name-names.ensures.permutation))
