use Rattle.std.proofs.Common.{◌∙◌, ◌<◌, List, ap, arith, length, rules, subst, sym}
use Rattle.acl_nfs4.specs.Ace.{Nfsace4}
use Rattle.acl_wire.specs.Keeping.{with_mode_keep}
use Rattle.acl_wire.specs.Kept.{kept_aces}
use Rattle.acl_wire.proofs.DraftLemmas.{beyond}
use Rattle.acl_wire.proofs.KeptLemmas.{kept-count, read-length}
use Rattle.acl_wire.proofs.ModeLemmas.{fits-not, list_read}
use Rattle.acl_wire.proofs.ModeLengths.{most-left}
use Rattle.acl_wire.proofs.mode_change.put_with_named.Goals as goal

pub put_beside_named-requires : goal.put_beside_named-requires
put_beside_named-requires g c = (
  search rules,
  (
    read-length (list_read c.args.raws.now c.in_ok-acl.acl c.in_ok-acl.ensures.value) ∙ ap (λ (aces : List Nfsace4). length aces) (sym c.aces.ensures.value),
    c.requires.empty,
  ),
)

pub returns-clause-value : goal.returns-clause-value
returns-clause-value g c =
    let raws = c.args.raws.now in
    let aces = c.in_ok-acl.acl in
    let few = most-left (kept_aces raws aces) c.args.mode in
    let count = kept-count (list_read raws aces c.in_ok-acl.ensures.value) in
    let full = subst (λ (them : List Nfsace4). g.row.N < length (with_mode_keep (kept_aces raws them) c.args.mode)) c.aces.ensures.value c.in-Err.ensures.full in
    rw c.in_ok-acl.ensures.value
    (fits-not (with_mode_keep (kept_aces raws aces) c.args.mode) (beyond g.row.N (length raws) _ c.requires.room (omega (arith, few, count)) full))
