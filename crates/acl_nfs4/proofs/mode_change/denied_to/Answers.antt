use Rattle.std.proofs.Common.{◌≡◌, ◌∙◌, ◌+◌, sym, ap, drop, ◌∷◌, true, false, List, ℕ}
use Rattle.std.proofs.lemmas.List.{drop_all}
use Rattle.std.specs.Int.Bits.{or_zero_r}
use Rattle.acl_names.specs.Bits.{◌∪◌}
use Rattle.acl_nfs4.specs.Ace.{Nfsace4}
use Rattle.acl_nfs4.specs.Mask.{mask_bits}
use Rattle.acl_nfs4.specs.ModeChange.{denied_to}
use Rattle.acl_nfs4.proofs.ModeChangeDenials.{denied_to-step}
use Rattle.acl_nfs4.proofs.ListLemmas.{drop-here}
use Rattle.acl_nfs4.proofs.mode_change.denied_to.Goals as goal
use Rattle.acl_nfs4.proofs.mode_change.denied_to.Goals.{then-denies, else-denies}

pub loop-ace-preserved : goal.loop-ace-preserved
loop-ace-preserved c =
    let who = c.args.who.now in
    let whole = c.args.aces.now in
    let rest : List Nfsace4 = drop (c.loop-ace.ace-index + 1) whole in
    let ace = c.ace-item.result in
    let so_far : ℕ = mask_bits c.loop-ace.denied in
    let here : so_far ∪ denied_to who (ace ∷ rest) ≡ denied_to who whole =
    ap (λ (xs : List Nfsace4). so_far ∪ denied_to who xs) (sym (drop-here whole c.loop-ace.ace-index ace c.loop-ace-test.true c.ace-item.is))
    ∙ c.loop-ace.invariant in
    elim c.if-denies.branch [
      | then-denies w ↦
          denied_to-step who ace rest so_far (mask_bits c.if-denies.denied) (denied_to who whole) true (sym c.denies.ensures ∙ w.if-denies.true)
          (ap mask_bits w.denied-is ∙ w.union-denied.ensures tt ∙ ap (λ (m : ℕ). so_far ∪ m) w.mask.ensures.value) here
      | else-denies w ↦
          denied_to-step who ace rest so_far (mask_bits c.if-denies.denied) (denied_to who whole) false (sym c.denies.ensures ∙ w.if-denies.false)
          (ap mask_bits w.denied-is) here
    ]

pub returns : goal.returns
returns c =
    sym (or_zero_r (mask_bits c.loop-ace.denied))
    ∙ ap (λ (xs : List Nfsace4). mask_bits c.loop-ace.denied ∪ denied_to c.args.who.now xs)
    (sym (drop_all c.loop-ace.ace-index c.args.aces.now c.loop-ace-test.false))
    ∙ c.loop-ace.invariant
