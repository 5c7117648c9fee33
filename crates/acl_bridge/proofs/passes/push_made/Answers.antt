use Rattle.std.proofs.Common.{◌≡◌, ◌∙◌, sym, subst, List, ap, OnOk}
use Rattle.acl_nfs4.specs.Ace.{Nfsace4, is_idle}
use Rattle.acl_bridge.proofs.PassLemmas.{ace_of-effect, is_idle-effect, made-empty, made-full, room-full}
use Rattle.acl_bridge.proofs.passes.push_made.Goals as goal

pub returns-then-is_empty-clause-ok : goal.returns-then-is_empty-clause-ok
returns-then-is_empty-clause-ok c =
    made-empty c.args.effect c.args.aces.now c.args.kind c.args.who c.args.mask.0 (sym (c.is_empty.ensures tt) ∙ c.if-is_empty.true)

pub push-requires-clause-room : goal.push-requires-clause-room
push-requires-clause-room c =
    room-full c.args.effect c.args.aces.now c.args.kind c.args.who c.args.mask.0 (sym (c.is_empty.ensures tt) ∙ c.if-is_empty.false) c.requires.room

pub push-requires-clause-effective : goal.push-requires-clause-effective
push-requires-clause-effective c =
    ap is_idle
    (c.new.ensures ∙ ace_of-effect c.args.kind c.args.effect c.args.who c.args.mask.0 c.flags.result.0 c.flags.ensures c.requires.known)
    ∙ is_idle-effect c.args.kind c.args.effect c.args.who c.args.mask.0

pub returns-clause-ok : goal.returns-clause-ok
returns-clause-ok c =
    subst (λ (aces : List Nfsace4). OnOk c.push.result (c.push.new.aces ≡ aces))
    (made-full c.args.effect c.args.aces.now c.args.kind c.args.who c.args.mask.0 c.new.result (sym (c.is_empty.ensures tt) ∙ c.if-is_empty.false)
    (c.new.ensures ∙ ace_of-effect c.args.kind c.args.effect c.args.who c.args.mask.0 c.flags.result.0 c.flags.ensures c.requires.known))
    c.push.ensures.ok

pub returns-clause-short : goal.returns-clause-short
returns-clause-short c = λ few.
    c.push.ensures.short (room-full c.args.effect c.args.aces.now c.args.kind c.args.who c.args.mask.0 (sym (c.is_empty.ensures tt) ∙ c.if-is_empty.false) few)
