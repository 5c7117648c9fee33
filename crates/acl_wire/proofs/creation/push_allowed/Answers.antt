use Rattle.std.proofs.Common.{◌≡◌, ◌∙◌, ◌++◌, ◌∷◌, [], ap, ap₂}
use Rattle.acl_nfs4.specs.Ace.{Nfsace4, ace_of, is_idle}
use Rattle.acl_nfs4.specs.declared.ace.AceType.TheVariants.{Allow}
use Rattle.acl_wire.proofs.CreationLemmas.{idle, is_pushed}
use Rattle.acl_wire.proofs.creation.push_allowed.Goals as goal

pub returns : goal.returns
returns c =
    let ace : c.new-ace.result ≡ ace_of Allow 0 c.args.who c.args.bits =
    c.new-ace.ensures ∙ ap₂ (λ f m. ace_of Allow f c.args.who m) (c.empty.ensures tt) (c.from_bits_retain.ensures tt) in
    is_pushed c.push-pushed.result c.args.list.now c.push-pushed.new.self c.new-ace.result (ap is_idle ace ∙ idle c.args.who c.args.bits c.requires.special) c.requires.room
    c.push-pushed.ensures.ok c.push-pushed.ensures.too_many c.push-pushed.ensures.inherit_only c.push-pushed.ensures.only c.push-pushed.ensures.short
    ∙ ap (λ (ace : Nfsace4). c.args.list.now ++ ace ∷ []) ace
