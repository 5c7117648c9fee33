use Rattle.std.proofs.Common.{◌≡◌, List, ℕ, arith, flat_map, get_or, subst, sym, take}
use Rattle.std.proofs.lemmas.List.{get_or_default}
use Rattle.acl_names.specs.Shown.{shown_byte}
use Rattle.acl_names.proofs.TakeLemmas.{flat_map-take-next}
use Rattle.acl_cli.specs.ErrorOutput.{Reports}
use Rattle.acl_cli.proofs.ErrorLemmas.{Reports-both}
use Rattle.acl_cli.proofs.error_output.ErrorOutput.write_escaped.Goals as goal

pub loop-byte-preserved : goal.loop-byte-preserved
loop-byte-preserved g c =
    let bytes = c.shown_front-byte-items.result.now in
    let byte = get_or bytes c.loop-byte.byte-index 0 in
    let both = Reports-both (flat_map shown_byte (take c.loop-byte.byte-index bytes)) (shown_byte byte) _ _ _ c.loop-byte.invariant c.write_byte.ensures in
    let same : byte ≡ get_or bytes c.loop-byte.byte-index byte = get_or_default bytes c.loop-byte.byte-index 0 byte (omega arith) in
    subst (λ (text : List ℕ). Reports text c.args.self.now c.write_byte.new.self)
    (sym (flat_map-take-next shown_byte bytes c.loop-byte.byte-index byte (omega arith) same)) both
