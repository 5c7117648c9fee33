use Rattle.std.proofs.Common.{arith, rules}
use Rattle.acl_bridge.specs.Translation.{translation}
use Rattle.acl_bridge.specs.declared.passes.Class.TheVariants.{Owner}
use Rattle.acl_bridge.specs.declared.passes.Part.TheVariants.{Allowed}
use Rattle.acl_bridge.proofs.PassLemmas.{length-with_effect, passes-room}
use Rattle.acl_bridge.proofs.TranslationLength.{doubled-translation, short_translation}
use Rattle.acl_bridge.proofs.translation.translation_for.Goals as goal

pub append_pass-requires : goal.append_pass-requires
append_pass-requires c =
    let within =
    passes-room c.args.effect c.args.acl.now c.loop-pass.aces _ c.loop-pass.pass-index (Owner, Allowed) c.loop-pass-test.true c.loop-pass.invariant in
    let same = length-with_effect c.args.effect (translation c.args.acl.now) in
    let short = short_translation c.args.acl.now c.entries-entries.ensures.acl in
    record { room = omega arith }

pub returns-in_err-append_pass-clause-short : goal.returns-in_err-append_pass-clause-short
returns-in_err-append_pass-clause-short c = λ few.
    let within =
    passes-room c.args.effect c.args.acl.now c.loop-pass.aces _ c.loop-pass.pass-index (Owner, Allowed) c.loop-pass-test.true c.loop-pass.invariant in
    let same = length-with_effect c.args.effect (translation c.args.acl.now) in
    let doubled = doubled-translation c.args.acl.now in
    let ok = c.append_pass.ensures.short (omega arith) in search (rules, ok)
