use Rattle.std.proofs.Common.{◌≡◌, ◌≤◌, List, length, subst, IfOk}
use Rattle.acl_nfs4.specs.Ace.{Nfsace4}
use Rattle.acl_nfs4.specs.Evaluation.{mode_of}
use Rattle.acl_bridge.specs.Translation.{translation}
use Rattle.acl_bridge.specs.TranslationLaws.{DecideAlike, GrantsAsMuch, translated_mode, most_translated}
use Rattle.acl_bridge.proofs.TranslationDecides.{translation_decides_alike, translation_grants_as_much}
use Rattle.acl_bridge.proofs.PassLemmas.{with_effect-here, IfOk-is}
use Rattle.acl_bridge.proofs.TranslationLength.{short_translation}
use Rattle.acl_bridge.proofs.TranslationMode.{mode_of-translation}
use Rattle.acl_bridge.proofs.translation.translate.Goals as goal

pub returns-clause-list : goal.returns-clause-list
returns-clause-list c =
    subst (λ (list : List Nfsace4). IfOk c.translation_for.result (λ (aces : List Nfsace4). aces ≡ list))
    (with_effect-here (translation c.args.acl.now)) c.translation_for.ensures.list

pub returns-clause-alike : goal.returns-clause-alike
returns-clause-alike c =
    IfOk-is c.translation_for.result (translation c.args.acl.now) (DecideAlike c.args.acl.now)
    (translation_decides_alike c.args.acl.now c.translation_for.ensures.acl.valid) (returns-clause-list c)

pub returns-clause-as_much : goal.returns-clause-as_much
returns-clause-as_much c =
    IfOk-is c.translation_for.result (translation c.args.acl.now) (GrantsAsMuch c.args.acl.now)
    (translation_grants_as_much c.args.acl.now c.translation_for.ensures.acl.valid) (returns-clause-list c)

pub returns-clause-mode : goal.returns-clause-mode
returns-clause-mode c =
    IfOk-is c.translation_for.result (translation c.args.acl.now) (λ (aces : List Nfsace4). mode_of aces ≡ translated_mode c.args.acl.now)
    (mode_of-translation c.args.acl.now c.translation_for.ensures.acl.valid c.translation_for.ensures.acl.permissions) (returns-clause-list c)

pub returns-clause-length : goal.returns-clause-length
returns-clause-length c =
    IfOk-is c.translation_for.result (translation c.args.acl.now) (λ (aces : List Nfsace4). length aces ≤ most_translated)
    (short_translation c.args.acl.now c.translation_for.ensures.acl) (returns-clause-list c)
