use Rattle.std.proofs.Common.{◌≡◌, ◌≤◌, List, length, map, subst, sym}
use Rattle.acl_nfs4.specs.Ace.{Nfsace4}
use Rattle.acl_nfs4.specs.Inheritance.{inherited_list}
use Rattle.acl_nfs4.specs.declared.inheritance.Kind.TheVariants.{File, Dir}
use Rattle.acl_bridge.specs.Translation.{translation, default_translation, with_flags, inheriting_flags}
use Rattle.acl_bridge.specs.TranslationLaws.{most_translated}
use Rattle.acl_bridge.specs.declared.passes.Effect.TheVariants.{Below}
use Rattle.acl_bridge.proofs.DefaultTranslation.{inherited_by_file, inherited_by_directory}
use Rattle.acl_bridge.proofs.PassLemmas.{length-with_effect, IfOk-is}
use Rattle.acl_bridge.proofs.TranslationLength.{short_translation}
use Rattle.acl_bridge.proofs.translation.translate_default.Goals as goal

pub returns-clause-file : goal.returns-clause-file
returns-clause-file c =
    IfOk-is c.translation_for.result (default_translation c.args.acl.now)
    (λ (aces : List Nfsace4). inherited_list File aces ≡ translation c.args.acl.now)
    (inherited_by_file c.args.acl.now) c.translation_for.ensures.list

pub returns-clause-directory : goal.returns-clause-directory
returns-clause-directory c =
    IfOk-is c.translation_for.result (default_translation c.args.acl.now)
    (λ (aces : List Nfsace4). inherited_list Dir aces ≡ map (with_flags inheriting_flags) (translation c.args.acl.now))
    (inherited_by_directory c.args.acl.now) c.translation_for.ensures.list

pub returns-clause-length : goal.returns-clause-length
returns-clause-length c =
    IfOk-is c.translation_for.result (default_translation c.args.acl.now) (λ (aces : List Nfsace4). length aces ≤ most_translated)
    (subst (λ n. n ≤ most_translated) (sym (length-with_effect Below (translation c.args.acl.now)))
    (short_translation c.args.acl.now c.translation_for.ensures.acl))
    c.translation_for.ensures.list
