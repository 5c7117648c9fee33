use Rattle.std.proofs.Common.{List, subst}
use Rattle.std.proofs.lemmas.Result.{IfOk-weaker}
use Rattle.acl_nfs4.specs.Ace.{Nfsace4}
use Rattle.acl_listing_lint.specs.AceEffects.{AcesDecideAlike, nfs4_file}
use Rattle.acl_listing_lint.specs.Effects.{SaysExactly, no_effect_line}
use Rattle.acl_listing_lint.specs.LintSteps.{Adds, view_spot}
use Rattle.acl_listing_lint.proofs.EffectLemmas.{adds_exactly}
use Rattle.acl_listing_lint.proofs.aces.push_if_alike.Goals as goal

pub returns : goal.returns
returns c =
    let owners = c.args.listed.now.owners in
    let aces : List Nfsace4 = c.args.listed.now.acl.now in
    let line = no_effect_line (view_spot c.args.spot.now) in
    IfOk-weaker c.push_unless_found.result _ _
    (λ _ added. subst (λ (other : List Nfsace4). Adds (SaysExactly (AcesDecideAlike owners aces other) line) c.args.out.now.items c.push_unless_found.new.out.items) c.in_ok-other.ensures
    (adds_exactly (nfs4_file owners aces) (nfs4_file owners c.in_ok-other.other) line _ _ added))
    c.push_unless_found.ensures
