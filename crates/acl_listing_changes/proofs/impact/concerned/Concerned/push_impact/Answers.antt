use Rattle.std.proofs.Common.{rules, ◌≡◌, ◌∙◌, ◌&&◌, List, OnOk, ap, length, refl, subst}
use Rattle.std.specs.Prelude.{nat_eq}
use Rattle.std.proofs.lemmas.Result.{on_ok_weaker}
use Rattle.acl_names.specs.Requester.{Identity}
use Rattle.acl_bridge.specs.Files.{view_acl}
use Rattle.acl_listing_changes.specs.Concerns.{concern_of}
use Rattle.acl_listing_changes.specs.Impacting.{Reports, ReportsAnybody}
use Rattle.acl_listing_changes.proofs.AlikeLemmas.{nobody_reported}
use Rattle.acl_listing_changes.proofs.ImpactLemmas.{impact_reported}
use Rattle.acl_listing_changes.proofs.impact.concerned.Concerned.push_impact.Goals as goal

pub returns-then-is_same_file : goal.returns-then-is_same_file
returns-then-is_same_file c = nobody_reported (view_acl c.args.before.now) (view_acl c.args.after.now) c.args.path.now (c.if-is_same_file.ensures.alike refl) (concern_of c.args.self.now) c.args.out.now.items

pub returns : goal.returns
returns c =
    let concerned = c.args.self.now in
    let kept : c.len-kept.result ≡ length c.args.out.now.items = search rules in
    let now : c.len-now.result ≡ length c.push_those.new.out.items = search rules in
    let asked : c.nothing_yet-asked.result ≡ (concerned.somebody && nat_eq (length c.push_those.new.out.items) (length c.args.out.now.items)) =
    c.nothing_yet-asked.ensures ∙ ap (λ n. concerned.somebody && nat_eq c.len-now.result n) kept ∙ ap (λ n. concerned.somebody && nat_eq n (length c.args.out.now.items)) now in
    on_ok_weaker c.push_anybody.result
    (impact_reported (concern_of concerned) (view_acl c.args.before.now) (view_acl c.args.after.now) c.args.path.now c.args.out.now.items c.push_those.new.out.items c.push_anybody.new.out.items
    c.in_ok-push_those.ensures c.nothing_yet-asked.result asked)
    (subst (λ (known : List Identity). OnOk c.push_anybody.result (Reports (ReportsAnybody c.nothing_yet-asked.result known (view_acl c.args.before.now)
    (view_acl c.args.after.now) c.args.path.now) c.push_those.new.out.items c.push_anybody.new.out.items))
    c.as_slice-known.ensures.value c.push_anybody.ensures)
