use Rattle.std.proofs.Common.{rules, ◌≡◌, ◌∙◌, ◌&&◌, ap, ap₂, codes, drop, false, nat_eq, sym, take, true}
use Rattle.std.specs.Cmp.Lexicographic.{pointwise}
use Rattle.acl_cli.proofs.TipLemmas.{front_apart}
use Rattle.acl_cli.proofs.tip.is_named.Goals as goal

pub returns-in-Some : goal.returns-in-Some
returns-in-Some c =
    let text = c.args.text.now in
    let name = c.args.name.now in
    let front : pointwise nat_eq (take 2 text) (codes "--") ≡ true = search rules in
    let rest : c.in-Some.rest.now ≡ drop 2 text = search rules in
    let same : c.eq.result ≡ pointwise nat_eq (drop 2 text) name = c.eq.ensures ∙ ap₂ (pointwise nat_eq) rest c.as_bytes-in-Some.ensures.value in
    same ∙ sym (front_apart text (codes "--") name ∙ ap (λ b. b && pointwise nat_eq (drop 2 text) name) front)

pub returns-in-None : goal.returns-in-None
returns-in-None c =
    let text = c.args.text.now in
    let name = c.args.name.now in
    let front : pointwise nat_eq (take 2 text) (codes "--") ≡ false = search rules in
    sym (front_apart text (codes "--") name ∙ ap (λ b. b && pointwise nat_eq (drop 2 text) name) front)
