use Rattle.std.proofs.Common.{◌≢◌, ◌∙◌, sym, ap, ap₂, ℕ, true≢false, eq-eqb, eqb-true}
use Rattle.acl_names.specs.Bits.{◌∪◌, has}
use Rattle.acl_names.specs.Asker.{identity_of}
use Rattle.acl_nfs4.specs.Mask.{mask_bits}
use Rattle.acl_nfs4.specs.Who.{matches}
use Rattle.acl_nfs4.proofs.AllowedBits.{are_lost, are_gained, decided_alike, some_only}
use Rattle.acl_nfs4.proofs.comparison.ListsCompared.difference.Goals as goal

pub returns : goal.returns
returns c =
    let lists = c.args.self.now in
    let applies = matches lists.owners.now.owner lists.owners.now.group (identity_of c.args.asker.now) in
    let other_applies = matches lists.other_owners.now.owner lists.other_owners.now.group (identity_of c.args.asker.now) in
    let before : ℕ = mask_bits c.allowed_to-before.result in
    let after : ℕ = mask_bits c.allowed_to-after.result in
    let bits : ℕ = mask_bits lists.bits in
    let apart : before ≢ after = λ same. true≢false (sym (eq-eqb before after same) ∙ sym c.eq.ensures ∙ c.if-eq.false) in
    record {
      lost = λ bit. ap (λ (m : ℕ). has m bit) (c.without.ensures tt)
          ∙ are_lost applies other_applies lists.first.now lists.second.now bits before after c.allowed_to-before.ensures c.allowed_to-after.ensures bit;
      gained = λ bit. ap (λ (m : ℕ). has m bit) (c.without-2.ensures tt)
          ∙ are_gained applies other_applies lists.first.now lists.second.now bits before after c.allowed_to-before.ensures c.allowed_to-after.ensures bit;
      some = λ none. some_only before after apart (sym (ap₂ (λ (a b : ℕ). a ∪ b) (c.without.ensures tt) (c.without-2.ensures tt)) ∙ none);
    }

pub returns-then-eq : goal.returns-then-eq
returns-then-eq c =
    let lists = c.args.self.now in
    let asker = identity_of c.args.asker.now in
    let before : ℕ = mask_bits c.allowed_to-before.result in
    let after : ℕ = mask_bits c.allowed_to-after.result in
    λ bit asked.
    decided_alike (matches lists.owners.now.owner lists.owners.now.group asker) (matches lists.other_owners.now.owner lists.other_owners.now.group asker)
    lists.first.now lists.second.now (mask_bits lists.bits) before after c.allowed_to-before.ensures c.allowed_to-after.ensures
    (eqb-true before after (sym c.eq.ensures ∙ c.if-eq.true)) bit asked
