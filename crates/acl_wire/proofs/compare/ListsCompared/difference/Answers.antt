use Rattle.std.proofs.Common.{◌≢◌, ◌∙◌, ℕ, sym, ap, ap₂}
use Rattle.acl_names.specs.Asker.{identity_of}
use Rattle.acl_names.specs.Bits.{◌∪◌, has}
use Rattle.acl_nfs4.specs.Who.{matches}
use Rattle.acl_nfs4.proofs.AllowedBits.{are_gained, are_lost, some_only}
use Rattle.acl_wire.proofs.compare.ListsCompared.difference.Goals as goal

pub returns : goal.returns
returns c = λ aces other_aces one two.
    let lists = c.args.self.now in
    let applies = matches lists.owners.now.owner lists.owners.now.group (identity_of c.args.asker.now) in
    let other_applies = matches lists.others.now.owner lists.others.now.group (identity_of c.args.asker.now) in
    let before : ℕ = c.in-Ok.before in
    let after : ℕ = c.in-Ok-allowed_at.after in
    let apart : before ≢ after = c.if-before-after.false in
    record {
      lost = λ bit. ap (λ (m : ℕ). has m bit) c.without_bits.ensures
          ∙ rw c.raw_asker.ensures (are_lost applies other_applies aces other_aces lists.bits before after (c.in-Ok.ensures aces one) (c.in-Ok-allowed_at.ensures other_aces two) bit);
      gained = λ bit. ap (λ (m : ℕ). has m bit) c.without_bits-2.ensures
          ∙ rw c.raw_asker.ensures (are_gained applies other_applies aces other_aces lists.bits before after (c.in-Ok.ensures aces one) (c.in-Ok-allowed_at.ensures other_aces two) bit);
      some = λ none. some_only before after apart (sym (ap₂ (λ (a b : ℕ). a ∪ b) c.without_bits.ensures c.without_bits-2.ensures) ∙ none);
    }
