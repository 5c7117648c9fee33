use Rattle.std.proofs.Common.{◌≡◌, ◌∙◌, sym, ap, ap₂, refl, true, ◌==◌, ◌&&◌, eqb-true, eq-eqb, true≢false}
use Rattle.std.specs.Bool.{Decides}
use Rattle.std.proofs.lemmas.Bool.{and_parts}
use Rattle.std.proofs.lemmas.Slice.Eq.{slice_eq-Decides}
use Rattle.acl_nfs4.specs.Ace.{Nfsace4}
use Rattle.acl_nfs4.specs.declared.ace.AceType.{AceType}
use Rattle.acl_nfs4.specs.declared.ace.AceType.TheVariants.{Allow, Deny, Audit, Alarm}
use Rattle.acl_nfs4.specs.declared.who.Who.{Who}
use Rattle.acl_nfs4.specs.declared.who.Who.TheVariants.{Owner, Group, Everyone, User, NamedGroup}
use Rattle.acl_nfs4.specs.contracts.ace.AcePartialEq.TheImpl as ace
use Rattle.acl_nfs4.specs.contracts.ace.AceTypePartialEq.TheImpl as kind
use Rattle.acl_nfs4.specs.contracts.who.WhoPartialEq.TheImpl as who
use Rattle.acl_nfs4.proofs.acl.Acl4.has_same_entries.Goals as goal

-- `==` of two values says whether they are the same

same_kind : (k l : AceType) → Decides (kind.eq-value.it k l) (k ≡ l)
same_kind Allow Allow = (λ e. refl, λ e. refl)
same_kind Deny Deny = (λ e. refl, λ e. refl)
same_kind Audit Audit = (λ e. refl, λ e. refl)
same_kind Alarm Alarm = (λ e. refl, λ e. refl)
same_kind _ _ = (λ e. absurd (true≢false (sym e)), λ e. absurd cc)

same_who : (w v : Who) → Decides (who.eq-value.it w v) (w ≡ v)
same_who Owner Owner = (λ e. refl, λ e. refl)
same_who Group Group = (λ e. refl, λ e. refl)
same_who Everyone Everyone = (λ e. refl, λ e. refl)
same_who (User uid) (User other) = (λ e. ap User (eqb-true uid other e), λ e. eq-eqb uid other cc)
same_who (NamedGroup gid) (NamedGroup other) = (λ e. ap NamedGroup (eqb-true gid other e), λ e. eq-eqb gid other cc)
same_who _ _ = (λ e. absurd (true≢false (sym e)), λ e. absurd cc)

same_ace : (a b : Nfsace4) → Decides (ace.eq-value.it a b) (a ≡ b)
same_ace a b = (alike, is_reflexive)
  where
    alike : ace.eq-value.it a b ≡ true → a ≡ b
    alike e =
        let kinds = and_parts (kind.eq-value.it a.kind b.kind) _ e in
        let flags = and_parts (a.flags == b.flags) _ kinds.1 in
        let whos = and_parts (who.eq-value.it a.who b.who) _ flags.1 in
        let same_kinds : a.kind ≡ b.kind = (same_kind a.kind b.kind).0 kinds.0 in
        let same_flags : a.flags ≡ b.flags = eqb-true a.flags b.flags flags.0 in
        let same_whos : a.who ≡ b.who = (same_who a.who b.who).0 whos.0 in
        let same_masks : a.mask ≡ b.mask = eqb-true a.mask b.mask whos.1 in
        λ i. record { kind = same_kinds i; flags = same_flags i; who = same_whos i; mask = same_masks i }

    is_reflexive : a ≡ b → ace.eq-value.it a b ≡ true
    is_reflexive e =
        ap₂ (λ x y. x && y) ((same_kind a.kind b.kind).1 (ap (λ (it : Nfsace4). it.kind) e))
        (ap₂ (λ x y. x && y) (eq-eqb a.flags b.flags (ap (λ (it : Nfsace4). it.flags) e))
        (ap₂ (λ x y. x && y) ((same_who a.who b.who).1 (ap (λ (it : Nfsace4). it.who) e)) (eq-eqb a.mask b.mask (ap (λ (it : Nfsace4). it.mask) e))))

pub returns : goal.returns
returns c =
    let same = slice_eq-Decides same_ace c.aces.result.now c.aces-2.result.now c.eq.result c.eq.ensures in
    (λ e. sym c.aces.ensures.value ∙ same.0 e ∙ c.aces-2.ensures.value, λ e. same.1 (c.aces.ensures.value ∙ e ∙ sym c.aces-2.ensures.value))
