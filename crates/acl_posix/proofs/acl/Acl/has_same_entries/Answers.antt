use Rattle.std.proofs.Common.{◌≡◌, ◌∙◌, sym, ap, ap₂, refl, true, ◌&&◌, eqb-true, eq-eqb, true≢false}
use Rattle.std.specs.Bool.{Decides}
use Rattle.std.proofs.lemmas.Bool.{and_parts}
use Rattle.std.proofs.lemmas.Slice.Eq.{slice_eq-Decides}
use Rattle.acl_posix.specs.Entry.{EntryValue}
use Rattle.acl_posix.specs.declared.entry.Tag.{Tag}
use Rattle.acl_posix.specs.declared.entry.Tag.TheVariants.{UserObj, User, GroupObj, Group, Mask, Other}
use Rattle.acl_posix.specs.contracts.entry.EntryPartialEq.TheImpl as entry
use Rattle.acl_posix.specs.contracts.entry.TagPartialEq.TheImpl as tag
use Rattle.acl_posix.proofs.acl.Acl.has_same_entries.Goals as goal

-- `==` of two values says whether they are the same

same_tags : (t u : Tag) → Decides (tag.eq-value.it t u) (t ≡ u)
same_tags UserObj UserObj = (λ e. refl, λ e. refl)
same_tags (User uid) (User other) = (λ e. ap User (eqb-true uid other e), λ e. eq-eqb uid other cc)
same_tags GroupObj GroupObj = (λ e. refl, λ e. refl)
same_tags (Group gid) (Group other) = (λ e. ap Group (eqb-true gid other e), λ e. eq-eqb gid other cc)
same_tags Mask Mask = (λ e. refl, λ e. refl)
same_tags Other Other = (λ e. refl, λ e. refl)
same_tags _ _ = (λ e. absurd (true≢false (sym e)), λ e. absurd cc)

same_entry : (a b : EntryValue) → Decides (entry.eq-value.it a b) (a ≡ b)
same_entry a b = (alike, is_reflexive)
  where
    alike : entry.eq-value.it a b ≡ true → a ≡ b
    alike e =
        let parts = and_parts (tag.eq-value.it a.tag b.tag) _ e in
        let tags : a.tag ≡ b.tag = (same_tags a.tag b.tag).0 parts.0 in
        let perms : a.perms ≡ b.perms = eqb-true a.perms b.perms parts.1 in
        λ i. record { tag = tags i; perms = perms i }

    is_reflexive : a ≡ b → entry.eq-value.it a b ≡ true
    is_reflexive e =
        ap₂ (λ x y. x && y) ((same_tags a.tag b.tag).1 (ap (λ (it : EntryValue). it.tag) e)) (eq-eqb a.perms b.perms (ap (λ (it : EntryValue). it.perms) e))

pub returns : goal.returns
returns c =
    let same = slice_eq-Decides same_entry c.entries.result.now c.entries-2.result.now c.eq.result c.eq.ensures in
    (λ e. sym c.entries.ensures.value ∙ same.0 e ∙ c.entries-2.ensures.value, λ e. same.1 (c.entries.ensures.value ∙ e ∙ sym c.entries-2.ensures.value))
