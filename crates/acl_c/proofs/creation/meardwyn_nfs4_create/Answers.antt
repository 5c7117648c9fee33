use Rattle.std.proofs.Common.{ℕ, Ok, Option, inl, refl, rules, subst, sym}
use Rattle.acl_wire.specs.Creation.{PutsMade, created_of}
use Rattle.acl_wire.specs.Writing.{PutsInFront}
use Rattle.acl_c.proofs.creation.meardwyn_nfs4_create.Goals as goal

pub returns-in-Ok-Some-clause-value : goal.returns-in-Ok-Some-clause-value
returns-in-Ok-Some-clause-value c =
    let made = subst (λ (count : Option ℕ). PutsMade (created_of c.args.folder_aces.now c.args.making.now) (Ok count) c.args.out.now c.write_created.new.out)
    c.in-Ok-Some.field-0-is c.in-Ok-Some.ensures.value in
    inl (made.0, made.1, record { put = subst (λ (n : ℕ). PutsInFront made.0 n c.args.out.now c.write_created.new.out) (sym c.report_count.ensures.count) made.2; said = rw (sym made.2.count_is) (search rules) }, c.mode_made.ensures.yes made.0 refl)
