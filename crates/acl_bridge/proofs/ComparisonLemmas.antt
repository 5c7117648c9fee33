-- A list may stand for its translation in a comparison.
use Rattle.std.proofs.Common.{◌≡◌, ◌↔◌, ℕ, Bool, true, false, not, ◌&&◌, ◌||◌, refl, sym, ap, ap₂, ◌∙◌, List, Option, None, IfSome, subst}
use Rattle.std.proofs.lemmas.Option.{IfSome_then}
use Rattle.acl_names.specs.Asker.{identity_of}
use Rattle.acl_names.specs.Bits.{has}
use Rattle.acl_names.proofs.BitSets.{has-or}
use Rattle.acl_posix.specs.Entry.{EntryValue}
use Rattle.acl_posix.specs.Validity.{IsValid}
use Rattle.acl_nfs4.specs.Comparison.{Decider, DecideAlike, IsDifference}
use Rattle.acl_nfs4.specs.Mask.{mode_bits}
use Rattle.acl_nfs4.specs.declared.comparison.Difference.{Difference}
use Rattle.acl_bridge.specs.Comparison.{DecidesEachBit, permission_bits}
use Rattle.acl_bridge.specs.Translation.{translation}
use Rattle.acl_bridge.proofs.TranslationDecides.{bit_granted}

pub translation_decides_each_bit : (acl : List EntryValue) → IsValid acl → DecidesEachBit acl (translation acl)
translation_decides_each_bit acl valid owner group requester bit of_mode = bit_granted acl valid owner group requester bit of_mode

-- a permission's bit is one of a file mode's
pub alike_of_mode : {before after : Decider} → DecideAlike before after mode_bits → DecideAlike before after permission_bits
alike_of_mode alike requester bit asked = alike requester bit (has-or permission_bits 4 bit ∙ ap (λ b. b || has 4 bit) asked)

-- deciders that decide alike are compared alike
module _ {before before' after after' : Decider} {bits bits' : ℕ} (same_before : DecideAlike before before' bits) (same_after : DecideAlike after after' bits) (same_bits : bits' ≡ bits) where
  alike_through : DecideAlike before' after' bits ↔ DecideAlike before after bits
  alike_through = (
    λ alike requester bit asked. same_before requester bit asked ∙ alike requester bit asked ∙ sym (same_after requester bit asked),
    λ alike requester bit asked. sym (same_before requester bit asked) ∙ alike requester bit asked ∙ same_after requester bit asked,
  )

  under : (b x y x' y' : Bool) → (b ≡ true → x ≡ x') → (b ≡ true → y ≡ y') → (b && (x' && not y')) ≡ (b && (x && not y))
  under false x y x' y' ex ey = refl
  under true x y x' y' ex ey = ap₂ (λ u v. u && not v) (sym (ex refl)) (sym (ey refl))

  difference_through : (difference : Difference) → IsDifference before' after' bits difference → IsDifference before after bits difference
  difference_through difference is = record {
    lost = λ bit. is.lost bit
        ∙ under (has bits bit) _ _ _ _ (same_before (identity_of difference.asker) bit) (same_after (identity_of difference.asker) bit);
    gained = λ bit. is.gained bit
        ∙ under (has bits bit) _ _ _ _ (same_after (identity_of difference.asker) bit) (same_before (identity_of difference.asker) bit);
    some = is.some;
  }

  pub none_through : (found : Option Difference) → (found ≡ None) ↔ DecideAlike before' after' bits' → (found ≡ None) ↔ DecideAlike before after bits
  none_through found is =
      let same = subst (λ (b : ℕ). (found ≡ None) ↔ DecideAlike before' after' b) same_bits is in
      (λ e. alike_through.0 (same.0 e), λ alike. same.1 (alike_through.1 alike))

  pub some_through : (found : Option Difference) → IfSome found (IsDifference before' after' bits') → IfSome found (IsDifference before after bits)
  some_through found is = IfSome_then found (subst (λ (b : ℕ). IfSome found (IsDifference before' after' b)) same_bits is) difference_through
