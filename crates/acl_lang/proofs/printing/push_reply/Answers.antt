use Rattle.std.proofs.Common.{◌≡◌, ◌++◌, ◌∙◌, ap, arith, sym, subst, append_assoc, List, ℕ, OnOk, codes, ◌∷◌}
use Rattle.std.proofs.lemmas.Grind.{common_steps}
use Rattle.acl_names.specs.Bytes.{newline}
use Rattle.acl_nfs4.specs.Ace.{Nfsace4}
use Rattle.acl_nfs4.specs.PrintedText.{aces_text}
use Rattle.acl_lang.specs.Printed.{reply_text}
use Rattle.acl_lang.proofs.printing.push_reply.Goals as goal

pub returns-in_ok-extend_from_slice-in-Translated : goal.returns-in_ok-extend_from_slice-in-Translated
returns-in_ok-extend_from_slice-in-Translated c = record {
  text =
      subst (λ (text : List ℕ). OnOk c.print_aces.result (c.print_aces.new.out.items ≡ text))
      (ap (λ (text : List ℕ). text ++ aces_text c.args.directory.now c.deref-in-Translated.result.now) c.in_ok-extend_from_slice-in-Translated.ensures.items
      ∙ append_assoc c.args.out.now.items _ (aces_text c.args.directory.now c.deref-in-Translated.result.now)
      ∙ ap (λ (aces : List Nfsace4). c.args.out.now.items ++ (codes "translated" ++ newline ∷ aces_text c.args.directory.now aces)) c.deref-in-Translated.ensures
      ∙ sym (ap (λ reply. c.args.out.now.items ++ reply_text c.args.directory.now reply) c.in-Translated.is))
      c.print_aces.ensures.text;
  kept = grind (arith, common_steps);
}
