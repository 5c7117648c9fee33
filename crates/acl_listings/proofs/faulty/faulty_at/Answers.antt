use Rattle.std.proofs.Common.{◌≡◌, ◌∙◌, ◌+◌, ◌-◌, ap, arith, subst, sym}
use Rattle.acl_names.specs.Bytes.{newline}
use Rattle.acl_names.specs.Pieces.{parts}
use Rattle.acl_listings.specs.FaultyLine.{IsBadLine, IsFaultyAt, IsFirstFaulty, faulty_kind, list_in, list_lines}
use Rattle.acl_listings.specs.Lines.{after_line}
use Rattle.acl_listings.specs.declared.fault.BlockFault.TheVariants.{Acl}
use Rattle.acl_listings.proofs.faulty.faulty_at.Goals as goal

pub returns-in-Acl : goal.returns-in-Acl
returns-in-Acl g c =
    let names = g.N.ResolveNames.names c.args.names.now in
    let text = c.args.text.now in
    let before = c.before_bad_entry.result in
    let same : c.lines_behind-list.result.now ≡ list_in text =
    c.lines_behind-list.ensures ∙ ap after_line (c.lines_behind-in-Acl.ensures ∙ ap after_line c.lines_behind.ensures) in
    let first : IsBadLine names (faulty_kind names (list_in text)) (list_lines text) before =
    subst (λ list. IsBadLine names (faulty_kind names list) (parts newline list) before) same c.before_bad_entry.ensures.first in
    let back : (3 + before) - 3 ≡ before = omega arith in
    let is : IsFaultyAt names (Acl c.in-Acl.field-0) text (3 + before) =
    λ bad. (subst (IsFirstFaulty names (faulty_kind names (list_in text)) (list_lines text)) (sym back) (first bad), ap (λ n. 3 + n) (sym back)) in
    subst (λ fault. IsFaultyAt names fault text (3 + before)) (sym c.in-Acl.is) is
