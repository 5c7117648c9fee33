use Rattle.std.proofs.Common.{arith, sym, ◌∙◌, ap, ◌*◌, ◌+◌, ◌≡◌, length, rules, subst, ◌++◌, drop}
use Rattle.acl_wire.specs.Xattr.{xattr_of}
use Rattle.acl_wire.proofs.WritingLemmas.{length-xattr}
use Rattle.acl_wire.proofs.xattr_writing.write_xattr.Goals as goal

pub put_entries-requires-clause-room : goal.put_entries-requires-clause-room
put_entries-requires-clause-room c = omega (arith, length-xattr c.entries-entries.result.now)

pub returns-then-len-out : goal.returns-then-len-out
returns-then-len-out c =
    let len : 4 + 8 * length c.entries-entries.result.now ≡ length (xattr_of c.args.acl.now) =
    sym (length-xattr c.entries-entries.result.now) ∙ ap (λ l. length (xattr_of l)) c.entries-entries.ensures.value in
    record { count_is = len; room = λ _. subst (λ l. c.put_entries.new.out ≡ xattr_of l ++ drop (length (xattr_of l)) c.args.out.now) c.entries-entries.ensures.value c.put_entries.ensures; no_room = λ small. absurd (omega arith) }

pub returns-else-len-out : goal.returns-else-len-out
returns-else-len-out c =
    let len : 4 + 8 * length c.entries-entries.result.now ≡ length (xattr_of c.args.acl.now) =
    sym (length-xattr c.entries-entries.result.now) ∙ ap (λ l. length (xattr_of l)) c.entries-entries.ensures.value in
    record { count_is = len; room = λ room. absurd (omega arith); no_room = λ _. search rules }
