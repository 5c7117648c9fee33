use Rattle.std.proofs.Common.{rules, ◌∙◌, ◌<◌, Err, List, ℕ, arith, ap, ap₂, length, subst}
use Rattle.std.proofs.lemmas.Bool.{false≢true}
use Rattle.acl_nfs4.specs.Ace.{Nfsace4}
use Rattle.acl_nfs4.specs.ModeChange.{for_owner, kept_of_list, with_denials}
use Rattle.acl_nfs4.specs.declared.mode_change.Fault4.{Fault4}
use Rattle.acl_posix.specs.Mode.{Classes}
use Rattle.acl_posix.specs.Perms.{bits_of}
use Rattle.acl_wire.specs.Kept.{kept_aces}
use Rattle.acl_wire.specs.ModeChange.{denied_by}
use Rattle.acl_wire.specs.RawAcesWriting.{raws_of}
use Rattle.acl_wire.proofs.DraftLemmas.{beyond}
use Rattle.acl_wire.proofs.KeptLemmas.{kept-count, read-length}
use Rattle.acl_wire.proofs.ModeLengths.{most}
use Rattle.acl_wire.proofs.ModeLemmas.{assembled_of, fits-as, fits-not, list_read, longer}
use Rattle.acl_wire.proofs.mode_change.put_around.Goals as goal

pub returns-in-Err-TooMany-clause-value : goal.returns-in-Err-TooMany-clause-value
returns-in-Err-TooMany-clause-value g c =
    let more = longer c.args.least c.args.raws.now c.args.aces.now c.args.base c.args.mode c.requires.read c.requires.base in
    let long = c.in-Err-TooMany.ensures.too_many.0 (ap (λ (fault : Fault4). Err fault) c.in-Err-TooMany.field-0-is) in
    fits-not (with_denials (denied_by c.args.least c.args.mode) (kept_aces c.args.raws.now c.args.aces.now) c.args.mode) (omega (arith, more, long))

pub returns-in-Err-Memory-clause-short : goal.returns-in-Err-Memory-clause-short
returns-in-Err-Memory-clause-short g c = λ short _.
    let more = longer c.args.least c.args.raws.now c.args.aces.now c.args.base c.args.mode c.requires.read c.requires.base in
    absurd (false≢true (c.in-Err-Memory.ensures.short (omega (arith, more, short))))

pub assemble-requires : goal.assemble-requires
assemble-requires g c = (search rules, (read-length (list_read c.args.raws.now c.args.aces.now c.requires.read), c.requires.empty))

pub returns-in-Ok-assemble-clause-value : goal.returns-in-Ok-assemble-clause-value
returns-in-Ok-assemble-clause-value g c =
    let left = c.kept_len.ensures.value
    ∙ ap₂ (λ (group : ℕ) (aces : List Nfsace4). length (kept_of_list group aces)) (ap (λ (m : Classes). m.group) c.mode.view_is) c.aces.ensures.value in
    let front = c.front_len-front.ensures.value ∙ ap (λ (m : Classes). length (for_owner m.user)) c.mode.view_is in
    let parts = assembled_of c.args.least c.args.raws.now c.args.aces.now c.args.base c.args.mode c.requires.read c.requires.base
    c.front_len-front.result c.kept_len.result (bits_of c.mode-2.inside.group) c.aces-around.result.now
    front left (ap (λ (m : Classes). m.group) c.mode-2.view_is) (c.aces-around.ensures.value ∙ c.in-Ok.ensures.ok) in
    fits-as (with_denials (denied_by c.args.least c.args.mode) (kept_aces c.args.raws.now c.args.aces.now) c.args.mode) c.assemble.new.draft.items
    (c.in-Ok-assemble.ensures.ok ∙ ap raws_of parts) (omega (arith, c.in-Ok-assemble.ensures.few, c.requires.room.0))

pub returns-clause-value : goal.returns-clause-value
returns-clause-value g c =
    let left = c.kept_len.ensures.value
    ∙ ap₂ (λ (group : ℕ) (aces : List Nfsace4). length (kept_of_list group aces)) (ap (λ (m : Classes). m.group) c.mode.view_is) c.aces.ensures.value in
    let front = c.front_len-front.ensures.value ∙ ap (λ (m : Classes). length (for_owner m.user)) c.mode.view_is in
    let parts = assembled_of c.args.least c.args.raws.now c.args.aces.now c.args.base c.args.mode c.requires.read c.requires.base
    c.front_len-front.result c.kept_len.result (bits_of c.mode-2.inside.group) c.aces-around.result.now
    front left (ap (λ (m : Classes). m.group) c.mode-2.view_is) (c.aces-around.ensures.value ∙ c.in-Ok.ensures.ok) in
    let kept : List Nfsace4 = kept_aces c.args.raws.now c.args.aces.now in
    let few = most (denied_by c.args.least c.args.mode) kept c.args.mode in
    let count = kept-count (list_read c.args.raws.now c.args.aces.now c.requires.read) in
    fits-not (with_denials (denied_by c.args.least c.args.mode) kept c.args.mode)
    (beyond g.row.N (length c.args.raws.now) _ c.requires.room (omega (arith, few, count)) (subst (λ (all : List Nfsace4). g.row.N < length all) parts c.in-Err.ensures.full))
