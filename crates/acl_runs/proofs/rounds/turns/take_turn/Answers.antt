use Rattle.std.proofs.Common.{◌++◌, ◌∷◌, [], sym, ap, ◌∙◌, refl, subst}
use Rattle.std.proofs.lemmas.List.{get_or_default}
use Rattle.acl_broker.proofs.JournalEntries.{entry_of}
use Rattle.acl_runs.specs.Turns.{AnswersNext}
use Rattle.acl_runs.proofs.TurnLemmas.{turns_some, turns_none}
use Rattle.acl_runs.proofs.rounds.turns.take_turn.Goals as goal

pub returns-in_default : goal.returns-in_default
returns-in_default g c =
    let sessions = c.args.run.now.sessions.items in
    let progress = c.index_mut-progress.result.now in
    turns_none _ _ _ _ c.args.run.now _ c.args.session progress c.answer_next.new.progress c.requires
    (λ d. sym (c.index_mut-progress.ensures.value ∙ get_or_default sessions c.args.session progress d
    c.requires)) refl c.in_ok-reserve.ensures.items
    (subst (λ taken. AnswersNext g.C.RequestSource.rest g.S.Service.next g.S.Service.reply
    (g.P.Replies.handling c.args.replies.now).text c.args.run.now.service progress taken
    c.answer_next.new.service c.answer_next.new.progress) c.in_default.is c.in_ok-item.ensures)

pub returns : goal.returns
returns g c =
    let sessions = c.args.run.now.sessions.items in
    let progress = c.index_mut-progress.result.now in
    turns_some _ _ _ _ c.args.run.now _ c.args.session progress c.answer_next.new.progress c.in-Some.item
    c.requires (λ d. sym (c.index_mut-progress.ensures.value
    ∙ get_or_default sessions c.args.session progress d c.requires)) refl
    (c.push_reserved.ensures.items ∙ ap (λ front. front ++ entry_of c.args.session c.in-Some.item ∷ []) c.in_ok-reserve.ensures.items)
    (subst (λ taken. AnswersNext g.C.RequestSource.rest g.S.Service.next g.S.Service.reply
    (g.P.Replies.handling c.args.replies.now).text c.args.run.now.service progress taken
    c.answer_next.new.service c.answer_next.new.progress) c.in-Some.is c.in_ok-item.ensures)
