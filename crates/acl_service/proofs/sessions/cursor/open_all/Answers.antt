use Rattle.std.proofs.Common.{◌≡◌, ◌+◌, ◌^◌, ◌<◌, ◌++◌, ◌∷◌, [], List, ℕ, length, map, take, sym, ap, ◌∙◌, arith, rules, vec_items, vec_len, get_or, Vec, Global}
use Rattle.std.proofs.lemmas.List.{map-append, map_more, get_or_read}
use Rattle.acl_lang.specs.Texts.{requests_of}
use Rattle.acl_lang.specs.declared.text.Numbered.{Numbered}
use Rattle.acl_service.specs.Cursor.{rest_of}
use Rattle.acl_runs.proofs.PlaceLemmas.{each_after_push}
use Rattle.acl_service.proofs.TextLengths.{few_requests}
use Rattle.acl_service.proofs.sessions.cursor.open_all.Goals as goal

pub loop-text-preserved : goal.loop-text-preserved
loop-text-preserved c =
    let was = c.loop-text.invariant in
    let texts = c.args.texts.now in
    let known = c.args.directory.now in
    let done = c.loop-text.text-index in
    let old = c.loop-text.cursors in
    let wanted : Vec ℕ Global → List Numbered = λ text. requests_of known (vec_items text) in
    let grown : vec_len c.push_reserved.new.self ≡ done + 1 = search rules in
    let text_is : (d : Vec ℕ Global) → c.as_slice.result.now ≡ vec_items (get_or texts done d) = λ d.
    c.as_slice.ensures.value ∙ ap (λ (v : Vec ℕ Global). vec_items v) (get_or_read texts done c.text-item.result c.loop-text-test.true c.text-item.is d) in
    let new_is : rest_of c.new.result ≡ wanted (get_or texts done c.text-item.result) = c.new.ensures ∙ ap (λ bytes. requests_of known bytes) (text_is c.text-item.result) in
    record {
      count = grown;
      room = search rules;
      requests =
          ap (λ items. map rest_of items) c.push_reserved.ensures.items ∙ map-append rest_of (vec_items old) (c.new.result ∷ []) ∙ ap (λ front. front ++ rest_of c.new.result ∷ []) was.requests
          ∙ ap (λ last. map wanted (take done texts) ++ last ∷ []) new_is ∙ sym (map_more wanted texts done c.text-item.result c.loop-text-test.true);
      few = λ k d below.
          each_after_push (λ i cursor. length (rest_of cursor) < 2 ^ 32) (vec_items old) c.new.result
          (vec_items c.push_reserved.new.self) done c.push_reserved.ensures.items
          (omega (arith, was.count, old.ok.0))
          (λ i d low. was.few i d (omega (arith, low, was.count, old.ok.0)))
          (omega (arith, ap length c.new.ensures, few_requests known c.as_slice.result.now, c.requires done c.text-item.result c.loop-text-test.true, ap length (text_is c.text-item.result)))
          k d (omega (arith, below, grown, c.push_reserved.new.self.ok.0));
    }
