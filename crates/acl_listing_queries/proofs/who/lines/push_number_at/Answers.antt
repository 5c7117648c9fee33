use Rattle.std.proofs.Common.{rules, ◌≡◌, ◌∙◌, ◌<◌, ◌≤◌, ◌++◌, ◌∷◌, [], Bool, List, ap, append-nil, arith, cond, length, map, sym, ℕ}
use Rattle.std.proofs.lemmas.Bool.{le-ltb, lt-ltb}
use Rattle.std.proofs.lemmas.List.{length-map}
use Rattle.acl_access.specs.Marks.{letters_at}
use Rattle.acl_posix.specs.Perms.{bits_of}
use Rattle.acl_listing_queries.proofs.who.lines.push_number_at.Goals as goal

pub returns-then-place-letters : goal.returns-then-place-letters
returns-then-place-letters c =
    let letters : List ℕ = map bits_of c.args.letters.now in
    let beyond : length letters ≤ c.args.place = omega (arith, c.if-place-letters.true, length-map c.args.letters.now bits_of) in
    sym (ap (λ (b : Bool). c.args.out.now.items ++ cond b (letters_at letters c.args.reach.now c.args.place ∷ []) []) (le-ltb c.args.place (length letters) beyond) ∙ append-nil c.args.out.now.items)

pub returns : goal.returns
returns c =
    let letters : List ℕ = map bits_of c.args.letters.now in
    let within : c.args.place < length letters = omega (arith, c.if-place-letters.false, length-map c.args.letters.now bits_of) in
    let pushed : c.push.new.self.items ≡ c.args.out.now.items ++ letters_at letters c.args.reach.now c.args.place ∷ [] = search rules in
    pushed ∙ sym (ap (λ (b : Bool). c.args.out.now.items ++ cond b (letters_at letters c.args.reach.now c.args.place ∷ []) []) (lt-ltb c.args.place (length letters) within))
