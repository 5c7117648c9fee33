use Rattle.std.proofs.Common.{◌≡◌, ◌∙◌, ◌++◌, ◌∷◌, [], false, ℕ, List, None, OnOk, Option, ap, length, map, option_map, subst, sym}
use Rattle.std.specs.Map.{lookup}
use Rattle.indexmap.proofs.CallerLemmas.{insert_entry-new}
use Rattle.acl_listing_reach.specs.KnownSteps.{AreWithin, Kept, at_in}
use Rattle.acl_listing_reach.specs.Once.{At, has_path}
use Rattle.acl_listing_reach.proofs.KnownLemmas.{grown_by, grown_within, is_key, no_entry, path_more, within_more}
use Rattle.acl_listing_reach.proofs.known.KnownPaths.push.Goals as goal
use Rattle.acl_listing_reach.proofs.known.KnownPaths.push.Goals.{in-Ok, in-Err}

pub invariant_of-self : goal.invariant_of-self
invariant_of-self c = grown_within c.self.inside.letters.keys c.place_for_any.new.known.keys (grown_by (option_map (λ letters. letters.now) c.args.letters) c.self.inside.letters.keys c.place_for_any.new.known.keys c.place_for_any.ensures.grown) c.self.inside.paths.entries c.self.invariant

pub invariant_of-self-in_err-from_slice : goal.invariant_of-self-in_err-from_slice
invariant_of-self-in_err-from_slice c = grown_within c.self.inside.letters.keys c.place_for_any.new.known.keys (grown_by (option_map (λ letters. letters.now) c.args.letters) c.self.inside.letters.keys c.place_for_any.new.known.keys c.place_for_any.ensures.grown) c.self.inside.paths.entries c.self.invariant

pub invariant_of-self-2 : goal.invariant_of-self-2
invariant_of-self-2 c =
    let old = c.self.inside.letters.keys in
    let new = c.place_for_any.new.known.keys in
    let paths = c.self.inside.paths in
    let key = c.in_ok-from_slice.field-0 in
    let entry : Kept = (key, c.in_ok-place.place) in
    let within = grown_within old new (grown_by (option_map (λ letters. letters.now) c.args.letters) c.self.inside.letters.keys c.place_for_any.new.known.keys c.place_for_any.ensures.grown) paths.entries c.self.invariant in
    let lacks : has_path key.items (map (at_in old) paths.entries) ≡ false =
    ap (λ path. has_path path (map (at_in old) paths.entries)) c.in_ok-from_slice.ensures.items ∙ ap (has_path c.args.path.now) c.self.view_is ∙ c.requires in
    let none : lookup (is_key key.items old) paths.entries ≡ None = no_entry key.items old paths.entries lacks in
    elim c.match-insert.branch [
      | in-Ok w ↦ subst (AreWithin (length new)) (sym (w.in-Ok.ensures.entries ∙ insert_entry-new _ paths key c.in_ok-place.place none))
          (within_more (length new) paths.entries within entry c.in_ok-place.ensures.within)
      | in-Err w ↦ subst (AreWithin (length new)) (sym w.in-Err.ensures.err) within
    ]

pub returns : goal.returns
returns c =
    let old = c.self.inside.letters.keys in
    let new = c.place_for_any.new.known.keys in
    let paths = c.self.inside.paths in
    let key = c.in_ok-from_slice.field-0 in
    let entry : Kept = (key, c.in_ok-place.place) in
    let letters : Option (List ℕ) = option_map (λ letters. letters.now) c.args.letters in
    let lacks : has_path key.items (map (at_in old) paths.entries) ≡ false =
    ap (λ path. has_path path (map (at_in old) paths.entries)) c.in_ok-from_slice.ensures.items ∙ ap (has_path c.args.path.now) c.self.view_is ∙ c.requires in
    let none : lookup (is_key key.items old) paths.entries ≡ None = no_entry key.items old paths.entries lacks in
    let more : map (at_in new) (paths.entries ++ entry ∷ []) ≡ map (at_in old) paths.entries ++ record { path = key.items; letters = letters } ∷ [] =
    path_more old new (grown_by (option_map (λ letters. letters.now) c.args.letters) c.self.inside.letters.keys c.place_for_any.new.known.keys c.place_for_any.ensures.grown) paths.entries c.self.invariant entry letters c.in_ok-place.ensures.there in
    let path : map (at_in old) paths.entries ++ record { path = key.items; letters = letters } ∷ [] ≡ c.args.self.now ++ record { path = c.args.path.now; letters = letters } ∷ [] =
    ap (λ (path : List ℕ). map (at_in old) paths.entries ++ record { path = path; letters = letters } ∷ []) c.in_ok-from_slice.ensures.items
    ∙ ap (λ (ats : List At). ats ++ record { path = c.args.path.now; letters = letters } ∷ []) c.self.view_is in
    elim c.match-insert.branch [
      | in-Ok w ↦ subst (λ result. OnOk result (map (at_in new) c.insert.new.self.entries ≡ c.args.self.now ++ record { path = c.args.path.now; letters = letters } ∷ [])) (sym w.result-is)
          (ap (map (at_in new)) (w.in-Ok.ensures.entries ∙ insert_entry-new _ paths key c.in_ok-place.place none) ∙ more ∙ path)
      | in-Err w ↦ subst (λ result. OnOk result (map (at_in new) c.insert.new.self.entries ≡ c.args.self.now ++ record { path = c.args.path.now; letters = letters } ∷ [])) (sym w.result-is) tt
    ]
