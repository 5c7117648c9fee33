-- A text that begins with an entry field by field begins with it.
use Rattle.std.proofs.Common.{◌≡◌, ℕ, List, [], ◌∷◌, ◌++◌, length, take, drop, Option, Some, None, IfSome}
use Rattle.std.proofs.Common.{MatchOption, Ok, Err, sym, ap, ◌∙◌, append_assoc, length-append}
use Rattle.std.proofs.Common.{arith, true}
use Rattle.std.specs.List.{AllByRecursion, join_with_byte}
use Rattle.std.specs.Str.{bytes_eq}
use Rattle.std.proofs.lemmas.List.{take-append-drop}
use Rattle.std.proofs.lemmas.Slice.Eq.{bytes_eq-Decides}
use Rattle.acl_names.specs.Bytes.{colon}
use Rattle.acl_names.specs.Ids.{Written, id_of_written}
use Rattle.acl_names.specs.Names.{Names, resolved}
use Rattle.acl_names.specs.Plain.{IsField, IsFront}
use Rattle.acl_names.specs.Steps.{◌>>=◌, or_fault}
use Rattle.acl_names.specs.declared.directory.resolve.NameFault.{NameFault}
use Rattle.acl_names.specs.declared.directory.resolve.NameFault.TheVariants.{Malformed, Unknown}
use Rattle.acl_names.proofs.Fields.{fields_again, joined_plain, tested_field}
use Rattle.acl_posix.specs.EntryText.{Fields, as_fields, fields_of, entry_by, tag_with_id}
use Rattle.acl_posix.specs.Front.{BeginsWithWord, BeginsWithTag, BeginsWithPerms}
use Rattle.acl_posix.specs.PermsText.{perms_of_text, three_letters}
use Rattle.acl_posix.specs.declared.entry.Tag.{Tag}
use Rattle.acl_posix.specs.ReadFault.{fault_of_name}
use Rattle.acl_posix.specs.declared.reading.PieceFault.TheVariants.{Syntax, UnknownName}
use Rattle.acl_posix.specs.declared.reading.TagWord.{TagWord}
use Rattle.acl_posix.proofs.ReadLemmas.{three_letters-read}
use Rattle.acl_posix.proofs.RoundTrip.{read_parts, three_pass}

-- what is said of the value, if there is one
pub some_of_match : {X : Type 0} (found : Option X) (P : Type 0) (Q : X → Type 0) → MatchOption found P Q → IfSome found Q
some_of_match None P Q is = tt
some_of_match (Some x) P Q is = is

pub begins_with : (front text rest : List ℕ) → bytes_eq (take (length front) text) front ≡ true → rest ≡ drop (length front) text → text ≡ front ++ rest
begins_with front text rest same is =
    sym (take-append-drop (length front) text)
    ∙ ap (λ t. t ++ drop (length front) text) ((bytes_eq-Decides (take (length front) text) front).0 same)
    ∙ ap (λ t. front ++ t) (sym is)

-- what an id is resolved to says the tag
pub tag_resolved : (written_in : List ℕ → Option Written) (tag : ℕ → Tag) (id_of : List ℕ → Option ℕ) (text : List ℕ) (id : ℕ)
    → Ok id ≡ resolved written_in id_of text → Ok (tag id) ≡ tag_with_id written_in tag id_of text
tag_resolved written_in tag id_of text id is = go (written_in text) is
  where
    after : (found : Option ℕ) → Ok id ≡ or_fault Unknown found → Ok (tag id) ≡ (or_fault UnknownName found >>= (λ n. Ok (tag n)))
    after None is = cc
    after (Some n) is = cc

    go : (written : Option Written) → Ok id ≡ (or_fault Malformed written >>= (λ w. or_fault Unknown (id_of_written id_of w)))
        → Ok (tag id) ≡ (or_fault Syntax written >>= (λ w. or_fault UnknownName (id_of_written id_of w) >>= (λ n. Ok (tag n))))
    go None is = cc
    go (Some w) is = after (id_of_written id_of w) is

-- and else the fault
pub tag_unresolved : (written_in : List ℕ → Option Written) (tag : ℕ → Tag) (id_of : List ℕ → Option ℕ) (text : List ℕ) (fault : NameFault)
    → Err fault ≡ resolved written_in id_of text → Err (fault_of_name fault) ≡ tag_with_id written_in tag id_of text
tag_unresolved written_in tag id_of text fault is = go (written_in text) is
  where
    after : (found : Option ℕ) → Err fault ≡ or_fault Unknown found → Err (fault_of_name fault) ≡ (or_fault UnknownName found >>= (λ n. Ok (tag n)))
    after None is = let same : fault ≡ Unknown = cc in ap (λ f. Err (fault_of_name f)) same
    after (Some n) is = cc

    go : (written : Option Written) → Err fault ≡ (or_fault Malformed written >>= (λ w. or_fault Unknown (id_of_written id_of w)))
        → Err (fault_of_name fault) ≡ (or_fault Syntax written >>= (λ w. or_fault UnknownName (id_of_written id_of w) >>= (λ n. Ok (tag n))))
    go None is = let same : fault ≡ Malformed = cc in ap (λ f. Err (fault_of_name f)) same
    go (Some w) is = after (id_of_written id_of w) is

pub front_is : (names : Names) (text behind_word behind_tag rest : List ℕ) (word : TagWord) (tag : Tag) (perms : ℕ)
    → BeginsWithWord text word behind_word → BeginsWithTag names behind_word word tag behind_tag → BeginsWithPerms behind_tag perms rest
    → IsFront (entry_by names) text (record { tag = tag; perms = perms }) rest
front_is names text behind_word behind_tag rest word tag perms w t p =
    let three = three_letters p.read p.write p.execute in
    let more = t.qualifier ∷ three ∷ [] in
    let are : AllByRecursion IsField (w.written ∷ more) = (w.field, (t.field, (tested_field three (three_pass p.read p.write p.execute), tt))) in
    let fields : Fields = record { tag = w.written; qualifier = Some t.qualifier; perms = three } in
    let piece = join_with_byte colon (w.written ∷ more) in
    let cut : fields_of piece ≡ Some fields = ap as_fields (fields_again w.written more are) in
    let allowed : perms_of_text three ≡ Some perms = three_letters-read p.read p.write p.execute ∙ ap Some (sym p.says) in
    record {
      piece = piece;
      cut = w.cut ∙ ap (λ x. w.written ++ colon ∷ x) (t.cut ∙ ap (λ x. t.qualifier ++ colon ∷ x) p.cut)
          ∙ sym (append_assoc w.written (colon ∷ (t.qualifier ++ colon ∷ three)) rest ∙ ap (λ x. w.written ++ colon ∷ x) (append_assoc t.qualifier (colon ∷ three) rest));
      some = omega (arith, length-append w.written (colon ∷ join_with_byte colon more));
      plain = joined_plain w.written more are;
      said = read_parts names piece fields word perms tag cut w.says allowed t.says;
    }
