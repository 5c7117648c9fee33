-- What the reader of an entry answers is what the shapes say.
use Rattle.std.proofs.Common.{◌≡◌, ◌↔◌, ◌≤◌, ℕ, Bool, true, false, cond, List, Option, Some, None, Result, Ok, Err, nat_le, refl, sym, ap, subst, ◌∙◌, inl, inr, codes, bytes_eq, length, ◌&&◌, arith}
use Rattle.std.proofs.lemmas.Bool.Decides.{nat_tests}
use Rattle.std.proofs.lemmas.Slice.Eq.{bytes_eq-Decides}
use Rattle.std.specs.List.{list_all}
use Rattle.std.specs.Char.{is_ascii_digit}
use Rattle.std.specs.Str.Parse.{digits_value}
use Rattle.acl_names.specs.declared.directory.resolve.NameFault.{NameFault}
use Rattle.acl_names.specs.declared.directory.resolve.NameFault.TheVariants.{Malformed, Unknown}
use Rattle.acl_names.specs.declared.limits.TheConstants.{MAX_DIGITS, MAX_ID}
use Rattle.acl_names.specs.Bits.{◌∩◌}
use Rattle.acl_names.specs.Ids.{Written, Number, Name, written_id, number_or_name, decimal_value, id_of_written, is_decimal}
use Rattle.acl_names.specs.Names.{Names, resolved}
use Rattle.acl_names.specs.Steps.{◌>>=◌, or_fault}
use Rattle.acl_names.proofs.IdTexts.{and_second, written_name}
use Rattle.acl_names.proofs.StepLemmas.{given, some_from_cond, written_by}
use Rattle.acl_nfs4.specs.Ace.{Nfsace4, flags_for}
use Rattle.acl_nfs4.specs.Flags.{all_flags}
use Rattle.acl_nfs4.specs.NamedAces.{named_who, who_with}
use Rattle.acl_nfs4.specs.declared.reading.PieceFault.TheVariants.{Syntax}
use Rattle.acl_nfs4.specs.declared.who.Who.{Who}
use Rattle.acl_nfs4.specs.declared.who.Who.TheVariants.{Owner, Group, Everyone, User, NamedGroup}
use Rattle.acl_nfs4.proofs.ReadLemmas.{refuse_idle_said}
use Rattle.acl_nfs4.proofs.ShapeLemmas.{found_says, word_of_special, word_of_type}
use Rattle.acl_forms.specs.FormShapes.{HasFormShape, IsTag, WritesEntry, WritesId, WritesIdPlainly}
use Rattle.acl_forms.specs.FormText.{entry_by, special_who, type_of, who_by, who_named}
use Rattle.acl_forms.specs.PrintedForm.{type_text}
use Rattle.acl_forms.proofs.EntryFields.{type_again}
use Rattle.acl_forms.proofs.FormReads.{Parts, parts_of, value_of_parts}
use Rattle.acl_forms.proofs.MarkLemmas.{perms-known}

-- ---- ids

within_ids : (id : ℕ) → nat_le id MAX_ID ≡ true → id ≤ MAX_ID
within_ids id small = grind (arith, nat_tests)

at_most_id : (id : ℕ) → id ≤ MAX_ID → nat_le id MAX_ID ≡ true
at_most_id id small = grind (arith, nat_tests)

module _ (written_in : List ℕ → Option Written) (id_of : List ℕ → Option ℕ) (text : List ℕ) (id : ℕ) where
  abbrev found : Option Written → Result ℕ NameFault
  found written = or_fault Malformed written >>= (λ written. or_fault Unknown (id_of_written id_of written))

  id_says : resolved written_in id_of text ≡ Ok id → WritesId written_in id_of text id
  id_says e = go (written_in text) refl e
    where
      go : (written : Option Written) → written_in text ≡ written → found written ≡ Ok id → WritesId written_in id_of text id
      go None is e = absurd (cc)
      go (Some (Number n)) is e =
          let (small, same) = some_from_cond (nat_le n MAX_ID) n id (given Unknown _ id e) in
          inl (is ∙ ap (λ n. Some (Number n)) same, subst (λ (n : ℕ). n ≤ MAX_ID) same (within_ids n small))
      go (Some (Name name)) is e = inr (name, is, given Unknown _ id e)

  id_read : WritesId written_in id_of text id → resolved written_in id_of text ≡ Ok id
  id_read (inl (is, small)) = ap found is ∙ ap (λ b. or_fault Unknown (cond b (Some id) None)) (at_most_id id small)
  id_read (inr (name, is, has)) = ap found is ∙ ap (or_fault Unknown) has

-- a decimal is no more than the greatest id
small_decimal : (text : List ℕ) (id : ℕ) → decimal_value text ≡ Some id → id ≤ MAX_ID
small_decimal text id e =
    let (is, same) = some_from_cond (is_decimal text) (digits_value 10 text) id e in
    subst (λ (n : ℕ). n ≤ MAX_ID) same
    (within_ids _ (and_second (list_all is_ascii_digit text && nat_le 1 (length text) && nat_le (length text) MAX_DIGITS) (nat_le (digits_value 10 text) MAX_ID) is))

pub plainly : (id_of : List ℕ → Option ℕ) (text : List ℕ) (id : ℕ) → WritesId written_id id_of text id ↔ WritesIdPlainly id_of text id
plainly id_of text id = (says, reads)
  where
    says : WritesId written_id id_of text id → WritesIdPlainly id_of text id
    says (inl (is, small)) = written_by id_of text (decimal_value text) (Number id) id is (ap (λ b. cond b (Some id) None) (at_most_id id small))
    says (inr (name, is, has)) = written_by id_of text (decimal_value text) (Name name) id is has

    reads : WritesIdPlainly id_of text id → WritesId written_id id_of text id
    reads (inl number) = inl (ap (λ n. number_or_name n text) number, small_decimal text id number)
    reads (inr (shaped, has)) = inr (text, written_name text shaped, has)

-- ---- the tag

module _ (names : Names) where
  special_says : (tag : List ℕ) (who : Who) → special_who tag ≡ Some who → IsTag names tag None who
  special_says tag who e =
      word_of_special (codes "owner@") (codes "group@") (codes "everyone@") tag (IsTag names tag None) who (λ is. (is, refl)) (λ is. (is, refl)) (λ is. (is, refl)) e

  named_says : (tag name : List ℕ) (who : Who) → who_named names tag name ≡ Ok who → IsTag names tag (Some name) who
  named_says tag name who e = go (bytes_eq tag (codes "user")) refl (bytes_eq tag (codes "group")) refl e
    where
      go : (u : Bool) → bytes_eq tag (codes "user") ≡ u → (g : Bool) → bytes_eq tag (codes "group") ≡ g
          → cond u (named_who names false name) (cond g (named_who names true name) (Err Syntax)) ≡ Ok who → IsTag names tag (Some name) who
      go true eu g eg e =
          let (uid, is, same) = found_says (λ uid. User uid) (resolved names.written names.uid name) who e in
          subst (IsTag names tag (Some name)) same ((bytes_eq-Decides tag (codes "user")).0 eu, (name, refl, id_says names.written names.uid name uid is))
      go false eu true eg e =
          let (gid, is, same) = found_says (λ gid. NamedGroup gid) (resolved names.written names.gid name) who e in
          subst (IsTag names tag (Some name)) same ((bytes_eq-Decides tag (codes "group")).0 eg, (name, refl, id_says names.written names.gid name gid is))
      go false eu false eg e = absurd (cc)

  tag_says : (tag : List ℕ) (name : Option (List ℕ)) (who : Who) → who_by names tag name ≡ Ok who → IsTag names tag name who
  tag_says tag None who e = special_says tag who (given Syntax (special_who tag) who e)
  tag_says tag (Some name) who e = named_says tag name who e

  tag_is : (tag word : List ℕ) (name written : Option (List ℕ)) → tag ≡ word → name ≡ written → who_by names tag name ≡ who_by names word written
  tag_is tag word name written t n = ap (who_by names tag) n ∙ ap (λ tag. who_by names tag written) t

  tag_read : (tag : List ℕ) (name : Option (List ℕ)) (who : Who) → IsTag names tag name who → who_by names tag name ≡ Ok who
  tag_read tag name Owner (t, n) = tag_is tag (codes "owner@") name None t n
  tag_read tag name Group (t, n) = tag_is tag (codes "group@") name None t n
  tag_read tag name Everyone (t, n) = tag_is tag (codes "everyone@") name None t n
  tag_read tag name (User uid) (t, (text, n, writes)) =
      tag_is tag (codes "user") name (Some text) t n ∙ ap (who_with (λ uid. User uid)) (id_read names.written names.uid text uid writes)
  tag_read tag name (NamedGroup gid) (t, (text, n, writes)) =
      tag_is tag (codes "group") name (Some text) t n ∙ ap (who_with (λ gid. NamedGroup gid)) (id_read names.written names.gid text gid writes)

  -- ---- the entry

  says : (piece : List ℕ) (ace : Nfsace4) → entry_by names piece ≡ Ok ace → HasFormShape names piece ace
  says piece ace e =
      let (parts, has_effect) = parts_of names piece ace e in
      let who : parts.who ≡ ace.who = ap (λ (a : Nfsace4). a.who) parts.made in
      let mask : parts.mask ≡ ace.mask = sym (perms-known parts.fields.perms parts.mask (sym parts.mask_is)) ∙ ap (λ (a : Nfsace4). a.mask) parts.made in
      record {
        written = record {
          fields = parts.fields;
          flags = parts.flags;
          cut = parts.cut;
          who_is = subst (IsTag names parts.fields.tag parts.fields.name) who (tag_says parts.fields.tag parts.fields.name parts.who parts.who_is);
          mask_is = parts.mask_is ∙ ap Some mask;
          flags_are = parts.flags_are;
          kind_is = word_of_type type_text parts.fields.kind parts.kind parts.kind_is ∙ ap (λ (a : Nfsace4). type_text a.kind) parts.made;
          flags_kept = sym (ap (λ (a : Nfsace4). a.flags) parts.made) ∙ ap (λ (w : Who). flags_for w (parts.flags ∩ all_flags)) who;
        };
        has_effect = has_effect;
      }

  written_so : (piece : List ℕ) (ace : Nfsace4) → WritesEntry names piece ace → Parts names piece ace
  written_so piece ace it = record {
    fields = it.fields;
    mask = ace.mask;
    flags = it.flags;
    kind = ace.kind;
    who = ace.who;
    cut = it.cut;
    mask_is = it.mask_is;
    flags_are = it.flags_are;
    kind_is = ap type_of it.kind_is ∙ type_again ace.kind;
    who_is = tag_read it.fields.tag it.fields.name ace.who it.who_is;
    made = λ i. record {
      kind = ace.kind;
      flags = sym it.flags_kept i;
      who = ace.who;
      mask = perms-known it.fields.perms ace.mask (sym it.mask_is) i;
    };
  }

  pub value_is_shape : (piece : List ℕ) (ace : Nfsace4) → (entry_by names piece ≡ Ok ace) ↔ HasFormShape names piece ace
  value_is_shape piece ace =
      (says piece ace, λ shape. value_of_parts names piece ace (written_so piece ace shape.written) ∙ refuse_idle_said ace shape.has_effect)
