-- Which fault a piece has that says no entry.
use Rattle.std.proofs.Common.{◌≡◌, ◌≢◌, ◌↔◌, ◌⊎◌, ◌&&◌, ℕ, Bool, true, false, cond, List, [], ◌∷◌, Option, Some, None, Result, Ok, Err, codes, refl, sym, ap, ap₂, subst, ◌∙◌, bytes_eq, inl, inr}
use Rattle.std.specs.List.{join_with_byte}
use Rattle.std.proofs.lemmas.List.Splits.{join_with_byte-slice_split}
use Rattle.acl_names.specs.declared.directory.resolve.NameFault.{NameFault}
use Rattle.acl_names.specs.declared.directory.resolve.NameFault.TheVariants.{Malformed, Unknown}
use Rattle.acl_names.specs.Bytes.{at_sign}
use Rattle.acl_names.specs.Bits.{has}
use Rattle.acl_names.specs.Directory.{Known, uid_of, gid_of, fault_of}
use Rattle.acl_names.specs.Ids.{Name, written_id, has_name_shape, has_domain_shape, id_of_written}
use Rattle.acl_names.specs.Names.{resolved}
use Rattle.acl_names.specs.Pieces.{parts as split_at_byte}
use Rattle.acl_names.specs.Steps.{◌>>=◌, or_fault}
use Rattle.acl_names.proofs.IdTexts.{and_first, and_second}
use Rattle.acl_names.proofs.StepLemmas.{given}
use Rattle.acl_posix.proofs.PieceFaultLemmas.{knowing, knowing_faultless, knows_user, knows_group, unfound_name}
use Rattle.acl_posix.proofs.StepFaults.{same_fault, fault_behind, other_fault}
use Rattle.acl_nfs4.specs.Ace.{Nfsace4, is_idle}
use Rattle.acl_nfs4.specs.AceFields.{refuse_idle}
use Rattle.acl_nfs4.specs.AceShapes.{WritesName}
use Rattle.acl_nfs4.specs.AceText.{id_in, names_in_domain, piece_value, written_who}
use Rattle.acl_nfs4.specs.Faults.{IsWritten, HasNoShape, HasUnknownName, HasNoEffect}
use Rattle.acl_nfs4.specs.Flags.{identifier_group}
use Rattle.acl_nfs4.specs.NamedAces.{special_or, special_who, who_by, who_with}
use Rattle.acl_nfs4.specs.WrittenHere.{written_here}
use Rattle.acl_nfs4.specs.declared.reading.PieceFault.{PieceFault}
use Rattle.acl_nfs4.specs.declared.reading.PieceFault.TheVariants.{Syntax, UnknownName, InheritOnly}
use Rattle.acl_nfs4.specs.declared.who.Who.{Who}
use Rattle.acl_nfs4.specs.declared.who.Who.TheVariants.{User, NamedGroup}
use Rattle.acl_nfs4.proofs.DomainLemmas.{found, named_read, resolved_here}
use Rattle.acl_nfs4.proofs.ReadLemmas.{IsMisshapen, Shaped, ace_for, parts_of, shape_of, value_of_shaped, who_in}
use Rattle.acl_nfs4.proofs.ShapeLemmas.{ace_of_parts, value_of_written}

-- ---- the faults differ

abbrev IsSyntax : PieceFault → Type 0
IsSyntax Syntax = Unit {0}
IsSyntax UnknownName = ⊥
IsSyntax InheritOnly = ⊥

abbrev IsUnknown : PieceFault → Type 0
IsUnknown Syntax = ⊥
IsUnknown UnknownName = Unit {0}
IsUnknown InheritOnly = ⊥

not_unknown : Syntax ≢ UnknownName
not_unknown e = subst IsSyntax e tt

not_idle : Syntax ≢ InheritOnly
not_idle e = subst IsSyntax e tt

unknown_not_idle : UnknownName ≢ InheritOnly
unknown_not_idle e = subst IsUnknown e tt

-- an entry that is written has no fault but that it has no effect
effect_fault : (ace : Nfsace4) (fault : PieceFault) → fault ≢ InheritOnly → refuse_idle ace ≢ Err fault
effect_fault ace fault apart e = go (is_idle ace) e
  where
    go : (b : Bool) → cond b (Err InheritOnly) (Ok ace) ≡ Err fault → ⊥
    go true e = let is : InheritOnly ≡ fault = cc in apart (sym is)
    go false e = cc

idle_fault : (ace : Nfsace4) → refuse_idle ace ≡ Err InheritOnly → is_idle ace ≡ true
idle_fault ace e = go (is_idle ace) e
  where
    go : (b : Bool) → cond b (Err InheritOnly) (Ok ace) ≡ Err InheritOnly → b ≡ true
    go true e = refl
    go false e = cc

-- a fault of two steps of which the second doesn't have it
of_first : {A B F : Type 0} (fault : F) (r : Result A F) (f : A → Result B F) → ((x : A) → f x ≢ Err fault) → (r >>= f) ≡ Err fault → r ≡ Err fault
of_first fault (Ok x) f sound e = absurd (sound x e)
of_first fault (Err other) f sound e = let is : other ≡ fault = cc in ap Err is

-- ---- the faults of a who

abbrev IsMalformed : NameFault → Type 0
IsMalformed Malformed = Unit {0}
IsMalformed Unknown = ⊥

malformed_apart : Malformed ≢ Unknown
malformed_apart e = subst IsMalformed e tt

unknown_apart : Unknown ≢ Malformed
unknown_apart e = malformed_apart (sym e)

-- what was found of a who with this fault
abbrev IsCause : PieceFault → Result ℕ NameFault → Type 0
IsCause Syntax found = found ≡ Err Malformed
IsCause UnknownName found = found ≡ Err Unknown
IsCause InheritOnly found = ⊥

cause : (who_of : ℕ → Who) (found : Result ℕ NameFault) (fault : PieceFault) → who_with who_of found ≡ Err fault → IsCause fault found
cause who_of (Ok id) fault e = absurd (cc)
cause who_of (Err Malformed) fault e = let is : Syntax ≡ fault = cc in subst (λ (f : PieceFault). IsCause f (Err Malformed)) is refl
cause who_of (Err Unknown) fault e = let is : UnknownName ≡ fault = cc in subst (λ (f : PieceFault). IsCause f (Err Unknown)) is refl

-- whoever has an id, and the ids of names: of a group, or else of a user
abbrev one_with : Bool → ℕ → Who
one_with true gid = NamedGroup gid
one_with false uid = User uid

abbrev ids_of : Known → Bool → List ℕ → Option ℕ
ids_of known true = gid_of known
ids_of known false = uid_of known

abbrev id_found : Known → Bool → List ℕ → Result ℕ NameFault
id_found known is_group = resolved written_who (id_in (ids_of known is_group) known.domain)

abbrev who_here : Known → Bool → List ℕ → Result Who PieceFault
who_here known = who_by (names_in_domain known)

who_is_found : (known : Known) (is_group : Bool) (text : List ℕ) → who_here known is_group text ≡ special_or (special_who text) (who_with (one_with is_group) (id_found known is_group text))
who_is_found known true text = refl
who_is_found known false text = refl

-- a fault is one of a text that is no special identifier
fault_of_who : (known : Known) (is_group : Bool) (text : List ℕ) (fault : PieceFault) → who_here known is_group text ≡ Err fault
    → (special_who text ≡ None) × IsCause fault (id_found known is_group text)
fault_of_who known is_group text fault e = go (special_who text) (sym (who_is_found known is_group text) ∙ e)
  where
    go : (special : Option Who) → special_or special (who_with (one_with is_group) (id_found known is_group text)) ≡ Err fault
        → (special ≡ None) × IsCause fault (id_found known is_group text)
    go None e = (refl, cause (one_with is_group) (id_found known is_group text) fault e)
    go (Some who) e = absurd (cc)

-- ---- Syntax is the same whatever names are known

who_misshapen : (known other : Known) (is_group : Bool) (text : List ℕ) → who_here known is_group text ≡ Err Syntax → who_here other is_group text ≡ Err Syntax
who_misshapen known other is_group text e =
    let (none, is) = fault_of_who known is_group text Syntax e in
    let there : id_found other is_group text ≡ Err Malformed = same_fault Malformed (or_fault Malformed (written_who text)) _ _
    (λ written e. absurd (other_fault Unknown Malformed unknown_apart (id_of_written (id_in (ids_of known is_group) known.domain) written) e)) is in
    who_is_found other is_group text ∙ ap₂ (λ special found. special_or special (who_with (one_with is_group) found)) none there

misshapen_anywhere : (known other : Known) (piece : List ℕ) → piece_value known piece ≡ Err Syntax → piece_value other piece ≡ Err Syntax
misshapen_anywhere known other piece e = go (shape_of piece)
  where
    go : IsMisshapen piece ⊎ Shaped piece → piece_value other piece ≡ Err Syntax
    go (inl none) = none (names_in_domain other)
    go (inr shape) =
        let last : Who → Result Nfsace4 PieceFault = λ who. refuse_idle (ace_for shape who) in
        let here = of_first Syntax (who_in (names_in_domain known) shape) last (λ who. effect_fault (ace_for shape who) Syntax not_idle)
        (sym (value_of_shaped (names_in_domain known) piece shape) ∙ e) in
        value_of_shaped (names_in_domain other) piece shape
        ∙ ap (λ who. who >>= last) (who_misshapen known other (has shape.flags identifier_group) shape.fields.who here)

-- ---- what a piece with another fault is made of

-- its shape, after which the fault lies
abbrev ShapedBefore : Known → List ℕ → PieceFault → Type 0
ShapedBefore known piece fault = (shape : Shaped piece) × ((who_in (names_in_domain known) shape >>= (λ who. refuse_idle (ace_for shape who))) ≡ Err fault)

shaped_before : (known : Known) (piece : List ℕ) (fault : PieceFault) → Syntax ≢ fault → piece_value known piece ≡ Err fault → ShapedBefore known piece fault
shaped_before known piece fault apart e = go (shape_of piece)
  where
    go : IsMisshapen piece ⊎ Shaped piece → ShapedBefore known piece fault
    go (inl none) =
        let both : Err Syntax ≡ Err fault = sym (none (names_in_domain known)) ∙ e in
        let same : Syntax ≡ fault = cc in
        absurd (apart same)
    go (inr shape) = (shape, sym (value_of_shaped (names_in_domain known) piece shape) ∙ e)

-- ---- an entry without effect

idle_written : (known : Known) (piece : List ℕ) → piece_value known piece ≡ Err InheritOnly → HasNoEffect known piece
idle_written known piece e =
    let (shape, is) = shaped_before known piece InheritOnly not_idle e in
    let who = fault_behind InheritOnly (who_in (names_in_domain known) shape) (λ who. refuse_idle (ace_for shape who))
    (λ e. (fault_of_who known (has shape.flags identifier_group) shape.fields.who InheritOnly e).1) is in
    let ace = ace_for shape who.0 in
    (ace, ace_of_parts known piece ace (record { shape = shape; who = who.0; who_is = who.1; made = refl }), idle_fault ace who.2)

-- ---- a name that is unknown is known elsewhere

-- a name that the text writes, in a domain of this shape
record IsNamed (text : List ℕ) : Type 0 where
  pub name : List ℕ
  pub domain : List ℕ
  pub shaped : has_name_shape name ≡ true
  pub domain_shaped : has_domain_shape domain ≡ true
  pub writes : WritesName (knowing domain name) text name

-- what is written and not found is a name
unfound : (id_of : List ℕ → Option ℕ) (here text : List ℕ) → resolved written_who (id_in id_of here) text ≡ Err Unknown → IsNamed text
unfound id_of here text e = go (split_at_byte at_sign text) (join_with_byte-slice_split at_sign text) (sym (resolved_here id_of here text) ∙ e)
  where
    none_found : (id : Option ℕ) → or_fault Unknown id ≡ Err Unknown → id ≡ None
    none_found None e = refl
    none_found (Some id) e = absurd (cc)

    go : (texts : List (List ℕ)) → join_with_byte at_sign texts ≡ text → found id_of (written_here here texts) ≡ Err Unknown → IsNamed text
    go [] joined e = let is : Malformed ≡ Unknown = cc in absurd (malformed_apart is)
    go (one ∷ []) joined e =
        let written = fault_behind Unknown (or_fault Malformed (written_id one)) _ (other_fault Malformed Unknown malformed_apart (written_id one)) e in
        let is = unfound_name id_of one written.0 (given Malformed (written_id one) written.0 written.1) (none_found (id_of_written id_of written.0) written.2) in
        record { name = one; domain = codes "a"; shaped = is.0; domain_shaped = refl; writes = (is.0, inl (sym joined)) }
    go (name ∷ domain ∷ []) joined e = shapes (has_name_shape name && has_domain_shape domain) refl e
      where
        shapes : (b : Bool) → (has_name_shape name && has_domain_shape domain) ≡ b
            → found id_of (cond b (cond (bytes_eq domain here) (Ok (Name name)) (Err Unknown)) (Err Malformed)) ≡ Err Unknown → IsNamed text
        shapes false is e = let same : Malformed ≡ Unknown = cc in absurd (malformed_apart same)
        shapes true is e =
            let shaped = and_first (has_name_shape name) (has_domain_shape domain) is in
            let domain_shaped = and_second (has_name_shape name) (has_domain_shape domain) is in
            record { name = name; domain = domain; shaped = shaped; domain_shaped = domain_shaped; writes = (shaped, inr (sym joined, domain_shaped)) }
    go (one ∷ two ∷ three ∷ more) joined e = let is : Malformed ≡ Unknown = cc in absurd (malformed_apart is)

-- the one whom a text names in a faultless directory
record IsKnownSomewhere (is_group : Bool) (text : List ℕ) : Type 0 where
  pub known : Known
  pub faultless : fault_of known ≡ None
  pub who : Who
  pub who_is : who_here known is_group text ≡ Ok who

knows : (is_group : Bool) (domain name : List ℕ) → ids_of (knowing domain name) is_group name ≡ Some 0
knows true domain name = knows_group domain name
knows false domain name = knows_user domain name

who_somewhere : (known : Known) (is_group : Bool) (text : List ℕ) → who_here known is_group text ≡ Err UnknownName → IsKnownSomewhere is_group text
who_somewhere known is_group text e =
    let is = unfound (ids_of known is_group) known.domain text (fault_of_who known is_group text UnknownName e).1 in
    let there = knowing is.domain is.name in
    record {
      known = there;
      faultless = knowing_faultless is.domain is.name is.domain_shaped is.shaped;
      who = one_with is_group 0;
      who_is = who_is_found there is_group text
          ∙ named_read there (one_with is_group) (ids_of there is_group) text 0 (inr (is.name, is.writes, knows is_group is.domain is.name));
    }

written_elsewhere : (known : Known) (piece : List ℕ) → piece_value known piece ≡ Err UnknownName → (other : Known) × (fault_of other ≡ None) × IsWritten other piece
written_elsewhere known piece e =
    let (shape, is) = shaped_before known piece UnknownName not_unknown e in
    let lost = of_first UnknownName (who_in (names_in_domain known) shape) (λ who. refuse_idle (ace_for shape who))
    (λ who. effect_fault (ace_for shape who) UnknownName unknown_not_idle) is in
    let there = who_somewhere known (has shape.flags identifier_group) shape.fields.who lost in
    let ace = ace_for shape there.who in
    (there.known, there.faultless, (ace, ace_of_parts there.known piece ace (record { shape = shape; who = there.who; who_is = there.who_is; made = refl })))

-- ---- the laws

-- what is written has no fault but that it has no effect
not_written : (known : Known) (piece : List ℕ) (fault : PieceFault) → fault ≢ InheritOnly → piece_value known piece ≡ Err fault → ¬ IsWritten known piece
not_written known piece fault apart e (ace, written) = effect_fault ace fault apart (sym (value_of_written known piece ace written) ∙ e)

-- what is not written has another fault
by_fault : (known : Known) (piece : List ℕ) → ¬ IsWritten known piece → (fault : PieceFault) × (piece_value known piece ≡ Err fault)
by_fault known piece none = go (piece_value known piece) refl
  where
    go : (r : Result Nfsace4 PieceFault) → piece_value known piece ≡ r → (fault : PieceFault) × (piece_value known piece ≡ Err fault)
    go (Ok ace) e = absurd (none (ace, ace_of_parts known piece ace (parts_of (names_in_domain known) piece ace e).0))
    go (Err fault) e = (fault, e)

pub no_shape : (known : Known) (piece : List ℕ) → (piece_value known piece ≡ Err Syntax) ↔ HasNoShape piece
no_shape known piece = (λ e other. not_written other piece Syntax not_idle (misshapen_anywhere known other piece e), back)
  where
    of_fault : (fault : PieceFault) → piece_value known piece ≡ Err fault → HasNoShape piece → piece_value known piece ≡ Err Syntax
    of_fault Syntax e none = e
    of_fault UnknownName e none = let elsewhere = written_elsewhere known piece e in absurd (none elsewhere.0 elsewhere.2)
    of_fault InheritOnly e none = let idle = idle_written known piece e in absurd (none known (idle.0, idle.1))

    back : HasNoShape piece → piece_value known piece ≡ Err Syntax
    back none = let fault = by_fault known piece (none known) in of_fault fault.0 fault.1 none

pub unknown_name : (known : Known) (piece : List ℕ) → (piece_value known piece ≡ Err UnknownName) ↔ HasUnknownName known piece
unknown_name known piece = (λ e. (not_written known piece UnknownName unknown_not_idle e, written_elsewhere known piece e), back)
  where
    of_fault : (fault : PieceFault) → piece_value known piece ≡ Err fault → HasUnknownName known piece → piece_value known piece ≡ Err UnknownName
    of_fault UnknownName e unknown = e
    of_fault Syntax e (none, (other, faultless, written)) = absurd (not_written other piece Syntax not_idle (misshapen_anywhere known other piece e) written)
    of_fault InheritOnly e (none, elsewhere) = let idle = idle_written known piece e in absurd (none (idle.0, idle.1))

    back : HasUnknownName known piece → piece_value known piece ≡ Err UnknownName
    back unknown = let fault = by_fault known piece unknown.0 in of_fault fault.0 fault.1 unknown

pub no_effect : (known : Known) (piece : List ℕ) → (piece_value known piece ≡ Err InheritOnly) ↔ HasNoEffect known piece
no_effect known piece = (idle_written known piece, back)
  where
    back : HasNoEffect known piece → piece_value known piece ≡ Err InheritOnly
    back (ace, written, idle) = value_of_written known piece ace written ∙ ap (λ b. cond b (Err InheritOnly) (Ok ace)) idle
