-- What is inherited from the translation of a default list.
use Rattle.std.proofs.Common.{◌≡◌, ℕ, refl, sym, ap, ◌∙◌, subst, List, [], ◌∷◌, ap₂, Some, map}
use Rattle.std.specs.List.{All, cons_option}
use Rattle.std.proofs.lemmas.List.Elements.{All-head, All-tail}
use Rattle.acl_names.specs.Bits.{has, without}
use Rattle.acl_posix.specs.Entry.{EntryValue}
use Rattle.acl_nfs4.specs.Ace.{Nfsace4}
use Rattle.acl_nfs4.specs.Inheritance.{inherited_list, inherited_entry}
use Rattle.acl_nfs4.specs.Who.{flags_of_who}
use Rattle.acl_nfs4.specs.declared.ace.AceType.{AceType}
use Rattle.acl_nfs4.specs.declared.inheritance.Kind.{Kind}
use Rattle.acl_nfs4.specs.declared.inheritance.Kind.TheVariants.{File, Dir}
use Rattle.acl_nfs4.specs.declared.who.Who.{Who}
use Rattle.acl_bridge.specs.Translation.{translation, default_translation, with_flags, only_inheriting_flags, inheriting_flags}
use Rattle.acl_bridge.proofs.PassLemmas.{All-translation, bare}
use Rattle.acl_nfs4.proofs.AceLemmas.{by_flags_of_who}

-- an entry has no flag but what its who asks for
abbrev IsPlain : Nfsace4 → Type 0
IsPlain ace = ace.flags ≡ flags_of_who ace.who

AllPlain-translation : (acl : List EntryValue) → All IsPlain (translation acl)
AllPlain-translation acl = All-translation (λ who. Unit {0}) IsPlain (λ kind who mask any. refl) acl (λ k d inside. tt)

-- what a new file and a new directory take over from an entry handed down
file_takes : (kind : AceType) (who : Who) (mask : ℕ)
    → inherited_entry File (with_flags only_inheriting_flags (bare kind who mask))
    ≡ Some (bare kind who mask)
unfolding has without
file_takes kind who mask =
    by_flags_of_who (λ flags. let ace : Nfsace4 = record { kind = kind; flags = flags; who = who; mask = mask } in inherited_entry File (with_flags only_inheriting_flags ace) ≡ Some ace) refl refl who

directory_takes : (kind : AceType) (who : Who) (mask : ℕ)
    → inherited_entry Dir (with_flags only_inheriting_flags (bare kind who mask))
    ≡ Some (with_flags inheriting_flags (bare kind who mask))
unfolding has without
directory_takes kind who mask =
    by_flags_of_who (λ flags. let ace : Nfsace4 = record {
      kind = kind;
      flags = flags;
      who = who;
      mask =
          mask;
    } in inherited_entry Dir (with_flags only_inheriting_flags ace) ≡ Some
    (with_flags inheriting_flags ace)) refl refl who

inherited_list-handed_down : (kind : Kind) (taken : Nfsace4 → Nfsace4)
    → ((k : AceType) (who : Who) (mask : ℕ)
    → inherited_entry kind (with_flags only_inheriting_flags (bare k who mask))
    ≡ Some (taken (bare k who mask)))
    → (aces : List Nfsace4) → All IsPlain aces → inherited_list kind (map (with_flags only_inheriting_flags) aces) ≡ map taken aces
inherited_list-handed_down kind taken takes [] plain = refl
inherited_list-handed_down kind taken takes (ace ∷ aces) plain =
    ap₂ cons_option
    (let P = λ (flags : ℕ). inherited_entry kind (with_flags only_inheriting_flags (record ace { flags = flags })) ≡ Some (taken (record ace { flags = flags })) in
    subst P (sym (All-head IsPlain ace aces plain)) (takes ace.kind ace.who ace.mask))
    (inherited_list-handed_down kind taken takes aces (All-tail IsPlain ace aces plain))

map-same : (aces : List Nfsace4) → map (λ ace. ace) aces ≡ aces
map-same [] = refl
map-same (ace ∷ aces) = ap (λ rest. ace ∷ rest) (map-same aces)

-- a file inherits the translation
pub inherited_by_file : (acl : List EntryValue) → inherited_list File (default_translation acl) ≡ translation acl
inherited_by_file acl =
    inherited_list-handed_down File (λ ace. ace) file_takes (translation acl) (AllPlain-translation acl) ∙ map-same (translation acl)

-- a directory inherits it as its own, and hands it on
pub inherited_by_directory : (acl : List EntryValue) → inherited_list Dir (default_translation acl) ≡ map (with_flags inheriting_flags) (translation acl)
inherited_by_directory acl =
    inherited_list-handed_down Dir (with_flags inheriting_flags) directory_takes (translation acl) (AllPlain-translation acl)
