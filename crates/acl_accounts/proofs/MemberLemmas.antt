-- The members that a field names.
use Rattle.std.proofs.Common.{◌≡◌, ◌∙◌, ℕ, Bool, true, false, cond, ◌==◌, ◌||◌, nat_lt, List, [], ◌∷◌, ◌++◌, length, map, filter, refl, sym, ap, subst, inl, inr, arith, append_assoc, eq-eqb}
use Rattle.std.specs.List.{All, AllByRecursion, join_with_byte, onto_first}
use Rattle.std.proofs.lemmas.Bool.{lt-ltb, or_cases}
use Rattle.std.proofs.lemmas.List.{append-nil}
use Rattle.std.proofs.lemmas.List.Elements.{All-nil, All-cons, All-head, All-tail, All-append, All-weaker}
use Rattle.std.proofs.lemmas.List.Splits.{join_with_byte-slice_split, slice_split_at, slice_split_none, slice_split-cons_yes, slice_split-cons_no}
use Rattle.acl_names.specs.Bytes.{comma}
use Rattle.acl_names.specs.Pieces.{parts}
use Rattle.acl_accounts.specs.Rows.{members_of, members_of_parts}
use Rattle.acl_accounts.specs.Shapes.{EndsMember, IsGap, IsMember, Lacks, NamesMembers, StandsBehindSpace}
use Rattle.acl_accounts.specs.Space.{is_space, skip_space}
use Rattle.acl_accounts.proofs.FieldLemmas.{parts_apart}
use Rattle.acl_accounts.proofs.SpaceLemmas.{space_skipped, space_stands}

abbrev is_comma : ℕ → Bool
is_comma byte = byte == comma

abbrev InGap : ℕ → Type 0
InGap byte = (is_space byte || is_comma byte) ≡ true

abbrev filled : List (List ℕ) → List (List ℕ)
filled names = filter (λ name. nat_lt 0 (length name)) names

onto_space : (byte : ℕ) (texts : List (List ℕ)) → is_space byte ≡ true → members_of_parts (onto_first byte texts) ≡ members_of_parts texts
onto_space byte [] is = ap (λ b. filled (cond b [] (byte ∷ []) ∷ [])) is
onto_space byte (text ∷ texts) is = ap (λ b. filled (cond b (skip_space text) (byte ∷ text) ∷ map skip_space texts)) is

-- a byte between members changes nothing
behind_byte : (byte : ℕ) (bytes : List ℕ) → InGap byte → members_of (byte ∷ bytes) ≡ members_of bytes
behind_byte byte bytes is = by_comma (is_comma byte) refl
  where
    by_comma : (b : Bool) → is_comma byte ≡ b → members_of (byte ∷ bytes) ≡ members_of bytes
    by_comma true comma_is = ap members_of_parts (slice_split-cons_yes is_comma byte bytes comma_is)
    by_comma false other =
        ap members_of_parts (slice_split-cons_no is_comma byte bytes other)
        ∙ onto_space byte (parts comma bytes) (elim (or_cases (is_space byte) (is_comma byte) is) [ inl white ↦ white | inr comma_is ↦ cc ])

behind_gap : (gap rest : List ℕ) → IsGap gap → members_of (gap ++ rest) ≡ members_of rest
behind_gap [] rest is = refl
behind_gap (byte ∷ gap) rest is = behind_byte byte (gap ++ rest) (All-head InGap byte gap is) ∙ behind_gap gap rest (All-tail InGap byte gap is)

-- a member is behind no white space
itself : (name : List ℕ) → IsMember name → skip_space name ≡ name
itself name member = space_skipped name name (record { front = []; text_is = refl; front_is = All-nil (λ byte. is_space byte ≡ true); begins = member.begins })

kept : (name : List ℕ) (texts : List (List ℕ)) → IsMember name → members_of_parts (name ∷ texts) ≡ name ∷ members_of_parts texts
kept name texts member =
    ap (λ text. filled (text ∷ map skip_space texts)) (itself name member)
    ∙ ap (λ b. cond b (name ∷ members_of_parts texts) (members_of_parts texts)) (lt-ltb 0 (length name) member.filled)

-- the first member, and those behind it
first_member : (name rest : List ℕ) → IsMember name → EndsMember rest → members_of (name ++ rest) ≡ name ∷ members_of rest
first_member name [] member ends =
    ap members_of (append-nil name) ∙ ap members_of_parts (slice_split_none is_comma name member.apart) ∙ kept name [] member
first_member name (byte ∷ rest) member ends =
    let is : byte ≡ comma = elim ends [ inl none ↦ cc | inr is ↦ is ] in
    let comma_is : is_comma byte ≡ true = eq-eqb byte comma is in
    ap members_of_parts (slice_split_at is_comma name byte rest member.apart comma_is)
    ∙ kept name (parts comma rest) member
    ∙ ap (λ names. name ∷ names) (sym (ap members_of_parts (slice_split-cons_yes is_comma byte rest comma_is)))

pub members_read : (field : List ℕ) (names : List (List ℕ)) → NamesMembers field names → members_of field ≡ names
members_read field [] gap = ap members_of (sym (append-nil field)) ∙ behind_gap field [] gap
members_read field (name ∷ names) (gap, rest, is, between, member, ends, more) =
    ap members_of is ∙ behind_gap gap (name ++ rest) between ∙ first_member name rest member ends
    ∙ ap (λ others. name ∷ others) (members_read rest names more)

-- ---- the way back

-- what stands behind a gap stands behind a longer one
more_gap : (gap rest : List ℕ) (names : List (List ℕ)) → IsGap gap → NamesMembers rest names → NamesMembers (gap ++ rest) names
more_gap gap rest [] between names = All-append InGap gap rest between names
more_gap gap rest (name ∷ names) between (own, behind, is, own_is, member, ends, more) =
    (gap ++ own, behind, ap (λ text. gap ++ text) is ∙ sym (append_assoc gap own (name ++ behind)), All-append InGap gap own between own_is, member, ends, more)

white_gap : (text : List ℕ) → All (λ byte. is_space byte ≡ true) text → IsGap text
white_gap text white = All-weaker (λ byte. is_space byte ≡ true) InGap (λ byte is. ap (λ b. b || is_comma byte) is) text white

lacks_behind : (front rest : List ℕ) → Lacks comma (front ++ rest) → Lacks comma rest
lacks_behind [] rest apart = apart
lacks_behind (byte ∷ front) rest apart = lacks_behind front rest (All-tail (λ other. is_comma other ≡ false) byte (front ++ rest) apart)

-- a text up to a comma names one member, or none
one_text : (text name rest : List ℕ) (names : List (List ℕ)) → StandsBehindSpace text name → Lacks comma text → EndsMember rest → NamesMembers rest names
    → NamesMembers (text ++ rest) (cond (nat_lt 0 (length name)) (name ∷ names) names)
one_text text [] rest names stands apart ends more =
    let gap : IsGap text = subst IsGap (sym (append-nil stands.front) ∙ sym stands.text_is) (white_gap stands.front stands.front_is) in
    more_gap text rest names gap more
one_text text (byte ∷ bytes) rest names stands apart ends more =
    let own : Lacks comma (byte ∷ bytes) = lacks_behind stands.front (byte ∷ bytes) (subst (Lacks comma) stands.text_is apart) in
    let is : text ++ rest ≡ stands.front ++ ((byte ∷ bytes) ++ rest) = ap (λ t. t ++ rest) stands.text_is ∙ append_assoc stands.front (byte ∷ bytes) rest in
    subst (λ b. NamesMembers (text ++ rest) (cond b ((byte ∷ bytes) ∷ names) names)) (sym (lt-ltb 0 (length (byte ∷ bytes)) (omega arith)))
    (stands.front, rest, is, white_gap stands.front stands.front_is, record { filled = omega arith; begins = stands.begins; apart = own }, ends, more)

texts_name : (texts : List (List ℕ)) → AllByRecursion (Lacks comma) texts → NamesMembers (join_with_byte comma texts) (members_of_parts texts)
texts_name [] apart = All-nil InGap
texts_name (text ∷ []) apart =
    subst (λ t. NamesMembers t (members_of_parts (text ∷ []))) (append-nil text)
    (one_text text (skip_space text) [] [] (space_stands text) apart.0 (inl refl) (All-nil InGap))
texts_name (text ∷ second ∷ texts) apart =
    let more = texts_name (second ∷ texts) apart.1 in
    let comma_is : InGap comma = refl in
    one_text text (skip_space text) (comma ∷ join_with_byte comma (second ∷ texts)) (members_of_parts (second ∷ texts)) (space_stands text) apart.0 (inr refl)
    (more_gap (comma ∷ []) (join_with_byte comma (second ∷ texts)) (members_of_parts (second ∷ texts)) (All-cons InGap comma [] comma_is (All-nil InGap)) more)

pub members_stand : (field : List ℕ) → NamesMembers field (members_of field)
members_stand field = subst (λ text. NamesMembers text (members_of field)) (join_with_byte-slice_split comma field) (texts_name (parts comma field) (parts_apart comma field))
