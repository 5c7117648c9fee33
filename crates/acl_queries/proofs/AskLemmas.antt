-- Words ask what their fields give.
use Rattle.std.proofs.Common.{◌≡◌, [], ◌∷◌, ◌++◌, ℕ, List, Option, Some, None, Ok, Bool, true, false, ap, codes, inl, inr, map, refl, subst, sym, ◌↔◌}
use Rattle.std.proofs.lemmas.Slice.Eq.{bytes_eq-Decides}
use Rattle.clap.specs.Words.{Row, Text, first_of, matches_of}
use Rattle.acl_names.specs.Bytes.{comma}
use Rattle.acl_names.specs.Ids.{decimal_value}
use Rattle.acl_names.specs.ListText.{PiecesSay}
use Rattle.acl_names.specs.Names.{names_of}
use Rattle.acl_names.specs.Pieces.{parts, pieces}
use Rattle.acl_names.specs.Steps.{◌>>=◌, map_fault, or_fault}
use Rattle.acl_names.proofs.ReadListLemmas.{at_most_read-all, at_most_read-said}
use Rattle.acl_names.proofs.StepLemmas.{bind_ok, given, map_fault-ok}
use Rattle.acl_names.specs.declared.limits.TheConstants.{MAX_GROUPS_OF_USER}
use Rattle.acl_posix.proofs.AclTextLemmas.{acl_of-ok, acl_of-spelt}
use Rattle.acl_posix.specs.AclText as posix
use Rattle.acl_posix.specs.Entry.{EntryValue}
use Rattle.acl_posix.specs.declared.acl_text.AclFault.TheVariants as cause
use Rattle.acl_queries.specs.AclText.{acl_of, nobody}
use Rattle.acl_queries.specs.Ask.{Ask, GiveAcl, GiveFlag, GiveGids, GiveId, GivePerms, WriteIds}
use Rattle.acl_cli.specs.Fields.{flag_in, flag_of, gids_in, gids_of, id_in, id_of, perms_in, perms_of}
use Rattle.acl_queries.specs.Asked.{Asked, acl_in, asked_in}
use Rattle.acl_cli.specs.CommandLine.{Takes}
use Rattle.acl_cli.proofs.FieldLemmas.{located-of, located-ok}
use Rattle.acl_queries.specs.DecideLine.{decide_line}
use Rattle.acl_cli.specs.declared.field_fault.FieldFault.TheVariants.{Acl, BadId, BadPerms, TooMany}

-- Gids.

Say-Write : (texts : List Text) (ids : List ℕ) → WriteIds texts ids → PiecesSay id_of texts ids
Say-Write [] [] written = refl
Say-Write [] (id ∷ ids) written = cc
Say-Write (text ∷ texts) [] written = cc
Say-Write (text ∷ texts) (id ∷ ids) written =
    let first : decimal_value text ≡ Some id = cc in
    let more : map decimal_value texts ≡ map Some ids = cc in
    rw (first, Say-Write texts ids more) refl

WriteIds-Say : (texts : List Text) (ids : List ℕ) → PiecesSay id_of texts ids → WriteIds texts ids
WriteIds-Say [] [] said = refl
WriteIds-Say [] (id ∷ ids) said = cc
WriteIds-Say (text ∷ texts) [] said = cc
WriteIds-Say (text ∷ texts) (id ∷ ids) said =
    let is : id_of text ≡ Ok id = cc in
    let more : map id_of texts ≡ map Ok ids = cc in
    let first = given BadId (decimal_value text) id is in
    rw (first, WriteIds-Say texts ids more) refl

-- Fields.

module _ (words : List Text) where
  abbrev rows : List Row
  rows = matches_of decide_line words

  -- a field that is given reads
  id_in-given : (name : Text) (id : ℕ) → GiveId words name id → id_in name rows ≡ Ok id
  id_in-given name id (text, given, is) = rw (given, is) refl

  gids_in-given : (gids : List ℕ) → GiveGids words gids → gids_in rows ≡ Ok gids
  gids_in-given gids (inl (given, none)) = rw (given, none) refl
  gids_in-given gids (inr (text, given, written, within)) =
      located-of (codes "--" ++ codes "gids") (first_of (codes "gids") rows) (gids_of (first_of (codes "gids") rows)) gids (rw given (at_most_read-all id_of TooMany MAX_GROUPS_OF_USER (parts comma text) gids (Say-Write _ _ written) within))

  perms_in-given : (perms : ℕ) → GivePerms words perms → perms_in rows ≡ Ok perms
  perms_in-given perms (text, given, is) = rw (given, is) refl

  acl_in-given : (acl : List EntryValue) → GiveAcl words acl → acl_in rows ≡ Ok acl
  acl_in-given acl (text, given, spells) =
      located-of (codes "TEXT") (first_of (codes "text") rows) (or_fault (Acl cause.BadAcl) (first_of (codes "text") rows) >>= acl_of) acl
      (rw given (ap (map_fault (λ fault. Acl fault)) (acl_of-spelt (names_of nobody) text acl spells)))

  -- a field that reads is given
  GiveId-read : (name : Text) (id : ℕ) → id_in name rows ≡ Ok id → GiveId words name id
  GiveId-read name id is =
      let text = bind_ok (or_fault BadId (first_of name rows)) id_of id (located-ok (codes "--" ++ name) (first_of name rows) (or_fault BadId (first_of name rows) >>= id_of) id is) in
      (text.0, given BadId _ _ text.1, given BadId _ _ text.2)

  GiveGids-from : (gids : List ℕ) (text : Option Text) → first_of (codes "gids") rows ≡ text → gids_of text ≡ Ok gids → GiveGids words gids
  GiveGids-from gids None given is = inl (given, cc)
  GiveGids-from gids (Some text) given is =
      let said = at_most_read-said id_of TooMany MAX_GROUPS_OF_USER (parts comma text) gids is in
      inr (text, given, WriteIds-Say _ _ said.0, said.1)

  GivePerms-read : (perms : ℕ) → perms_in rows ≡ Ok perms → GivePerms words perms
  GivePerms-read perms is =
      let text = bind_ok (or_fault BadPerms (first_of (codes "perms") rows)) perms_of perms (located-ok (codes "--" ++ codes "perms") (first_of (codes "perms") rows) (or_fault BadPerms (first_of (codes "perms") rows) >>= perms_of) perms is) in
      (text.0, given BadPerms _ _ text.1, given BadPerms _ _ text.2)

  GiveAcl-read : (acl : List EntryValue) → acl_in rows ≡ Ok acl → GiveAcl words acl
  GiveAcl-read acl is =
      let text = bind_ok (or_fault (Acl cause.BadAcl) (first_of (codes "text") rows)) acl_of acl (located-ok (codes "TEXT") (first_of (codes "text") rows) (or_fault (Acl cause.BadAcl) (first_of (codes "text") rows) >>= acl_of) acl is) in
      let spelt = map_fault-ok (λ fault. Acl fault) (posix.acl_of nobody (pieces text.0)) acl text.2 in
      (text.0, given (Acl cause.BadAcl) _ _ text.1, acl_of-ok (names_of nobody) text.0 acl spelt)

  -- a flag is set exactly if it is given
  flag_of-given : (value : Option Text) → (flag_of value ≡ true) ↔ (value ≡ Some (codes "true"))
  flag_of-given None = (λ set. cc, λ given. cc)
  flag_of-given (Some text) =
      let decides = bytes_eq-Decides text (codes "true") in
      (λ set. ap Some (decides.0 set), λ given. decides.1 (same_text given))
    where
      same_text : Some text ≡ Some (codes "true") → text ≡ codes "true"
      same_text given = cc

  same_test : (s t : Bool) → (s ≡ true → t ≡ true) → (t ≡ true → s ≡ true) → s ≡ t
  same_test true t to from = sym (to refl)
  same_test false true to from = from refl
  same_test false false to from = refl

  flag_in-given : (name : Text) (given : Bool) → GiveFlag words name given → flag_in name rows ≡ given
  flag_in-given name given gives = same_test _ _ (λ set. gives.1 ((flag_of-given _).0 set)) (λ is. (flag_of-given _).1 (gives.0 is))

-- Words.

pub asked_in-Ask : (words : List Text) (asked : Asked) → Ask words asked → Takes decide_line words × (asked_in (matches_of decide_line words) ≡ Ok asked)
unfolding asked_in
asked_in-Ask words asked ask = (
  ask.taken,
  rw (
    id_in-given words _ _ ask.owner,
    id_in-given words _ _ ask.group,
    id_in-given words _ _ ask.uid,
    gids_in-given words _ ask.gids,
    perms_in-given words _ ask.request,
    acl_in-given words _ ask.acl,
    flag_in-given words _ _ ask.nfs4,
  ) refl,
)

pub Ask-asked_in : (words : List Text) (asked : Asked) → Takes decide_line words → asked_in (matches_of decide_line words) ≡ Ok asked → Ask words asked
unfolding asked_in
Ask-asked_in words asked taken is =
    let owner = bind_ok (id_in (codes "owner") (rows words)) _ asked is in
    let group = bind_ok (id_in (codes "group") (rows words)) _ asked owner.2 in
    let uid = bind_ok (id_in (codes "uid") (rows words)) _ asked group.2 in
    let gids = bind_ok (gids_in (rows words)) _ asked uid.2 in
    let perms = bind_ok (perms_in (rows words)) _ asked gids.2 in
    let acl = bind_ok (acl_in (rows words)) _ asked perms.2 in
    let nfs4 = flag_in (codes "nfs4") (rows words) in
    let all : record { owner = owner.0; group = group.0; requester = record { uid = uid.0; gids = gids.0 }; request = perms.0; acl = acl.0; nfs4 = nfs4 } ≡ asked = cc in
    subst (Ask words) all (record {
      taken = taken;
      owner = GiveId-read words _ _ owner.1;
      group = GiveId-read words _ _ group.1;
      uid = GiveId-read words _ _ uid.1;
      gids = GiveGids-from words _ _ refl (located-ok (codes "--" ++ codes "gids") (first_of (codes "gids") (rows words)) (gids_of (first_of (codes "gids") (rows words))) gids.0 gids.1);
      request = GivePerms-read words _ perms.1;
      acl = GiveAcl-read words _ acl.1;
      nfs4 = flag_of-given words (first_of (codes "nfs4") (rows words));
    })
