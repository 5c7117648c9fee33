-- What entries mean by the names of a directory, each alone or in the directory's domain.
use Rattle.std.specs.Prelude.{ℕ, List, [], ◌∷◌, ◌&&◌, Option, Some, None, Result}
use Rattle.std.specs.Prelude.{if◌then◌else◌, bytes_eq}
use Rattle.acl_names.specs.Bytes.{at_sign}
use Rattle.acl_names.specs.Directory.{Known, uid_of, gid_of}
use Rattle.acl_names.specs.Ids.{Written, Name, written_id, has_domain_shape, has_name_shape}
use Rattle.acl_names.specs.Names.{Names}
use Rattle.acl_names.specs.Pieces.{parts}
use Rattle.acl_nfs4.specs.Ace.{Nfsace4}
use Rattle.acl_nfs4.specs.NamedAces.{ace_by}
use Rattle.acl_nfs4.specs.declared.reading.PieceFault.{PieceFault}

-- what a text with these parts between each '@' writes: an id, or a name, alone or in a domain,
-- whether or not anyone has it
abbrev pub written_in_parts : List ℕ → List (List ℕ) → Option Written
written_in_parts text (id ∷ []) = written_id id
written_in_parts text (name ∷ domain ∷ []) =
    if has_name_shape name && has_domain_shape domain then Some (Name text) else None
written_in_parts text _ = None

abbrev pub written_who : List ℕ → Option Written
written_who text = written_in_parts text (parts at_sign text)

-- the id of a name with these parts, which is alone or in this domain
abbrev pub id_of_parts : (List ℕ → Option ℕ) → List ℕ → List (List ℕ) → Option ℕ
id_of_parts id_of here (name ∷ []) = id_of name
id_of_parts id_of here (name ∷ domain ∷ []) = if bytes_eq domain here then id_of name else None
id_of_parts id_of here _ = None

abbrev pub id_in : (List ℕ → Option ℕ) → List ℕ → List ℕ → Option ℕ
id_in id_of here text = id_of_parts id_of here (parts at_sign text)

-- the names of a directory, alone and in its domain; a name in another domain is nobody's
abbrev pub names_in_domain : Known → Names
names_in_domain known = record {
  written = written_who;
  uid = id_in (uid_of known) known.domain;
  gid = id_in (gid_of known) known.domain;
}

-- the entry that a piece of a text means, or its fault
abbrev pub piece_value : Known → List ℕ → Result Nfsace4 PieceFault
piece_value known = ace_by (names_in_domain known)
