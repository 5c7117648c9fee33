-- Who may do what with a file, line by line.
use Rattle.std.specs.Prelude.{ℕ, ◌==◌, ◌&&◌, Bool, List, [], ◌∷◌, ◌++◌, Option, Some, None}
use Rattle.std.specs.Prelude.{codes, if◌then◌else◌}
use Rattle.std.specs.List.{flat_map}
use Rattle.acl_names.specs.Requester.{Identity}
use Rattle.acl_access.specs.Deletes.{deletes}
use Rattle.acl_access.specs.Letters.{effective, granted_mask, mask_text}
use Rattle.acl_access.specs.Reach.{reaches}
use Rattle.acl_access.specs.Who.{may_line, written_line}
use Rattle.acl_posix.specs.PermsText.{perms_text}
use Rattle.acl_bridge.specs.Files.{File, may}
use Rattle.acl_bridge.specs.declared.any_acl.AnyAcl.{AnyAcl}
use Rattle.acl_bridge.specs.declared.any_acl.AnyAcl.TheVariants.{Posix, Nfs4}
use Rattle.acl_nfs4.specs.Mask.{mask_of}
use Rattle.acl_people.specs.Person.{Person}
use Rattle.acl_listing_queries.specs.Via.{nfs4_via, posix_via}

-- what is asked for: the letters r, w and x, these as the number of their permissions, all fourteen
-- letters of a mask, or who may do all of this at once
pub data Asked : Type 0 where
  ThreeLetters : Asked
  Numbers : Asked
  AllLetters : Asked
  Request : ℕ → Asked

-- who may do all of these permissions, or if there are none the three letters
abbrev pub asked_by : Option ℕ → Asked
asked_by None = ThreeLetters
asked_by (Some perms) = Request perms

-- `LETTERS NAME PATH`, of somebody who has a letter, of letters that are written so
abbrev pub letters_line_if : (ℕ → List ℕ) → List ℕ → List ℕ → ℕ → List ℕ
letters_line_if text path name letters =
    if letters == 0 then [] else written_line text path name letters

-- what is reported for a name and its letters, of letters that are granted so: those that a file
-- grants who reaches it on this way
abbrev pub person_reported : (List ℕ → ℕ → List ℕ) → (File → Identity → ℕ) → List File → File
    → Person
    → List ℕ
person_reported report granted way file person =
    report person.name (if reaches way person.who then granted file person.who else 0)

-- the line of letters that are written so
abbrev pub person_line : (ℕ → List ℕ) → (File → Identity → ℕ) → List File → List ℕ → File → Person
    → List ℕ
person_line text granted way path file person =
    person_reported (letters_line_if text path) granted way file person

-- the number alone
abbrev pub number_reported : List ℕ → ℕ → List ℕ
number_reported name letters = letters ∷ []

-- `NAME PATH`, of somebody to whom a check grants the permissions, and who reaches it
abbrev pub person_line_if : List File → List ℕ → File → ℕ → Person → List ℕ
person_line_if way path file perms person =
    if may file person.who perms && reaches way person.who then may_line path person.name else []

-- of all of these people: their letters, or those who are granted the permissions
abbrev pub who_text : List Person → Asked → List File → List ℕ → File → List ℕ
who_text persons ThreeLetters way path file =
    flat_map (person_line perms_text effective way path file) persons
who_text persons Numbers way path file =
    flat_map (person_reported number_reported effective way file) persons
who_text persons AllLetters way path file =
    flat_map (person_line mask_text granted_mask way path file) persons
who_text persons (Request perms) way path file =
    flat_map (person_line_if way path file perms) persons

-- the permissions that are asked for at once, if they are
abbrev pub perms_asked : Asked → Option ℕ
perms_asked (Request perms) = Some perms
perms_asked _ = None

-- the bits of a mask that are granted of what is asked
abbrev pub bits_granted : Asked → File → Identity → ℕ
bits_granted (Request perms) file who = mask_of perms
bits_granted AllLetters file who = granted_mask file who
bits_granted _ file who = mask_of (effective file who)

-- the entries that decide so
abbrev pub via_text : Asked → File → Identity → List ℕ
via_text asked file who = by file.list
  where
    by : AnyAcl → List ℕ
    by (Posix acl) = posix_via acl file.owners who (perms_asked asked)
    by (Nfs4 aces) = nfs4_via aces file.owners who (bits_granted asked file who)

-- what is reported for somebody, with the entries that decide so before the path
abbrev pub person_via : Asked → List File → List ℕ → File → Person → List ℕ
person_via asked way path file person = who_text (person ∷ []) asked way
    (via_text asked file person.who ++ codes " " ++ path) file

abbrev pub who_via_text : List Person → Asked → List File → List ℕ → File → List ℕ
who_via_text persons asked way path file = flat_map (person_via asked way path file) persons

-- `NAME PATH`, of somebody who may delete the file from its folder, with the sticky bit or not, and
-- who reaches it by this folder and those above
abbrev pub deletion_line : Bool → File → List File → List ℕ → File → Person → List ℕ
deletion_line sticky folder above path file person =
    if deletes sticky folder file person.who && reaches (folder ∷ above) person.who
    then may_line path person.name else []

abbrev pub deletion_text : List Person → Bool → File → List File → List ℕ → File → List ℕ
deletion_text persons sticky folder above path file =
    flat_map (deletion_line sticky folder above path file) persons
