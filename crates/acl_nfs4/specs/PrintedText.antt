-- How lists of entries are printed.
use Rattle.std.specs.Prelude.{ℕ, List, [], ◌∷◌, ◌++◌, Option, Some, None, codes, decimal, map}
use Rattle.std.specs.List.{All, flat_map, join_with_byte}
use Rattle.acl_names.specs.Bytes.{newline, colon, comma, at_sign}
use Rattle.acl_names.specs.Directory.{Known, user_name, group_name}
use Rattle.acl_names.specs.Letters.{letters_text}
use Rattle.acl_nfs4.specs.Ace.{Nfsace4}
use Rattle.acl_nfs4.specs.Letters.{flag_table, mask_table}
use Rattle.acl_nfs4.specs.Who.{HasId}
use Rattle.acl_nfs4.specs.declared.ace.AceType.{AceType}
use Rattle.acl_nfs4.specs.declared.ace.AceType.TheVariants.{Allow, Deny, Audit, Alarm}
use Rattle.acl_nfs4.specs.declared.who.Who.{Who}
use Rattle.acl_nfs4.specs.declared.who.Who.TheVariants.{Owner, Group, Everyone, User, NamedGroup}

abbrev pub type_text : AceType → List ℕ
type_text Allow = codes "A"
type_text Deny = codes "D"
type_text Audit = codes "U"
type_text Alarm = codes "L"

-- `name@domain` if there is a name, else the decimal
abbrev pub named_text : Option (List ℕ) → List ℕ → ℕ → List ℕ
named_text (Some name) domain id = name ++ at_sign ∷ domain
named_text None domain id = decimal id

-- a special word, or a user or a group as its id is written
abbrev pub who_by : (ℕ → List ℕ) → (ℕ → List ℕ) → Who → List ℕ
who_by user group Owner = codes "OWNER@"
who_by user group Group = codes "GROUP@"
who_by user group Everyone = codes "EVERYONE@"
who_by user group (User uid) = user uid
who_by user group (NamedGroup gid) = group gid

abbrev pub who_text : Known → Who → List ℕ
who_text known = who_by (λ uid. named_text (user_name known uid) known.domain uid)
    (λ gid. named_text (group_name known gid) known.domain gid)

-- `type:flags:`
abbrev pub front_text : Nfsace4 → List ℕ
front_text ace = type_text ace.kind ++ colon ∷ (letters_text flag_table ace.flags ++ colon ∷ [])

-- `type:flags:who:letters`, with the who as it is written
abbrev pub fields_text : List ℕ → Nfsace4 → List ℕ
fields_text who ace = join_with_byte colon
    (type_text ace.kind ∷ letters_text flag_table ace.flags ∷ who ∷ letters_text mask_table ace.mask
    ∷ [])

abbrev pub ace_text : Known → Nfsace4 → List ℕ
ace_text known ace = fields_text (who_text known ace.who) ace

-- one entry per line
abbrev pub line_text : Known → Nfsace4 → List ℕ
line_text known ace = ace_text known ace ++ newline ∷ []

abbrev pub aces_text : Known → List Nfsace4 → List ℕ
aces_text known = flat_map (line_text known)

-- the short form: ids are decimals, which are read as themselves whatever names there are
abbrev pub short_who : Who → List ℕ
short_who = who_by decimal decimal

abbrev pub short_ace : Nfsace4 → List ℕ
short_ace ace = fields_text (short_who ace.who) ace

-- all entries on one line, a comma between each two
abbrev pub short_text : List Nfsace4 → List ℕ
short_text aces = join_with_byte comma (map short_ace aces)

-- the ids that the entries name are within their range
abbrev pub HaveIds : List Nfsace4 → Type 0
HaveIds aces = All (λ ace. HasId ace.who) aces
