-- What is printed of a list is read again.
use Rattle.std.proofs.Common.{◌≡◌, List, Ok, ap}
use Rattle.acl_names.specs.Directory.{Known, NamesReadBack}
use Rattle.acl_names.specs.Names.{names_of}
use Rattle.acl_names.specs.Steps.{map_fault}
use Rattle.acl_nfs4.proofs.RoundTrip.{aces_spelt}
use Rattle.acl_nfs4.specs.Ace.{Nfsace4}
use Rattle.acl_nfs4.specs.Acl.{AreAces}
use Rattle.acl_nfs4.specs.PrintedText.{aces_text}
use Rattle.acl_posix.proofs.AclTextLemmas.{acl_of-again}
use Rattle.acl_posix.proofs.RoundTrip.{text_spells}
use Rattle.acl_posix.specs.Canonical.{IsAcl}
use Rattle.acl_posix.specs.Entry.{EntryValue}
use Rattle.acl_lang.specs.Fields.{acl_of, aces_of}
use Rattle.acl_lang.specs.Printed.{access_text}
use Rattle.acl_lang.specs.ReadAgain.{NameIds, NameIdsOfAces}
use Rattle.acl_lang.specs.Refusals.{acl_line_fault}
use Rattle.acl_lang.proofs.ListLemmas.{aces_of-spelt}

pub acl_again : (known : Known) (acl : List EntryValue) → NamesReadBack known → IsAcl acl → NameIds acl → acl_of known (access_text known acl) ≡ Ok acl
acl_again known acl names is ids =
    ap (map_fault acl_line_fault) (acl_of-again (names_of known) (access_text known acl) acl is (text_spells known _ acl names ids is.permissions is.within))

pub aces_again : (known : Known) (aces : List Nfsace4) → NamesReadBack known → AreAces aces → NameIdsOfAces aces → aces_of known (aces_text known aces) ≡ Ok aces
aces_again known aces names are ids = aces_of-spelt known (aces_text known aces) aces (aces_spelt known names aces are ids)
