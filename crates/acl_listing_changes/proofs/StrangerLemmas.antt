-- Whether a block names an id without an account, by what is known of it.
use Rattle.std.proofs.Common.{◌≡◌, ℕ, false, List, None, Some, Err, ap, is_some, subst, sym}
use Rattle.acl_listings.specs.Block.{file_by}
use Rattle.acl_listings.specs.Lines.{after_line}
use Rattle.acl_listings.specs.declared.fault.BlockFault.{BlockFault}
use Rattle.acl_people.specs.Host.{Host, names_of_host}
use Rattle.acl_reports.specs.Strangers.{file_stranger, if_read, stranger_in}
use Rattle.acl_listing_changes.specs.ChangeSteps.{IsKnown, found_by}
use Rattle.acl_listing_changes.specs.Changes.{Wording}
use Rattle.acl_listing_changes.specs.declared.between.known.Known.{Known}
use Rattle.acl_listing_changes.specs.declared.between.reporter.Found.{Found}

-- one that doesn't read names none
pub unread_stranger : (host : Host) (text : List ℕ) (fault : BlockFault) → file_by (names_of_host host) text ≡ Err fault → false ≡ is_some (stranger_in host text)
unread_stranger host text fault refused = sym (ap (λ read. is_some (if_read (λ file. file_stranger host file (after_line text)) read)) refused)

-- what is found in one of which something is known
pub known_found : (wording : Wording) (old text : List ℕ) (known : Known) (found : Found) → IsKnown wording old known → old ≡ text → found_by known ≡ Some found
    → (wording.fault text ≡ None) × (found.strange ≡ is_some (wording.stranger text))
known_found wording old text known found is same found_is = subst (λ text. IsKnown wording text known) same is found found_is
