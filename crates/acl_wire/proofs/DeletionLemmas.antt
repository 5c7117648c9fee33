-- What was decided of the bits by which a deletion is.
use Rattle.std.proofs.Common.{◌≡◌, ◌∙◌, ◌^◌, ◌==◌, ◌&&◌, ◌||◌, ℕ, Bool, true, false, cond, not, List, Option, Some, None, Ok, refl, sym, ap, ap₂, unwrap_or}
use Rattle.std.proofs.lemmas.Bool.{eq-eqb, ne_eqb}
use Rattle.acl_access.specs.Deletes.{delete, delete_child, deletes_by}
use Rattle.acl_names.specs.Bits.{has, has_all, ◌∩◌}
use Rattle.acl_names.specs.Requester.{Identity}
use Rattle.acl_nfs4.specs.Ace.{Nfsace4}
use Rattle.acl_nfs4.specs.Evaluation.{verdict}
use Rattle.acl_nfs4.specs.Mask.{write_data}
use Rattle.acl_nfs4.specs.Who.{matches}
use Rattle.acl_nfs4.proofs.MaskBits.{contains-one}
use Rattle.acl_wire.specs.Decision.{IsDecided, SaysOf, decided_by}
use Rattle.acl_wire.specs.Deletion.{asked_of_file, asked_of_folder, raws_deletion, said_in}
use Rattle.acl_wire.specs.Nfs4.{are_ids}
use Rattle.acl_wire.specs.declared.decision.Decided.{Decided}
use Rattle.acl_wire.specs.declared.raw_ace.RawAce.{RawAce}

-- of a bit that was asked it is what the first entry says that speaks of it
pub said-is : (aces : List Nfsace4) (owner group : ℕ) (requester : Identity) (request : ℕ) (decided : Decided) → IsDecided aces owner group requester request decided
    → (place : ℕ) → has request place ≡ true → said_in decided place ≡ verdict (matches owner group requester) place aces
said-is aces owner group requester request decided is place asked =
    let said : Option Bool = verdict (matches owner group requester) place aces in
    ap₂ (λ a d. cond a (Some true) (cond d (Some false) None))
    (is.allowed place ∙ ap (λ r. r && unwrap_or said false) asked) (is.denied place ∙ ap (λ r. r && not (unwrap_or said true)) asked)
    ∙ by said
  where
    by : (v : Option Bool) → cond (unwrap_or v false) (Some true) (cond (not (unwrap_or v true)) (Some false) None) ≡ v
    by None = refl
    by (Some true) = refl
    by (Some false) = refl

-- a bit, named by its place, in a set
pub is_in : (set bit place : ℕ) → bit ≡ 2 ^ place → set ∩ bit ≡ bit → has set place ≡ true
is_in set bit place is here = sym (ap (has_all set) is ∙ contains-one set place) ∙ eq-eqb (set ∩ bit) bit here

pub is_not_in : (set bit place : ℕ) → bit ≡ 2 ^ place → (set ∩ bit ≡ bit → ⊥) → has set place ≡ false
is_not_in set bit place is other = sym (ap (has_all set) is ∙ contains-one set place) ∙ ne_eqb (set ∩ bit) bit other

module _ (sticky : Bool) (folder : List RawAce) (folder_owner folder_group : ℕ) (raws : List RawAce) (owner group : ℕ) (who : Identity) (in_folder of_file : Decided) where
  abbrev free : Bool
  free = not sticky || who.uid == folder_owner || who.uid == owner

  -- what was decided of both lists decides the deletion
  pub deletes-decided : (ids : (are_ids folder_owner folder_group who.uid && are_ids owner group who.uid) ≡ true)
      → SaysOf (decided_by folder folder_owner folder_group who asked_of_folder) folder_owner folder_group who asked_of_folder (Ok in_folder)
      → SaysOf (decided_by raws owner group who asked_of_file) owner group who asked_of_file (Ok of_file)
      → (is_free : Bool) → is_free ≡ free → (result : Bool)
      → result ≡ deletes_by (said_in of_file delete) (said_in in_folder delete_child) (unwrap_or (said_in in_folder write_data) false && is_free)
      → Ok result ≡ raws_deletion sticky folder folder_owner folder_group raws owner group who
  unfolding raws_deletion has
  deletes-decided ids folder_says file_says is_free free_is result granted =
      let said : (place : ℕ) → has asked_of_folder place ≡ true → said_in in_folder place ≡ verdict (matches folder_owner folder_group who) place folder_says.0 =
      said-is folder_says.0 folder_owner folder_group who asked_of_folder in_folder folder_says.2 in
      let of_it = said-is file_says.0 owner group who asked_of_file of_file file_says.2 delete refl in
      rw (ids, folder_says.1, file_says.1)
      (ap (λ (b : Bool). Ok b) (granted
      ∙ ap (λ x. deletes_by x (said_in in_folder delete_child) (unwrap_or (said_in in_folder write_data) false && is_free)) of_it
      ∙ ap (λ x. deletes_by (verdict (matches owner group who) delete file_says.0) x (unwrap_or (said_in in_folder write_data) false && is_free)) (said delete_child refl)
      ∙ ap₂ (λ x f. deletes_by (verdict (matches owner group who) delete file_says.0) (verdict (matches folder_owner folder_group who) delete_child folder_says.0) (unwrap_or x false && f))
      (said write_data refl) free_is))
