-- What `translate` reports for a block is read again.
use Rattle.std.proofs.Common.{◌≡◌, ◌∙◌, ◌≤◌, ◌+◌, ℕ, Bool, true, false, cond, nat_le, List, [], ◌∷◌, ◌++◌, length, Ok, Err, ap, append_assoc, arith, refl, sym}
use Rattle.std.proofs.lemmas.Bool.Decides.{nat_tests}
use Rattle.acl_names.specs.Bytes.{newline}
use Rattle.acl_names.specs.Names.{Names}
use Rattle.acl_names.specs.Steps.{◌>>=◌}
use Rattle.acl_posix.specs.declared.acl_text.AclFault.TheVariants.{TooMany}
use Rattle.acl_nfs4.specs.Ace.{Nfsace4}
use Rattle.acl_nfs4.specs.NamedAces.{ReadNumbers}
use Rattle.acl_nfs4.specs.declared.limits.TheConstants.{MAX_ACES}
use Rattle.acl_forms.specs.declared.printing.Places.TheVariants.{Full}
use Rattle.acl_listings.specs.Block.{FileValue, file_by}
use Rattle.acl_listings.specs.Nfs4Block.{nfs4_block}
use Rattle.acl_listings.specs.declared.fault.BlockFault.TheVariants.{Acl, TooLong}
use Rattle.acl_listings.specs.declared.limits.TheConstants.{MAX_BLOCK}
use Rattle.acl_listings.proofs.AceForms.{IsAceForm, freebsd_form, nfs4_form}
use Rattle.acl_listings.proofs.Nfs4Lemmas.{block_again}
use Rattle.acl_people.specs.Host.{Host, names_of_host}
use Rattle.acl_reports.specs.Listed.{Part}
use Rattle.acl_listing_translation.specs.TranslateLaws.{IsReported, with_reported}
use Rattle.acl_listing_translation.specs.Translated.{aces_of, as_list, entry_in, if_short, reported_as}
use Rattle.acl_listing_translation.specs.declared.form.AceForm.{AceForm}
use Rattle.acl_listing_translation.specs.declared.form.AceForm.TheVariants.{Freebsd, Nfs4}
use Rattle.acl_listing_translation.proofs.NumbersLemmas.{numbers_of_host}

-- a block that is reported is no longer than one may be
short_reported : (block reported : List ℕ) → if_short block ≡ Ok reported → (length block ≤ MAX_BLOCK + 1) × (reported ≡ block ++ newline ∷ [])
short_reported block reported is = go (nat_le (length block) (MAX_BLOCK + 1)) refl is
  where
    go : (b : Bool) → nat_le (length block) (MAX_BLOCK + 1) ≡ b → cond b (Ok (block ++ newline ∷ [])) (Err TooLong) ≡ Ok reported → (length block ≤ MAX_BLOCK + 1) × (reported ≡ block ++ newline ∷ [])
    go true fits is = (grind (arith, nat_tests, fits), cc)
    go false fits is = cc

-- the list that is reported
listed : (aces : List Nfsace4) (next : List Nfsace4 → Part) (reported : List ℕ) → (as_list aces >>= next) ≡ Ok reported → next aces ≡ Ok reported
listed aces next reported is = go (nat_le (length aces) MAX_ACES) is
  where
    go : (b : Bool) → (cond b (Ok aces) (Err (Acl TooMany)) >>= next) ≡ Ok reported → next aces ≡ Ok reported
    go true is = is
    go false is = cc

-- each form is one in which entries are read again
form_again : (names : Names) → ReadNumbers names → (form : AceForm) → IsAceForm names (entry_in form)
form_again names numbers Nfs4 = nfs4_form names numbers
form_again names numbers Freebsd = freebsd_form names numbers Full

pub translated_again : (host : Host) (form : AceForm) (attributes : Bool) (text reported : List ℕ) (file : FileValue) → IsReported host form attributes text file reported
    → (block : List ℕ) × (reported ≡ block ++ newline ∷ newline ∷ []) × (file_by (names_of_host host) block ≡ Ok (with_reported attributes file))
translated_again host form attributes text reported file is =
    let names = names_of_host host in
    let aces = aces_of attributes file.lists in
    let of_file : (as_list aces >>= (λ aces. reported_as false form text file.path aces)) ≡ Ok reported =
    sym (ap (λ read. read >>= (λ file. as_list (aces_of attributes file.lists) >>= (λ aces. reported_as false form text file.path aces))) is.file_is) ∙ is.reported_is in
    let short = short_reported (nfs4_block (entry_in form) text aces) reported (listed aces (λ aces. reported_as false form text file.path aces) reported of_file) in
    let again = block_again names (entry_in form) (form_again names (numbers_of_host host) form) text file aces is.are_aces is.have_ids is.some is.file_is short.0 in (
      again.0,
      short.1 ∙ ap (λ block. block ++ newline ∷ []) again.1 ∙ append_assoc again.0 (newline ∷ []) (newline ∷ []),
      again.2,
    )
