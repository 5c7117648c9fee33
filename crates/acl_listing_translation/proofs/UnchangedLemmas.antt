-- A file and the same with what is reported for it are decided about alike, and `impact` reports nothing.
use Rattle.std.proofs.Common.{◌≡◌, ◌∙◌, ◌↔◌, IfOk, ℕ, Bool, true, false, cond, List, [], ◌∷◌, ◌++◌, Some, None, Result, Ok, ap, ap₂, refl, subst, sym}
use Rattle.acl_names.specs.Bytes.{newline}
use Rattle.acl_names.specs.Names.{Names}
use Rattle.acl_posix.specs.Entry.{EntryValue}
use Rattle.acl_posix.specs.Linux.{has_empty_mask, linux_list}
use Rattle.acl_posix.specs.Mode.{Classes, mode_of, of_mode}
use Rattle.acl_posix.specs.Validity.{IsValid}
use Rattle.acl_posix.proofs.ValidityLemmas.{IsValid-from_fault_of}
use Rattle.acl_bridge.specs.Files.{File, file_with}
use Rattle.acl_access.specs.Changes.{IsAlikeToAll}
use Rattle.acl_access.specs.Paths.{printed_path}
use Rattle.acl_access.specs.declared.rules.Rules.TheVariants.{Linux}
use Rattle.acl_listings.specs.Block.{FileValue, file_by}
use Rattle.acl_listings.specs.declared.fault.BlockFault.{BlockFault}
use Rattle.acl_listings.specs.declared.file_flags.FileFlags.{FileFlags}
use Rattle.acl_listings.specs.declared.lists.Lists.{Lists}
use Rattle.acl_listings.specs.declared.lists.Lists.TheVariants.{Nfs4, Posix}
use Rattle.acl_listings.proofs.ValidLemmas.{HasValidAccess, file_valid}
use Rattle.acl_reports.specs.Files.{deciding_list, file_of}
use Rattle.acl_people.specs.Host.{Host, names_of_host}
use Rattle.acl_listing_changes.specs.Impacting.{ImpactAsking, ReportsChange}
use Rattle.acl_listing_changes.specs.WrittenChanges.{ReportsWritten, changed_text}
use Rattle.acl_listing_changes.proofs.AlikeLemmas.{alike_itself, is_unchanged, nobody, reports_nothing, unchanged}
use Rattle.acl_listing_translation.specs.TranslateLaws.{IsReported, ReportsNothing, ReportsNothingOf, with_reported}
use Rattle.acl_listing_translation.specs.Translated.{aces_of}
use Rattle.acl_listing_translation.specs.declared.form.AceForm.{AceForm}
use Rattle.acl_listing_translation.proofs.SameLemmas.{decides_each_bit}
use Rattle.acl_listing_translation.proofs.TranslatedLemmas.{translated_again}

-- ---- the list that Linux looks at

mode_valid : (mode : Classes) → IsValid (of_mode mode)
mode_valid mode = IsValid-from_fault_of (of_mode mode) refl

linux_valid : (acl : List EntryValue) → IsValid acl → IsValid (linux_list acl)
linux_valid acl valid = go (has_empty_mask acl)
  where
    go : (b : Bool) → IsValid (cond b (of_mode (mode_of acl)) acl)
    go true = mode_valid (mode_of acl)
    go false = valid

-- ---- files

-- a file with these lists, as what decides about access to it
abbrev deciding : ℕ → ℕ → Lists → File
deciding owner group lists = file_with (record { owner = owner; group = group }) (deciding_list Linux lists)

lists_alike : (attributes : Bool) (owner group : ℕ) (lists : Lists) → HasValidAccess lists
    → IsAlikeToAll (deciding owner group lists) (deciding owner group (Nfs4 (aces_of attributes lists)))
lists_alike attributes owner group (Posix access default) valid requester = record {
  bits = λ bit of_mode. decides_each_bit attributes access default (linux_valid access valid) owner group requester bit of_mode;
  requests = tt;
}
lists_alike attributes owner group (Nfs4 acl) valid requester = alike_itself (deciding owner group (Nfs4 acl)) requester

module _ (names : Names) (attributes : Bool) (text : List ℕ) (file : FileValue) (reads : file_by names text ≡ Ok file) where
  pub reported_alike : IsAlikeToAll (file_of Linux file) (file_of Linux (with_reported attributes file))
  reported_alike = lists_alike attributes file.owner file.group file.lists (file_valid names text file reads)

  pub reported_nothing : ReportsNothing (file_of Linux file) (file_of Linux (with_reported attributes file))
  reported_nothing concern path text = reports_nothing (file_of Linux file) (file_of Linux (with_reported attributes file)) path reported_alike concern text

-- ---- what is written otherwise

-- of a file that has these lists
module _ (attributes : Bool) (path : List ℕ) (owner group : ℕ) (flags : FileFlags) where
  abbrev with_lists : Lists → FileValue
  with_lists lists = record { path = path; owner = owner; group = group; flags = flags; lists = lists }

  unwritten : (lists : Lists) → ReportsWritten false (with_lists lists) (with_lists (Nfs4 (aces_of attributes lists))) []
  unwritten (Posix access None) = (
    record { owner = false; group = false; flags = false; access = true; default = false },
    record {
      owner = (λ is same. cc, λ differs. absurd (differs refl));
      group = (λ is same. cc, λ differs. absurd (differs refl));
      flags = (λ is same. cc, λ differs. absurd (differs refl));
      access = (λ is same. cc, λ differs. refl);
      default = (λ is same. cc, λ differs. absurd (differs refl));
    },
    refl,
  )
  unwritten (Posix access (Some default)) = (
    record { owner = false; group = false; flags = false; access = true; default = true },
    record {
      owner = (λ is same. cc, λ differs. absurd (differs refl));
      group = (λ is same. cc, λ differs. absurd (differs refl));
      flags = (λ is same. cc, λ differs. absurd (differs refl));
      access = (λ is same. cc, λ differs. refl);
      default = (λ is same. cc, λ differs. refl);
    },
    refl,
  )
  unwritten (Nfs4 acl) = (unchanged, is_unchanged (with_lists (Nfs4 acl)), refl)

-- ---- blocks

-- what is reported for two files that are decided about alike, unless what is written otherwise is asked
module _ (asking : ImpactAsking) (unasked : asking.written ≡ false) (before after : FileValue) (alike : IsAlikeToAll (file_of asking.rules before) (file_of asking.rules after))
    (nothing : ReportsWritten false before after []) where
  change_nothing : (reported : List ℕ) → ReportsChange asking before after reported ↔ (reported ≡ [])
  change_nothing reported = (
    λ reports. reports.text_is
        ∙ ap₂ (λ (a b : List ℕ). a ++ b) ((reports_nothing (file_of asking.rules before) (file_of asking.rules after) (printed_path after.path) alike asking.concern reports.impact).0 reports.impact_is)
        (reports.written_is.2 ∙ ap (λ asked. changed_text asked reports.written_is.0 (printed_path after.path)) unasked),
    λ none. subst (ReportsChange asking before after) (sym none) (record {
      impact = [];
      impact_is = nobody (file_of asking.rules before) (file_of asking.rules after) (printed_path after.path) alike asking.concern;
      written = [];
      written_is = subst (λ (asked : Bool). ReportsWritten asked before after []) (sym unasked) nothing;
      text_is = refl;
    }),
  )

-- what holds of what two blocks say, where each says a file
module _ (P : FileValue → FileValue → Type 0) (before after : FileValue) where
  abbrev OfBoth : Result FileValue BlockFault → Result FileValue BlockFault → Type 0
  OfBoth first second = IfOk first (λ a. IfOk second (λ b. P a b))

  of_both : (first second : Result FileValue BlockFault) → first ≡ Ok before → second ≡ Ok after → OfBoth first second ↔ P before after
  of_both first second one two = (
    λ holds. subst (λ (read : Result FileValue BlockFault). OfBoth (Ok before) read) two (subst (λ (read : Result FileValue BlockFault). OfBoth read second) one holds),
    λ holds. subst (λ (read : Result FileValue BlockFault). OfBoth read second) (sym one) (subst (λ (read : Result FileValue BlockFault). OfBoth (Ok before) read) (sym two) holds),
  )

blocks_nothing : (names : Names) (attributes : Bool) (old text : List ℕ) (file : FileValue) → file_by names old ≡ Ok file → file_by names text ≡ Ok (with_reported attributes file)
    → ReportsNothingOf names old text
blocks_nothing names attributes old text file reads again asking same linux unasked reported said =
    let after = with_reported attributes file in
    let first : file_by asking.names old ≡ Ok file = ap (λ names. file_by names old) same ∙ reads in
    let second : file_by asking.names text ≡ Ok after = ap (λ names. file_by names text) same ∙ again in
    let both = of_both (λ before after. ReportsChange asking before after reported × (said ≡ [])) file after (file_by asking.names old) (file_by asking.names text) first second in
    let alike = subst (λ rules. IsAlikeToAll (file_of rules file) (file_of rules after)) (sym linux) (reported_alike names attributes old file reads) in
    let nothing = change_nothing asking unasked file after alike
    (unwritten attributes file.path file.owner file.group file.flags file.lists) reported in (
      λ reports. let here = both.0 reports in (nothing.0 here.0, here.1),
      λ none. both.1 (nothing.1 none.0, none.1),
    )

pub reported_block_nothing : (host : Host) (form : AceForm) (attributes : Bool) (text reported : List ℕ) (file : FileValue) → IsReported host form attributes text file reported
    → (block : List ℕ) × (reported ≡ block ++ newline ∷ newline ∷ []) × ReportsNothingOf (names_of_host host) text block
reported_block_nothing host form attributes text reported file is =
    let again = translated_again host form attributes text reported file is in
    (again.0, again.1, blocks_nothing (names_of_host host) attributes text again.0 file is.file_is again.2)
