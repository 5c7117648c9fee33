-- Laws of `translate`: about a file, what is printed for it, and what `impact` prints for the two.
use Rattle.std.specs.Prelude.{◌≡◌, ◌<◌, ◌↔◌, ℕ, Bool, false, List, [], Ok, length}
use Rattle.acl_access.specs.declared.rules.Rules.TheVariants.{Linux}
use Rattle.acl_names.specs.Names.{Names}
use Rattle.acl_nfs4.specs.Acl.{AreAces}
use Rattle.acl_nfs4.specs.PrintedText.{HaveIds}
use Rattle.acl_bridge.specs.Files.{File}
use Rattle.acl_listings.specs.Block.{FileValue, file_by}
use Rattle.acl_listings.specs.declared.lists.Lists.TheVariants.{Nfs4}
use Rattle.acl_people.specs.Host.{Host, names_of_host}
use Rattle.acl_listing_changes.specs.Impacting.{Concern, ImpactAsking, ReportsImpact, impacting}
use Rattle.acl_listing_translation.specs.Translated.{aces_of, translated}
use Rattle.acl_listing_translation.specs.declared.form.AceForm.{AceForm}

-- The block has this file, and in this form this is printed for it. The printed list has entries,
-- and they are valid, with ids within their range.
pub record IsReported (host : Host) (form : AceForm) (attributes : Bool) (text : List ℕ)
    (file : FileValue) (reported : List ℕ) : Type 0 where
  pub file_is : file_by (names_of_host host) text ≡ Ok file
  pub are_aces : AreAces (aces_of attributes file.lists)
  pub have_ids : HaveIds (aces_of attributes file.lists)
  pub some : 0 < length (aces_of attributes file.lists)
  pub reported_is : translated (record {
    names = names_of_host host;
    form = form;
    attributes = attributes;
    pairs = false;
  }) text ≡ Ok reported

-- the file with the list that is printed for it
abbrev pub with_reported : Bool → FileValue → FileValue
with_reported attributes file = record file { lists = Nfs4 (aces_of attributes file.lists) }

-- For a file that became another, `impact` prints exactly nothing, whatever users are evaluated.
abbrev pub ReportsNothing : File → File → Type 0
ReportsNothing before after =
    (concern : Concern) (path text : List ℕ)
    → ReportsImpact concern before after path text ↔ (text ≡ [])

-- Nor does it for a block that became another, unless `--text` or `--draft` is given.
abbrev pub ReportsNothingOf : Names → List ℕ → List ℕ → Type 0
ReportsNothingOf names old text =
    (asking : ImpactAsking) → asking.names ≡ names → asking.rules ≡ Linux
    → asking.written ≡ false → (reported said : List ℕ)
    → (impacting asking).IsChanged old text reported said ↔ ((reported ≡ []) × (said ≡ []))
