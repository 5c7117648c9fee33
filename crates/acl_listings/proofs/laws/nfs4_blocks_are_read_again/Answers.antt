use Rattle.acl_nfs4.specs.PrintedText.{short_ace}
use Rattle.acl_forms.specs.ShortForm.{short_entry}
use Rattle.acl_listings.proofs.AceForms.{freebsd_form, nfs4_form}
use Rattle.acl_listings.proofs.Nfs4Lemmas.{block_again}
use Rattle.acl_listings.proofs.laws.nfs4_blocks_are_read_again.Goals as goal

pub returns : goal.returns
returns c = record {
  nfs4 = λ names text file aces numbers are have some is short. block_again names short_ace (nfs4_form names numbers) text file aces are have some is short;
  freebsd = λ places names text file aces numbers are have some is short. block_again names (short_entry places) (freebsd_form names numbers places) text file aces are have some is short;
}
