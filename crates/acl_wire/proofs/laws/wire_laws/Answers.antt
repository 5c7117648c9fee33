use Rattle.acl_wire.proofs.NamesAgain.{names_again}
use Rattle.acl_wire.proofs.RawAgain.{list_again}
use Rattle.acl_wire.proofs.XattrAgain.{acl_again}
use Rattle.acl_wire.proofs.RawsWritten.{raws_written}
use Rattle.acl_wire.proofs.XdrAgain.{xdr_again}
use Rattle.acl_wire.proofs.XdrKeptAgain.{kept_again}
use Rattle.acl_wire.proofs.XdrWritten.{xdr_written}
use Rattle.acl_wire.proofs.XattrWritten.{xattrs_written}
use Rattle.acl_wire.proofs.laws.wire_laws.Goals as goal

pub returns-clause-xattrs : goal.returns-clause-xattrs
returns-clause-xattrs c = acl_again

pub returns-clause-raws : goal.returns-clause-raws
returns-clause-raws c = list_again

pub returns-clause-xattrs_written : goal.returns-clause-xattrs_written
returns-clause-xattrs_written c = xattrs_written

pub returns-clause-raws_written : goal.returns-clause-raws_written
returns-clause-raws_written c = raws_written

pub returns-clause-xdr : goal.returns-clause-xdr
returns-clause-xdr c = xdr_again

pub returns-clause-kept : goal.returns-clause-kept
returns-clause-kept c = kept_again

pub returns-clause-xdr_written : goal.returns-clause-xdr_written
returns-clause-xdr_written c = xdr_written

pub returns-clause-names : goal.returns-clause-names
returns-clause-names c = names_again
