-- What is inherited of lists of numbers: all bits that have a meaning stay.
use Rattle.std.specs.Prelude.{List, Result, Ok}
use Rattle.acl_names.specs.Steps.{◌>>=◌}
use Rattle.acl_nfs4.specs.Inheritance.{inherited_list}
use Rattle.acl_nfs4.specs.declared.inheritance.Kind.{Kind}
use Rattle.acl_wire.specs.Kept.{kept_list}
use Rattle.acl_wire.specs.RawAcesWriting.{raws_of}
use Rattle.acl_wire.specs.declared.fault.Nfs4Fault.{Nfs4Fault}
use Rattle.acl_wire.specs.declared.raw_ace.RawAce.{RawAce}

-- what a new file or directory inherits
unfoldable pub inherited_of : Kind → List RawAce → Result (List RawAce) Nfs4Fault
inherited_of kind raws = kept_list raws >>= λ aces. Ok (raws_of (inherited_list kind aces))
