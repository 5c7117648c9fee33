-- What follows if a first step fails.
use Rattle.std.proofs.Common.{◌≡◌, Result, Err, refl}
use Rattle.acl_names.specs.Steps.{◌>>=◌}
use Rattle.acl_wire.specs.XattrReading.{Fails, Gives}
use Rattle.acl_wire.specs.declared.fault.PosixError.{PosixError}
use Rattle.acl_wire.specs.declared.fault.PosixError.TheVariants as errors
use Rattle.acl_wire.specs.declared.fault.PosixFault.{PosixFault}

pub fails-then : {A B : Type 0} (error : PosixError) (first : Result A PosixFault) (then : A → Result B PosixFault) → Fails error first → Fails error (first >>= then)
fails-then errors.Memory first then is = tt
fails-then (errors.Fault fault) first then is = rw is refl

pub gives-err : {X Y : Type 0} (view : X → Y) (result : Result X PosixError) (error : PosixError) (answer : Result Y PosixFault) → result ≡ Err error → Fails error answer → Gives view result answer
gives-err view result error answer is fails = rw is fails
