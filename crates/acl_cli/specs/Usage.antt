-- Words that the parser takes one by one, and that are wrong together.
use Rattle.std.specs.Prelude.{◌≡◌, ⊤}
use Rattle.clap.specs.Words.{kind_of}
use Rattle.clap.specs.declared.error.kind.ErrorKind.{ErrorKind}
use Rattle.clap.specs.declared.error.Error.{Error}
use Rattle.clap.specs.declared.error.kind.ErrorKind.TheVariants.{OutOfMemory}
use Rattle.acl_cli.specs.declared.failure.Failure.{Failure}
use Rattle.acl_cli.specs.declared.failure.Failure.TheVariants.{Lacks, Usage}
use Rattle.acl_cli.specs.declared.run_fault.RunFault.TheVariants.{Memory}

-- wrong usage of this kind, in the parser's own words, which aren't fixed; or out of memory
abbrev pub IsUsage : ErrorKind → Failure → Type 0
IsUsage kind (Usage error) = kind_of error ≡ kind
IsUsage kind (Lacks Memory) = ⊤
IsUsage kind _ = ⊥

-- what words fail with that the parser refuses with this error: wrong usage of its kind, in words
-- that aren't fixed; or out of memory
abbrev pub IsRefused : Error → Failure → Type 0
IsRefused error (Usage other) =
    (kind_of other ≡ kind_of error) × (kind_of other ≡ OutOfMemory → ⊥)
IsRefused error (Lacks Memory) = ⊤
IsRefused error _ = ⊥
