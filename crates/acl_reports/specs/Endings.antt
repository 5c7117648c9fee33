-- How reports end.
use Rattle.std.specs.Prelude.{Bool, true}
use Rattle.acl_cli.specs.declared.command.Ending.{Ending}
use Rattle.acl_cli.specs.declared.command.Ending.TheVariants.{Answered, Differs, InPart}

-- two listings are answered if both are
abbrev pub ending_of_both : Ending → Ending → Ending
ending_of_both Answered second = second
ending_of_both first second = InPart

-- and differ if something is reported, where this is asked
abbrev pub with_difference : Bool → Ending → Ending
with_difference true Answered = Differs
with_difference _ ending = ending
