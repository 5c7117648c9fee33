-- The lines of the command language.
use Rattle.std.specs.Prelude.{ℕ, ◌==◌, List, [], ◌∷◌, length, nat_lt, Ok, Err, if◌then◌else◌}
use Rattle.acl_names.specs.Directory.{Known}
use Rattle.acl_names.specs.Pieces.{trim}
use Rattle.acl_tree.specs.declared.faults.LineFault.TheVariants.{LineTooLong}
use Rattle.acl_tree.specs.declared.request.Request.{Request}
use Rattle.acl_tree.specs.declared.request.Request.TheVariants.{Bad}
use Rattle.acl_names.specs.Bytes.{hash}
use Rattle.acl_lang.specs.Commands.{asked_by}
use Rattle.acl_lang.specs.Refusals.{Asked}
use Rattle.acl_lang.specs.declared.limits.TheConstants.{MAX_LINE_LEN}
use Rattle.acl_lang.specs.declared.line.Line.{Line}
use Rattle.acl_lang.specs.declared.line.Line.TheVariants.{Nothing, Command}

-- a fault is a request, too
abbrev pub request_of : Asked Request → Request
request_of (Ok request) = request
request_of (Err fault) = Bad fault

-- a line without its blanks: an empty one, and one that begins with '#', give nothing
abbrev pub line_of_trimmed : Known → List ℕ → Line
line_of_trimmed known [] = Nothing
line_of_trimmed known (byte ∷ bytes) = if byte == hash then Nothing
    else Command (request_of (asked_by known (byte ∷ bytes)))

-- what a line gives; one that is too long is a fault before all else
abbrev pub line_of : Known → List ℕ → Line
line_of known bytes = if nat_lt MAX_LINE_LEN (length bytes) then Command (Bad LineTooLong)
    else line_of_trimmed known (trim bytes)
