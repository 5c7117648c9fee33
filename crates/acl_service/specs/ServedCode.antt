-- Private steps, which no public clause cites: how the service is kept apart from others by a
-- proof.
use mir.Syntax.{erased}
use Rattle.std.specs.Prelude.{[]}
use Rattle.std.specs.Coded.{Coded}
use Rattle.acl_service.specs.contracts.served.Served as row
use Rattle.acl_service.specs.declared.served.Served.{Served}

-- the code of a service, whatever its directory's lifetime
abbrev pub served_code : Coded Served
served_code = (row.the_row (record { mir = erased; lft = [] })).coded
