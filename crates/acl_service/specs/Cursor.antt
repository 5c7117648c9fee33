-- Private steps, which no public clause cites: the texts of sessions as they are read.
use Rattle.std.specs.Prelude.{List}
use Rattle.acl_lang.specs.declared.text.Numbered.{Numbered}
use Rattle.acl_service.specs.declared.sessions.cursor.Cursor.{Cursor}

-- the requests that are still to come
abbrev pub rest_of : Cursor → List Numbered
rest_of cursor = cursor.requests
