-- Who reaches a file.
use Rattle.std.specs.Prelude.{Bool, List}
use Rattle.std.specs.List.{list_all}
use Rattle.acl_names.specs.Requester.{Identity}
use Rattle.acl_bridge.specs.Files.{File, may}

-- each parent folder lets the requester search it
abbrev pub reaches : List File → Identity → Bool
reaches way requester = list_all (λ folder. may folder requester 1) way
