-- What is kept of a user for each file that the user may want to delete, or to delete something in.
-- Private steps, which no public clause of another crate needs to be believed for.
use Rattle.std.specs.Prelude.{ℕ, ◌&&◌, ◌||◌, Bool, not, List}
use Rattle.std.specs.List.{zip}
use Rattle.acl_names.specs.Requester.{Identity}
use Rattle.acl_bridge.specs.Files.{File}
use Rattle.acl_access.specs.Deletes.{adds, delete, delete_child, deletes_by, owns, said_of}
use Rattle.acl_access.specs.Marks.{places_from}
use Rattle.acl_access.specs.declared.standing.Standing.{Standing}

abbrev pub standing_of : Bool → File → Identity → Standing
standing_of sticky file requester = record {
  delete = said_of file requester delete;
  delete_child = said_of file requester delete_child;
  adds = adds file requester;
  owns = owns file requester;
  free = not sticky || owns file requester;
}

-- whether a user with these standings to a folder and to a file in it may delete the file
abbrev pub takes : Standing → Standing → Bool
takes folder file =
    deletes_by file.delete folder.delete_child (folder.adds && (folder.free || file.owns))

abbrev pub takes_each : Standing × Standing → Bool
takes_each each = takes each.0 each.1

-- the places of those who may
abbrev pub places_of_takers : List Standing → List Standing → List ℕ
places_of_takers folder file = places_from takes_each 0 (zip folder file)
