-- What contracts see of the types of this crate: without where the bytes lie in memory.
use Rattle.acl_listings.specs.Block.{FileValue}
use Rattle.acl_listings.specs.Header as text
use Rattle.acl_listings.specs.declared.file.File.{File}
use Rattle.acl_listings.specs.declared.header.Header.{Header}

abbrev pub view_file : File → FileValue
view_file file = record {
  path = file.path.now;
  owner = file.owner;
  group = file.group;
  flags = file.flags;
  lists = file.lists;
}

abbrev pub view_header : Header → text.Header
view_header header = record {
  path = header.path.now;
  owner = header.owner.now;
  group = header.group.now;
  list = header.list.now;
}
