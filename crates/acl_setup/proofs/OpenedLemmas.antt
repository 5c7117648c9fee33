-- Bytes that open a directory and a tree open the directory.
use Rattle.std.proofs.Common.{ℕ, Err, List, Ok, Result}
use Rattle.acl_names.specs.Directory.{Known}
use Rattle.acl_tree.specs.Tree.{NodesUnderUmask}
use Rattle.acl_setup.specs.Opened.{IsOpened, KnowsThem, Opened, Opens, OpensDirectory, opened_in}
use Rattle.acl_setup.specs.declared.fault.SetupError.{SetupError}

knows : (reading : Result Opened SetupError) (known : Known) (tree : NodesUnderUmask) → IsOpened reading known tree → KnowsThem reading known
knows (Ok opened) known tree is = is.0
knows (Err error) known tree is = is

pub opens_directory : (bytes : List ℕ) (known : Known) (tree : NodesUnderUmask) → Opens bytes known tree → OpensDirectory bytes known
opens_directory bytes known tree (table, reads, opened) = (table, reads, knows (opened_in table) known tree opened)
