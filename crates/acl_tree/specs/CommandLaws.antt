-- What holds for every command, on whatever tree.
use Rattle.std.specs.Prelude.{◌≡◌, ◌≢◌, ℕ, List, Some}
use Rattle.acl_names.specs.Directory.{Known}
use Rattle.acl_tree.specs.Apply.{next, reply}
use Rattle.acl_tree.specs.Requests.{path_of}
use Rattle.acl_tree.specs.Shape.{FilesHaveNoDefault, KeepsNodes, IsSameAt}
use Rattle.acl_tree.specs.Tree.{NodesUnderUmask}
use Rattle.acl_tree.specs.declared.reply.Reply.{Reply}
use Rattle.acl_tree.specs.declared.reply.Reply.TheVariants.{Refused, Fault}
use Rattle.acl_tree.specs.declared.request.Request.{Request}

-- for every directory, tree and command, of these and the tree after it
abbrev pub EachCommand : (NodesUnderUmask → Request → NodesUnderUmask → Type 0) → Type 0
EachCommand P = (directory : Known) (tree : NodesUnderUmask) (request : Request)
    → P tree request (next directory tree request)

-- the command was refused, or was none
abbrev pub IsRefusal : Reply → Type 0
IsRefusal (Refused fault) = Unit {0}
IsRefusal (Fault fault) = Unit {0}
IsRefusal _ = ⊥

-- a refused command changes nothing
abbrev pub RefusalsKeepTheTree : Type 0
RefusalsKeepTheTree =
    (directory : Known) (tree : NodesUnderUmask) (request : Request)
    → IsRefusal (reply directory tree request) → next directory tree request ≡ tree

-- no command changes the umask
abbrev pub CommandsKeepTheUmask : Type 0
CommandsKeepTheUmask = EachCommand (λ tree request after. after.umask ≡ tree.umask)

-- no command removes a node, or changes its kind, its owner or its group
abbrev pub CommandsKeepNodes : Type 0
CommandsKeepNodes = EachCommand (λ tree request after. KeepsNodes tree after)

-- a command changes and creates a node at the path that it names, and nowhere else
abbrev pub CommandsStayAtTheirPath : Type 0
CommandsStayAtTheirPath = EachCommand (λ tree request after. (path : List ℕ)
    → path_of request ≢ Some path → IsSameAt path tree after)

-- no command gives a file a default list
abbrev pub CommandsGiveFilesNoDefault : Type 0
CommandsGiveFilesNoDefault = EachCommand (λ tree request after. FilesHaveNoDefault tree
    → FilesHaveNoDefault after)
