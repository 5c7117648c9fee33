-- Answers as they are printed.
use Rattle.std.specs.Prelude.{ℕ, ◌+◌, List, [], ◌∷◌, ◌++◌, Option, Some, None, codes, decimal}
use Rattle.std.specs.List.{flat_map, join_with_byte}
use Rattle.acl_names.specs.Bytes.{newline, space, digit_0}
use Rattle.acl_names.specs.Directory.{Known, group_name, user_name}
use Rattle.acl_names.specs.Ids.{id_text}
use Rattle.acl_nfs4.specs.PrintedText.{aces_text}
use Rattle.acl_nfs4.specs.declared.inheritance.Kind.{Kind}
use Rattle.acl_nfs4.specs.declared.inheritance.Kind.TheVariants.{File, Dir}
use Rattle.acl_posix.specs.Entry.{EntryValue, perms_of}
use Rattle.acl_posix.specs.Mode.{Classes}
use Rattle.acl_posix.specs.PrintedText.{default_text, effective_text}
use Rattle.acl_posix.specs.declared.entry.Tag.TheVariants.{Mask}
use Rattle.acl_tree.specs.Faults.{line_fault_number, tree_fault_number}
use Rattle.acl_tree.specs.declared.node_acl.NodeAcl.{NodeAcl}
use Rattle.acl_tree.specs.declared.node_acl.NodeAcl.TheVariants.{Posix, Nfs4}
use Rattle.acl_tree.specs.declared.faults.LineFault.{LineFault}
use Rattle.acl_tree.specs.declared.faults.LineFault.TheVariants as line
use Rattle.acl_tree.specs.declared.reply.Reply.{Reply}
use Rattle.acl_tree.specs.declared.reply.Reply.TheVariants.{Done, Node, Granted, Denied, Translated}
use Rattle.acl_tree.specs.declared.reply.Reply.TheVariants.{TranslatedBoth, Refused, Fault}
use Rattle.acl_tree.specs.declared.faults.TreeFault.{TreeFault}
use Rattle.acl_tree.specs.declared.faults.TreeFault.TheVariants as tree
use Rattle.acl_tree.specs.declared.reply.View.{View}
use Rattle.acl_lang.specs.declared.answer.Answer.{Answer}

-- the word of a fault

abbrev pub line_fault_word : LineFault → List ℕ
line_fault_word line.Syntax = codes "syntax"
line_fault_word line.BadPath = codes "bad-path"
line_fault_word line.BadMode = codes "bad-mode"
line_fault_word line.BadPerms = codes "bad-perms"
line_fault_word line.UnknownName = codes "unknown-name"
line_fault_word line.BadAcl = codes "bad-acl"
line_fault_word line.InvalidAcl = codes "invalid-acl"
line_fault_word line.TooMany = codes "too-many"
line_fault_word line.InheritOnly = codes "inherit-only"
line_fault_word line.LineTooLong = codes "line-too-long"

abbrev pub tree_fault_word : TreeFault → List ℕ
tree_fault_word tree.NoSuchPath = codes "no-such-path"
tree_fault_word tree.Exists = codes "exists"
tree_fault_word tree.NotADirectory = codes "not-a-directory"
tree_fault_word tree.WrongStyle = codes "wrong-style"
tree_fault_word tree.DefaultOnFile = codes "default-on-file"
tree_fault_word tree.InheritOnFile = codes "inherit-on-file"
tree_fault_word tree.Full = codes "full"
tree_fault_word tree.TooMany = codes "too-many"

-- `error CODE WORD`
abbrev pub error_text : ℕ → List ℕ → List ℕ
error_text code word = codes "error " ++ (decimal code ++ space ∷ (word ++ newline ∷ []))

abbrev pub kind_text : Kind → List ℕ
kind_text File = codes "file"
kind_text Dir = codes "dir"

-- three octal digits
abbrev pub mode_text : Classes → List ℕ
mode_text mode = (digit_0 + mode.user) ∷ (digit_0 + mode.group) ∷ (digit_0 + mode.other) ∷ []

abbrev pub style_text : NodeAcl → List ℕ
style_text (Posix access default) = codes "posix"
style_text (Nfs4 acl) = codes "nfs4"

-- a default list, if there is one, with `default:` before each line
abbrev pub below_text : Known → Option (List EntryValue) → List ℕ
below_text known None = []
below_text known (Some default) = default_text known (perms_of Mask default) default

-- an access list, with the permissions that its mask leaves
abbrev pub access_text : Known → List EntryValue → List ℕ
access_text known access = effective_text known (perms_of Mask access) access

-- a list of either style, one entry a line
abbrev pub acl_text : Known → NodeAcl → List ℕ
acl_text known (Posix access default) = access_text known access ++ below_text known default
acl_text known (Nfs4 acl) = aces_text known acl

-- `OWNER GROUP`, each a name or a decimal
abbrev pub owners_text : Known → ℕ → ℕ → List ℕ
owners_text known owner group = id_text (user_name known) owner
    ++ space ∷ id_text (group_name known) group

-- `get PATH KIND OWNER GROUP MODE STYLE`
abbrev pub head_text : Known → View → List ℕ
head_text known view = join_with_byte space
    (codes "get" ∷ view.path ∷ kind_text view.kind ∷ owners_text known view.owner view.group
    ∷ mode_text view.mode ∷ style_text view.acl ∷ [])

-- and then the list
abbrev pub view_text : Known → View → List ℕ
view_text known view = head_text known view ++ newline ∷ acl_text known view.acl

abbrev pub reply_text : Known → Reply → List ℕ
reply_text known Done = codes "ok" ++ newline ∷ []
reply_text known Granted = codes "granted" ++ newline ∷ []
reply_text known Denied = codes "denied" ++ newline ∷ []
reply_text known (Node view) = view_text known view
reply_text known (Translated acl) = codes "translated" ++ newline ∷ aces_text known acl
reply_text known (TranslatedBoth access inherit) =
    codes "translated" ++ newline ∷ (aces_text known access ++ aces_text known inherit)
reply_text known (Refused fault) = error_text (tree_fault_number fault) (tree_fault_word fault)
reply_text known (Fault fault) = error_text (line_fault_number fault) (line_fault_word fault)

-- the number of the line in decimal, and the reply
abbrev pub answer_text : Known → Answer → List ℕ
answer_text known answer = decimal answer.line ++ space ∷ reply_text known answer.reply

-- answers in order
abbrev pub answers_text : Known → List Answer → List ℕ
answers_text known = flat_map (answer_text known)
