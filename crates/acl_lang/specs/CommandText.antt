-- How requests are written as lines: what a tool prints that hands them to the reader again.
use Rattle.std.specs.Prelude.{◌≢◌, ℕ, ◌≤◌, ◌+◌, List, [], ◌∷◌, ◌++◌, length, Option, Some}
use Rattle.std.specs.Prelude.{None, codes, decimal}
use Rattle.std.specs.List.{flat_map, join_with_byte}
use Rattle.acl_names.specs.Bytes.{hash, newline, space}
use Rattle.acl_names.specs.Letters.{letters_text, HasBitsOf}
use Rattle.acl_names.specs.declared.limits.TheConstants.{MAX_ID}
use Rattle.acl_nfs4.specs.Ace.{Nfsace4}
use Rattle.acl_nfs4.specs.Acl.{AreAces}
use Rattle.acl_nfs4.specs.Letters.{mask_table}
use Rattle.acl_nfs4.specs.Mask.{mask_bits}
use Rattle.acl_nfs4.specs.PrintedText as aces
use Rattle.acl_posix.specs.Canonical.{IsAcl}
use Rattle.acl_posix.specs.Entry.{EntryValue}
use Rattle.acl_posix.specs.Mode.{AreClasses}
use Rattle.acl_posix.specs.Perms.{IsPermissions, bits_of}
use Rattle.acl_posix.specs.PermsText.{perms_text}
use Rattle.acl_posix.specs.PrintedText as entries
use Rattle.acl_tree.specs.declared.request.Request.{Request}
use Rattle.acl_tree.specs.declared.request.Request.TheVariants.{Get, SetAccess, SetDefault, SetNfs4}
use Rattle.acl_tree.specs.declared.request.Request.TheVariants.{Chmod, Create, Check, Check4}
use Rattle.acl_tree.specs.declared.request.Request.TheVariants.{Translate, Bad}
use Rattle.acl_lang.specs.Printed.{kind_text, mode_text}
use Rattle.acl_lang.specs.ReadAgain.{NameIds, NameIdsOfAces}
use Rattle.acl_lang.specs.Shapes.{IsPath}
use Rattle.acl_lang.specs.declared.limits.TheConstants.{MAX_LINE_LEN}
use Rattle.acl_lang.specs.declared.text.Numbered.{Numbered}

-- TEXT of a default list: the list, or `none`
abbrev pub default_field : Option (List EntryValue) → List ℕ
default_field None = codes "none"
default_field (Some acl) = entries.short_text acl

-- TEXT of ACEs; that of none is a comment, since TEXT isn't empty
abbrev pub aces_field : List Nfsace4 → List ℕ
aces_field [] = hash ∷ []
aces_field (ace ∷ more) = aces.short_text (ace ∷ more)

-- the words of a request's line: ids in decimal, lists in the short text form, so that none has a
-- blank; a line that is no command has none
abbrev pub words_of : Request → List (List ℕ)
words_of (Get path) = codes "get" ∷ path ∷ []
words_of (SetAccess path acl) = codes "set" ∷ path ∷ codes "access" ∷ entries.short_text acl ∷ []
words_of (SetDefault path default) =
    codes "set" ∷ path ∷ codes "default" ∷ default_field default ∷ []
words_of (SetNfs4 path acl) = codes "set" ∷ path ∷ codes "nfs4" ∷ aces_field acl ∷ []
words_of (Chmod path mode) = codes "chmod" ∷ path ∷ mode_text mode ∷ []
words_of (Create kind path user mode) =
    codes "create" ∷ kind_text kind ∷ path ∷ decimal user ∷ mode_text mode ∷ []
words_of (Check path user perms) =
    codes "check" ∷ path ∷ decimal user ∷ perms_text (bits_of perms) ∷ []
words_of (Check4 path user mask) =
    codes "check4" ∷ path ∷ decimal user ∷ letters_text mask_table (mask_bits mask) ∷ []
words_of (Translate path) = codes "translate" ∷ path ∷ []
words_of (Bad fault) = []

-- the line of a request, without its newline: its words, a space between each two
abbrev pub command_text : Request → List ℕ
command_text request = join_with_byte space (words_of request)

-- a session of these requests: a line for each
abbrev pub session_text : List Request → List ℕ
session_text = flat_map (λ request. command_text request ++ newline ∷ [])

-- What a line can say beyond what the types of a request do: it is a command, and asks for what
-- has a letter; of an NFSv4 check, for something.
abbrev pub HasLine : Request → Type 0
HasLine (Check path user perms) = IsPermissions (bits_of perms)
HasLine (Check4 path user mask) = HasBitsOf mask_table (mask_bits mask) × (mask_bits mask ≢ 0)
HasLine (Bad fault) = ⊥
HasLine _ = Unit {0}

-- a default list, if there is one, is a list whose ids are ids
abbrev pub IsDefault : Option (List EntryValue) → Type 0
IsDefault None = Unit {0}
IsDefault (Some acl) = IsAcl acl × NameIds acl

-- what the line of a request says again: its path is one, its lists are lists, its ids are ids
abbrev pub IsPrintable : Request → Type 0
IsPrintable (Get path) = IsPath path
IsPrintable (SetAccess path acl) = IsPath path × IsAcl acl × NameIds acl
IsPrintable (SetDefault path default) = IsPath path × IsDefault default
IsPrintable (SetNfs4 path acl) = IsPath path × AreAces acl × NameIdsOfAces acl
IsPrintable (Chmod path mode) = IsPath path × AreClasses mode
IsPrintable (Create kind path user mode) = IsPath path × (user ≤ MAX_ID) × AreClasses mode
IsPrintable (Check path user perms) = IsPath path × (user ≤ MAX_ID)
    × HasLine (Check path user perms)
IsPrintable (Check4 path user mask) = IsPath path × (user ≤ MAX_ID)
    × HasLine (Check4 path user mask)
IsPrintable (Translate path) = IsPath path
IsPrintable (Bad fault) = ⊥

-- its line is no longer than lines may be
abbrev pub HasShortLine : Request → Type 0
HasShortLine request = length (command_text request) ≤ MAX_LINE_LEN

-- a request that is read again from its line
abbrev pub ReadsAgain : Request → Type 0
ReadsAgain request = IsPrintable request × HasShortLine request

-- the requests with the numbers of their lines, of which the first has the number above this one
abbrev pub numbered_from : ℕ → List Request → List Numbered
numbered_from before [] = []
numbered_from before (request ∷ more) = record { line = before + 1; request = request }
    ∷ numbered_from (before + 1) more
