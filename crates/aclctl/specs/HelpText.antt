-- What `help` prints.
use Rattle.std.specs.Prelude.{ℕ, List, [], ◌∷◌, ◌++◌, codes}
use Rattle.std.specs.List.{flat_map}
use Rattle.acl_names.specs.Bytes.{newline}

-- lines, each with a newline after it
abbrev pub lines_text : List (List ℕ) → List ℕ
lines_text lines = flat_map (λ line. line ++ newline ∷ []) lines

-- the program's commands, and its exit statuses
unfoldable pub help_text : List ℕ
help_text = lines_text (
    codes "usage: aclctl COMMAND [OPTION].. [WORD].." ∷
    [] ∷
    codes "commands:" ∷
    codes "  who        reports who may do what with each file of a listing" ∷
    codes "  why        reports why a user may access a file of a listing, or why not" ∷
    codes "  impact     reports who gains or loses access between two listings" ∷
    codes "  restore    prints what setfacl needs to restore the lists of an earlier listing" ∷
    codes "  translate  prints a listing with an NFSv4 list for each file" ∷
    codes "  next       prints a listing with the file that a user would create in each folder" ∷
    codes "  decide     reports whether an access control list grants a request" ∷
    codes "  explain    reports which entries of the list decide that" ∷
    codes "  compare    reports whether anybody gains or loses access between two lists" ∷
    codes "  run        lets sessions work on one tree at the same time, and prints their answers" ∷
    codes "  list       prints a tree as a listing that the other commands read" ∷
    codes "  accounts   prints the users and groups of a setup, as getent prints a host's" ∷
    codes "  dump       prints a tree as a session that makes it again" ∷
    codes "  lint       reports what is wrong with a listing, a setup or sessions, and where" ∷
    codes "  help       prints this; help COMMAND prints the options of a command" ∷
    codes "  --version  prints the version" ∷
    [] ∷
    codes "COMMAND --help prints the options of a command, too. Without any words, aclctl" ∷
    codes "reads them from standard input, one a line, the command first." ∷
    [] ∷
    codes "A listing is what getfacl -R prints; users and groups are those of this host:" ∷
    codes "  getfacl -Rn /srv/share | aclctl who --reach --perms w -" ∷
    codes "decide, explain and compare take a list by itself, and decimal ids:" ∷
    codes
    "  aclctl decide --owner 1000 --group 50 --uid 1001 --gids 50,60 --perms r u::rw,g::r,o::-" ∷
    [] ∷
    codes "Exit status: 0 with an answer (granted or denied, alike or differ, a run's" ∷
    codes "outputs), 1 if something is malformed or can't be read, 2 if the words are" ∷
    codes "wrong, 3 if there is no memory or thread left or the output can't be written," ∷
    codes "4 if some files of a listing can't be evaluated, and 5 with --exit-code if there" ∷
    codes "is something to report." ∷
    [])
