-- What `decide` answers.
use Rattle.std.specs.Prelude.{◌≡◌, ◌++◌, ◌∷◌, [], Bool, false, ℕ, List, codes, if◌then◌else◌}
use Rattle.clap.specs.Words.{Row}
use Rattle.acl_names.specs.Bytes.{newline}
use Rattle.acl_posix.specs.Access.{grants}
use Rattle.acl_posix.specs.Entry.{EntryValue}
use Rattle.acl_nfs4.specs.PrintedText.{aces_text}
use Rattle.acl_bridge.specs.Translation.{translation}
use Rattle.acl_queries.specs.AclText.{nobody}
use Rattle.acl_queries.specs.Asked.{Asked, asked_in}
use Rattle.acl_cli.specs.Commands.{Meaning}
use Rattle.acl_queries.specs.Queries.{query_meaning}

-- whether the request is granted (1003.1e draft 17, section 23)
abbrev pub is_granted : Asked → Bool
is_granted asked = grants asked.acl asked.owner asked.group asked.requester asked.request

-- the line of the answer
abbrev pub answer_line : Bool → List ℕ
answer_line granted = if granted then codes "granted" ++ newline ∷ []
    else codes "denied" ++ newline ∷ []

-- the entries of the NFSv4 list to which an access control list translates, one a line
abbrev pub translation_text : List EntryValue → List ℕ
translation_text acl = aces_text nobody (translation acl)

-- the line, and after it the translation if the words ask for it
abbrev pub answer_text : Asked → List ℕ
answer_text asked = answer_line (is_granted asked)
    ++ (if asked.nfs4 then translation_text asked.acl else [])

-- the text is that answer
abbrev pub IsDecideText : Asked → List ℕ → Type 0
IsDecideText asked text = text ≡ answer_text asked

-- what the fields of `decide` mean
abbrev pub decide_meaning : List Row → Meaning
decide_meaning = query_meaning false asked_in IsDecideText
