-- What is printed of a run.
use Rattle.std.specs.Prelude.{ℕ, ◌+◌, Bool, List, [], ◌∷◌, ◌++◌, codes, decimal, if◌then◌else◌}
use Rattle.std.specs.Prelude.{flat_map}
use Rattle.acl_names.specs.Bytes.{newline, space}
use Rattle.acl_broker.specs.declared.steps.JournalEntry.{JournalEntry}
use Rattle.acl_lang.specs.declared.text.Numbered.{Numbered}

-- `session K`, and after it what was printed of the session, for each session from this one on
abbrev pub sessions_text : ℕ → List (List ℕ) → List ℕ
sessions_text session [] = []
sessions_text session (output ∷ more) = (codes "session " ++ decimal session ++ newline ∷ [])
    ++ output ++ sessions_text (session + 1) more

-- what was printed of all sessions; that of a single one stands by itself
abbrev pub outputs_text : List (List ℕ) → List ℕ
outputs_text (output ∷ []) = output
outputs_text outputs = sessions_text 0 outputs

-- `K N`: the session of an entry, and the number of its request's line
abbrev pub entry_text : JournalEntry Numbered → List ℕ
entry_text entry = decimal entry.session ++ space ∷ decimal entry.item.line ++ newline ∷ []

-- the line `journal`, and after it the entries
abbrev pub journal_text : List (JournalEntry Numbered) → List ℕ
journal_text entries = (codes "journal" ++ newline ∷ []) ++ flat_map entry_text entries

-- what was printed of all sessions, and if it is asked for the journal
abbrev pub run_text : Bool → List (JournalEntry Numbered) → List (List ℕ) → List ℕ
run_text with_journal entries outputs = outputs_text outputs
    ++ (if with_journal then journal_text entries else [])
