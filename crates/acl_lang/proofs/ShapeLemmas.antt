-- What a line asks for is what its words say, both ways.
use Rattle.std.proofs.Common.{◌≡◌, ◌≢◌, ◌∙◌, ℕ, List, [], ◌∷◌, Option, Some, None, Ok, Err, Bool, true, false, ◌⊎◌, ap, ap₂, codes, inl, inr, refl, subst, Result, if◌then◌else◌, bytes_eq}
use Rattle.std.proofs.lemmas.Slice.Eq.{bytes_eq-Decides}
use Rattle.acl_names.proofs.ReadListLemmas.{spelt-read}
use Rattle.acl_names.proofs.StepLemmas.{bind_ok, if_then, map_fault-ok}
use Rattle.acl_names.specs.Directory.{Known}
use Rattle.acl_names.specs.ListText.{Spells}
use Rattle.acl_names.specs.Names.{names_of}
use Rattle.acl_names.specs.Pieces.{after_word, first_word, pieces}
use Rattle.acl_names.specs.Steps.{◌>>=◌, map_fault}
use Rattle.acl_nfs4.specs.Ace.{Nfsace4}
use Rattle.acl_nfs4.specs.AceText.{piece_value}
use Rattle.acl_nfs4.specs.declared.inheritance.Kind.{Kind}
use Rattle.acl_nfs4.specs.declared.inheritance.Kind.TheVariants.{File, Dir}
use Rattle.acl_nfs4.specs.declared.limits.TheConstants.{MAX_ACES}
use Rattle.acl_nfs4.specs.declared.reading.PieceFault as aces
use Rattle.acl_posix.proofs.AclTextLemmas as posix
use Rattle.acl_posix.specs.AclText.{SpellsAcl}
use Rattle.acl_posix.specs.AclText.{acl_of as posix_acl_of}
use Rattle.acl_posix.specs.Entry.{EntryValue}
use Rattle.acl_tree.specs.Path.{is_path}
use Rattle.acl_tree.specs.declared.faults.LineFault.TheVariants.{BadPath, Syntax, TooMany}
use Rattle.acl_tree.specs.declared.request.Request.{Request}
use Rattle.acl_tree.specs.declared.request.Request.TheVariants.{Get, SetAccess, SetDefault, SetNfs4, Chmod, Create, Check, Check4, Translate, Bad}
use Rattle.acl_lang.specs.Commands.{asked_by, check, check4, chmod, command, create, get, set, set_access, set_default, set_list, set_nfs4, translate}
use Rattle.acl_lang.specs.Fields.{acl_of, aces_of, as_ace, default_of, kind_of, mask_of, mode_of, path_of, perms_of, user_of}
use Rattle.acl_lang.specs.Printed.{kind_text}
use Rattle.acl_lang.specs.Refusals.{Asked, acl_line_fault}
use Rattle.acl_lang.specs.Shapes.{AsksFor, IsPath, Says, Sets, SpellsDefault}
use Rattle.acl_lang.specs.Words.{words}
use Rattle.acl_lang.proofs.ListLemmas.{aces_of-spelt}

-- Tests that gave a value.

module _ {A F : Type 0} where
  -- which branch did
  branch : (b : Bool) (x y : Result A F) (value : A) → (if b then x else y) ≡ Ok value → ((b ≡ true) × (x ≡ Ok value)) ⊎ ((b ≡ false) × (y ≡ Ok value))
  branch true x y value is = inl (refl, is)
  branch false x y value is = inr (refl, is)

is_word : (text word : List ℕ) → bytes_eq text word ≡ true → text ≡ word
is_word text word same = (bytes_eq-Decides text word).0 same

is_other : (text word : List ℕ) → bytes_eq text word ≡ false → text ≢ word
is_other text word other is = let same = (bytes_eq-Decides text word).1 is in cc

other_is : (b : Bool) (text word : List ℕ) → bytes_eq text word ≡ b → text ≢ word → b ≡ false
other_is true text word same other = absurd (other (is_word text word same))
other_is false text word same other = refl

-- Lists that are read.

as_ace-ok : (r : Result Nfsace4 aces.PieceFault) (ace : Nfsace4) → as_ace r ≡ Ok ace → r ≡ Ok ace
as_ace-ok (Ok x) ace is = cc
as_ace-ok (Err fault) ace is = cc

module _ (known : Known) where
  aces_of-ok : (text : List ℕ) (list : List Nfsace4) → aces_of known text ≡ Ok list → Spells (piece_value known) MAX_ACES text list
  aces_of-ok text =
      spelt-read (piece_value known) (λ piece. as_ace (piece_value known piece)) TooMany MAX_ACES text (λ piece ace. as_ace-ok (piece_value known piece) ace)

  acl_of-ok : (text : List ℕ) (acl : List EntryValue) → acl_of known text ≡ Ok acl → SpellsAcl known text acl
  acl_of-ok text acl is = posix.acl_of-ok (names_of known) text acl (map_fault-ok acl_line_fault (posix_acl_of known (pieces text)) acl is)

  acl_of-spelt : (text : List ℕ) (acl : List EntryValue) → SpellsAcl known text acl → acl_of known text ≡ Ok acl
  acl_of-spelt text acl spells = ap (map_fault acl_line_fault) (posix.acl_of-spelt (names_of known) text acl spells)

  default_of-ok : (text : List ℕ) (default : Option (List EntryValue)) → default_of known text ≡ Ok default → SpellsDefault known text default
  default_of-ok text default is =
      elim (branch (bytes_eq text (codes "none")) (Ok None) (acl_of known text >>= (λ acl. Ok (Some acl))) default is) [
        | inl none ↦ subst (SpellsDefault known text) (let same : None ≡ default = cc in same) (is_word text (codes "none") none.0)
        | inr other ↦
            let read = bind_ok (acl_of known text) (λ acl. Ok (Some acl)) default other.1 in
            let same : Some read.0 ≡ default = cc in
            subst (SpellsDefault known text) same (is_other text (codes "none") other.0, acl_of-ok text read.0 read.1)
      ]

  default_of-spelt : (text : List ℕ) (default : Option (List EntryValue)) → SpellsDefault known text default → default_of known text ≡ Ok default
  default_of-spelt text None none = rw none refl
  default_of-spelt text (Some acl) (other, spells) =
      rw (other_is (bytes_eq text (codes "none")) text (codes "none") refl other, acl_of-spelt text acl spells) refl

-- Fields.

path_of-ok : (text path : List ℕ) → path_of text ≡ Ok path → (text ≡ path) × IsPath path
path_of-ok text path is =
    let test = if_then (is_path text) BadPath text path is in
    (test.1, subst IsPath test.1 test.0)

kind_of-ok : (text : List ℕ) (kind : Kind) → kind_of text ≡ Ok kind → text ≡ kind_text kind
kind_of-ok text kind is =
    elim (branch (bytes_eq text (codes "file")) (Ok File) (if bytes_eq text (codes "dir") then Ok Dir else Err Syntax) kind is) [
      | inl file ↦ let same : File ≡ kind = cc in is_word text (codes "file") file.0 ∙ ap kind_text same
      | inr other ↦
          let dir = if_then (bytes_eq text (codes "dir")) Syntax Dir kind other.1 in
          is_word text (codes "dir") dir.0 ∙ ap kind_text dir.1
    ]

kind_of-text : (kind : Kind) → kind_of (kind_text kind) ≡ Ok kind
kind_of-text File = refl
kind_of-text Dir = refl

-- Commands.

-- a path that is read first is the line's own
path_read : (text : List ℕ) (rest : List ℕ → Asked Request) (request : Request) → (path_of text >>= rest) ≡ Ok request
    → (path : List ℕ) × (text ≡ path) × IsPath path × (rest path ≡ Ok request)
path_read text rest request read =
    let at = bind_ok (path_of text) rest request read in
    let there = path_of-ok text at.0 at.1 in
    (at.0, there.0, there.1, at.2)

module _ (known : Known) (line : List ℕ) where
  get-asks : first_word line ≡ codes "get" → (fields : List (List ℕ)) → words (after_word line) ≡ fields → (request : Request) → get fields ≡ Ok request → AsksFor known line request
  unfolding get
  get-asks word [] are request read = cc
  get-asks word (path ∷ []) are request read =
      let at = path_read path _ request read in
      let same : Get at.0 ≡ request = cc in
      subst (AsksFor known line) same (record { command_is = word; fields_are = are ∙ ap (λ p. p ∷ []) at.1 }, at.2)
  get-asks word (path ∷ (more ∷ rest)) are request read = cc

  translate-asks : first_word line ≡ codes "translate" → (fields : List (List ℕ)) → words (after_word line) ≡ fields → (request : Request) → translate fields ≡ Ok request → AsksFor known line request
  unfolding translate
  translate-asks word [] are request read = cc
  translate-asks word (path ∷ []) are request read =
      let at = path_read path _ request read in
      let same : Translate at.0 ≡ request = cc in
      subst (AsksFor known line) same (record { command_is = word; fields_are = are ∙ ap (λ p. p ∷ []) at.1 }, at.2)
  translate-asks word (path ∷ (more ∷ rest)) are request read = cc

  chmod-asks : first_word line ≡ codes "chmod" → (fields : List (List ℕ)) → words (after_word line) ≡ fields → (request : Request) → chmod fields ≡ Ok request → AsksFor known line request
  unfolding chmod
  chmod-asks word [] are request read = cc
  chmod-asks word (path ∷ []) are request read = cc
  chmod-asks word (path ∷ (digits ∷ [])) are request read =
      let at = path_read path _ request read in
      let mode = bind_ok (mode_of digits) _ request at.3 in
      let same : Chmod at.0 mode.0 ≡ request = cc in
      subst (AsksFor known line) same (digits, record { command_is = word; fields_are = are ∙ ap (λ p. p ∷ digits ∷ []) at.1 }, at.2, mode.1)
  chmod-asks word (path ∷ (digits ∷ (more ∷ rest))) are request read = cc

  create-asks : first_word line ≡ codes "create" → (fields : List (List ℕ)) → words (after_word line) ≡ fields → (request : Request) → create known fields ≡ Ok request → AsksFor known line request
  unfolding create
  create-asks word [] are request read = cc
  create-asks word (kind ∷ []) are request read = cc
  create-asks word (kind ∷ (path ∷ [])) are request read = cc
  create-asks word (kind ∷ (path ∷ (name ∷ []))) are request read = cc
  create-asks word (kind ∷ (path ∷ (name ∷ (digits ∷ [])))) are request read =
      let made = bind_ok (kind_of kind) _ request read in
      let at = path_read path _ request made.2 in
      let user = bind_ok (user_of known name) _ request at.3 in
      let mode = bind_ok (mode_of digits) _ request user.2 in
      let same : Create made.0 at.0 user.0 mode.0 ≡ request = cc in
      subst (AsksFor known line) same (
        name,
        digits,
        record { command_is = word; fields_are = are ∙ ap₂ (λ k p. k ∷ p ∷ name ∷ digits ∷ []) (kind_of-ok kind made.0 made.1) at.1 },
        at.2,
        user.1,
        mode.1,
      )
  create-asks word (kind ∷ (path ∷ (name ∷ (digits ∷ (more ∷ rest))))) are request read = cc

  -- `check` and `check4`, whose last fields are read each in its way
  of_user-asks : {A : Type 0} (command : List ℕ) (read_last : List ℕ → Asked A) (ask : List ℕ → ℕ → A → Request)
      → ((path : List ℕ) (user : ℕ) (asked : A) → (name : List ℕ) × (letters : List ℕ) × Says line command (path ∷ name ∷ letters ∷ []) × IsPath path
      × (user_of known name ≡ Ok user) × (read_last letters ≡ Ok asked) → AsksFor known line (ask path user asked))
      → first_word line ≡ command → (path name letters : List ℕ) → words (after_word line) ≡ path ∷ name ∷ letters ∷ [] → (request : Request)
      → (path_of path >>= (λ path. user_of known name >>= (λ user. read_last letters >>= (λ asked. Ok (ask path user asked))))) ≡ Ok request → AsksFor known line request
  of_user-asks command read_last ask says word path name letters are request read =
      let at = path_read path _ request read in
      let user = bind_ok (user_of known name) _ request at.3 in
      let last = bind_ok (read_last letters) _ request user.2 in
      let same : ask at.0 user.0 last.0 ≡ request = cc in
      let fields = are ∙ ap (λ p. p ∷ name ∷ letters ∷ []) at.1 in
      subst (AsksFor known line) same (says at.0 user.0 last.0 (name, letters, record { command_is = word; fields_are = fields }, at.2, user.1, last.1))

  check-asks : first_word line ≡ codes "check" → (fields : List (List ℕ)) → words (after_word line) ≡ fields → (request : Request) → check known fields ≡ Ok request → AsksFor known line request
  unfolding check
  check-asks word [] are request read = cc
  check-asks word (path ∷ []) are request read = cc
  check-asks word (path ∷ (name ∷ [])) are request read = cc
  check-asks word (path ∷ (name ∷ (letters ∷ []))) are request read = of_user-asks (codes "check") perms_of Check (λ path user asked says. says) word path name letters are request read
  check-asks word (path ∷ (name ∷ (letters ∷ (more ∷ rest)))) are request read = cc

  check4-asks : first_word line ≡ codes "check4" → (fields : List (List ℕ)) → words (after_word line) ≡ fields → (request : Request) → check4 known fields ≡ Ok request → AsksFor known line request
  unfolding check4
  check4-asks word [] are request read = cc
  check4-asks word (path ∷ []) are request read = cc
  check4-asks word (path ∷ (name ∷ [])) are request read = cc
  check4-asks word (path ∷ (name ∷ (letters ∷ []))) are request read = of_user-asks (codes "check4") mask_of Check4 (λ path user asked says. says) word path name letters are request read
  check4-asks word (path ∷ (name ∷ (letters ∷ (more ∷ rest)))) are request read = cc

  -- `set`, whose words are cut one by one, and whose kinds of lists are read each in its way
  of_list-asks : {A : Type 0} (read_list : List ℕ → Asked A) (ask : List ℕ → A → Request) (path kind text : List ℕ) (request : Request)
      → ((path : List ℕ) (list : A) → Sets line path kind text → IsPath path → read_list text ≡ Ok list → AsksFor known line (ask path list))
      → Sets line path kind text → (path_of path >>= (λ path. read_list text >>= (λ list. Ok (ask path list)))) ≡ Ok request → AsksFor known line request
  of_list-asks read_list ask path kind text request says sets read =
      let at = path_read path _ request read in
      let list = bind_ok (read_list text) _ request at.3 in
      let same : ask at.0 list.0 ≡ request = cc in
      subst (AsksFor known line) same (says at.0 list.0 (subst (λ p. Sets line p kind text) at.1 sets) at.2 list.1)

  set-asks : first_word line ≡ codes "set" → (path kind text : List ℕ) → first_word (after_word line) ≡ path → first_word (after_word (after_word line)) ≡ kind
      → after_word (after_word (after_word line)) ≡ text → (request : Request) → set_list known path kind text ≡ Ok request → AsksFor known line request
  unfolding set_access set_default set_nfs4
  set-asks word path kind [] path_is kind_is text_is request read = cc
  set-asks word path kind (byte ∷ bytes) path_is kind_is text_is request read =
      let text = byte ∷ bytes in
      let sets : (name : List ℕ) → bytes_eq kind name ≡ true → Sets line path name text = λ name same. record {
        command_is = word;
        path_is = path_is;
        kind_is = kind_is ∙ is_word kind name same;
        text_is = text_is;
        filled = λ none. cc;
      } in
      elim (branch (bytes_eq kind (codes "access")) (set_access known path text) _ request read) [
        | inl access ↦
            of_list-asks (acl_of known) SetAccess path (codes "access") text request
            (λ path acl says there is. (text, says, there, acl_of-ok known text acl is))
            (sets (codes "access") access.0) access.1
        | inr other ↦ elim (branch (bytes_eq kind (codes "default")) (set_default known path text) _ request other.1) [
          | inl default ↦
              of_list-asks (default_of known) SetDefault path (codes "default") text request
              (λ path acl says there is. (text, says, there, default_of-ok known text acl is))
              (sets (codes "default") default.0) default.1
          | inr another ↦ elim (branch (bytes_eq kind (codes "nfs4")) (set_nfs4 known path text) _ request another.1) [
            | inl nfs4 ↦
                of_list-asks (aces_of known) SetNfs4 path (codes "nfs4") text request
                (λ path aces says there is. (text, says, there, aces_of-ok known text aces is))
                (sets (codes "nfs4") nfs4.0) nfs4.1
            | inr none ↦ let wrong = none.1 in cc
          ]
        ]
      ]

  -- what is asked for, the words say
  pub asked_by-asks : (request : Request) → asked_by known line ≡ Ok request → AsksFor known line request
  unfolding command
  asked_by-asks request read =
      let word = first_word line in
      let fields = after_word line in
      let is : (text : List ℕ) → bytes_eq word text ≡ true → first_word line ≡ text = λ text same. is_word word text same in
      elim (branch (bytes_eq word (codes "get")) (get (words fields)) _ request read) [
        | inl one ↦ get-asks (is (codes "get") one.0) (words fields) refl request one.1
        | inr read2 ↦ elim (branch (bytes_eq word (codes "set")) (set known fields) _ request read2.1) [
          | inl one ↦ set-asks (is (codes "set") one.0) _ _ _ refl refl refl request one.1
          | inr read3 ↦ elim (branch (bytes_eq word (codes "chmod")) (chmod (words fields)) _ request read3.1) [
            | inl one ↦ chmod-asks (is (codes "chmod") one.0) (words fields) refl request one.1
            | inr read4 ↦ elim (branch (bytes_eq word (codes "create")) (create known (words fields)) _ request read4.1) [
              | inl one ↦ create-asks (is (codes "create") one.0) (words fields) refl request one.1
              | inr read5 ↦ elim (branch (bytes_eq word (codes "check")) (check known (words fields)) _ request read5.1) [
                | inl one ↦ check-asks (is (codes "check") one.0) (words fields) refl request one.1
                | inr read6 ↦ elim (branch (bytes_eq word (codes "check4")) (check4 known (words fields)) _ request read6.1) [
                  | inl one ↦ check4-asks (is (codes "check4") one.0) (words fields) refl request one.1
                  | inr read7 ↦ elim (branch (bytes_eq word (codes "translate")) (translate (words fields)) _ request read7.1) [
                    | inl one ↦ translate-asks (is (codes "translate") one.0) (words fields) refl request one.1
                    | inr none ↦ let wrong = none.1 in cc
                  ]
                ]
              ]
            ]
          ]
        ]
      ]

  -- what the words say is asked for

  path_of-is : (path : List ℕ) → IsPath path → path_of path ≡ Ok path
  path_of-is path is = rw is refl

  list_said : {A : Type 0} (read_list : List ℕ → Asked A) (list : A) (path kind text : List ℕ) (request : Request) → Sets line path kind text → read_list text ≡ Ok list
      → ((byte : ℕ) (bytes : List ℕ) → read_list (byte ∷ bytes) ≡ Ok list → set_list known path kind (byte ∷ bytes) ≡ Ok request) → asked_by known line ≡ Ok request
  unfolding command
  list_said read_list list path kind [] request says read reads = absurd (says.filled refl)
  list_said read_list list path kind (byte ∷ bytes) request says read reads = rw (says.command_is, says.path_is, says.kind_is, says.text_is) (reads byte bytes read)

  pub asks-asked_by : (request : Request) → AsksFor known line request → asked_by known line ≡ Ok request
  unfolding command get translate chmod create check check4 set_access set_default set_nfs4
  asks-asked_by (Get path) (says, there) = rw (says.command_is, says.fields_are, path_of-is path there) refl
  asks-asked_by (Translate path) (says, there) = rw (says.command_is, says.fields_are, path_of-is path there) refl
  asks-asked_by (Chmod path mode) (digits, says, there, mode_is) = rw (says.command_is, says.fields_are, path_of-is path there, mode_is) refl
  asks-asked_by (Create kind path user mode) (name, digits, says, there, user_is, mode_is) =
      rw (says.command_is, says.fields_are, kind_of-text kind, path_of-is path there, user_is, mode_is) refl
  asks-asked_by (Check path user perms) (name, letters, says, there, user_is, perms_are) =
      rw (says.command_is, says.fields_are, path_of-is path there, user_is, perms_are) refl
  asks-asked_by (Check4 path user mask) (name, letters, says, there, user_is, mask_is) =
      rw (says.command_is, says.fields_are, path_of-is path there, user_is, mask_is) refl
  asks-asked_by (SetAccess path acl) (text, says, there, spells) =
      list_said (acl_of known) acl path (codes "access") text (SetAccess path acl) says (acl_of-spelt known text acl spells) (λ byte bytes read. rw (path_of-is path there, read) refl)
  asks-asked_by (SetDefault path default) (text, says, there, spells) =
      list_said (default_of known) default path (codes "default") text (SetDefault path default) says
      (default_of-spelt known text default spells) (λ byte bytes read. rw (path_of-is path there, read) refl)
  asks-asked_by (SetNfs4 path aces) (text, says, there, spells) =
      list_said (aces_of known) aces path (codes "nfs4") text (SetNfs4 path aces) says (aces_of-spelt known text aces spells) (λ byte bytes read. rw (path_of-is path there, read) refl)
  asks-asked_by (Bad fault) never = absurd never
