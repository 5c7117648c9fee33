-- That `why --delete` answers as `who --delete` does.
use Rattle.std.proofs.Common.{◌≡◌, ◌∙◌, ◌&&◌, ◌∷◌, [], ℕ, Bool, true, false, cond, Err, List, None, Ok, Option, Result, Some, ap, append-nil, map, refl, reverse, subst, sym}
use Rattle.std.specs.List.{flat_map}
use Rattle.std.proofs.lemmas.List.{append_assoc}
use Rattle.acl_access.specs.Deletes.{deletes}
use Rattle.acl_access.specs.Paths.{printed_path}
use Rattle.acl_access.specs.Reach.{reaches}
use Rattle.acl_access.specs.Who.{may_line}
use Rattle.acl_access.specs.declared.rules.Rules.{Rules}
use Rattle.acl_listings.specs.Block.{FileValue}
use Rattle.acl_listings.specs.declared.fault.BlockFault.{BlockFault}
use Rattle.acl_listings.proofs.PathLemmas.{path_of-file}
use Rattle.acl_names.specs.Names.{Names}
use Rattle.acl_people.specs.Person.{Person}
use Rattle.acl_queries.specs.DecideAnswer.{answer_line}
use Rattle.acl_reports.specs.Files.{file_of, files_of}
use Rattle.acl_listing_queries.specs.DeletionLaws.{Agree, DeletionsAgree}
use Rattle.acl_listing_queries.specs.Readings.{Reading, reading_of}
use Rattle.acl_listing_queries.specs.Ways.{begins_apart, chain_to, folder_of, holds, is_sticky, way_of, with_folder}
use Rattle.acl_listing_queries.specs.WhoPart as who
use Rattle.acl_listing_queries.specs.WhyDeletion.{deletion_reasons}
use Rattle.acl_listing_queries.specs.WhyText as why

nothing : {X : Type 0} (item : X) → None ≡ Some item → ⊥
nothing item is = cc

module _ (names : Names) (rules : Rules) (person : Person) where
  abbrev asks : why.WhyAsking
  asks = record { names = names; rules = rules; who = person.who; sought = why.Deletion }

  abbrev asked : who.Asking
  asked = record { names = names; rules = rules; persons = person ∷ []; question = who.Deletion; reach = true }

  abbrev line_of : List ℕ → List ℕ
  line_of path = may_line (printed_path path) person.name

  -- a folder that reads, and those above it
  module _ (file : FileValue) (folder : FileValue) (head : Reading) (way : List Reading) (above : List FileValue) (head_is : head.file ≡ Ok folder) where
    agree_in : Agree (line_of file.path) (why.why_on asks (head ∷ way) file (Some (folder ∷ above))) (who.part_on asked (is_sticky (head ∷ way)) file (Some (folder ∷ above)))
    agree_in =
        let granted : Bool = deletes folder.flags.sticky (file_of rules folder) (file_of rules file) person.who && reaches (file_of rules folder ∷ files_of rules above) person.who in
        rw head_is (granted, (_, append_assoc (answer_line granted) (flat_map (why.folder_text rules person.who) (reverse (record { path = head.path; file = Ok folder } ∷ way))) (deletion_reasons folder.flags.sticky (why.file_at rules folder) (why.file_at rules file) person.who)), append-nil (cond granted (line_of file.path) []))

  -- the folders of a way that is known
  agree_on : (file : FileValue) (here : Reading) (way : List Reading) (known : Option (List FileValue)) → chain_to way here ≡ known
      → Agree (line_of file.path) (why.why_on asks way file known) (who.part_on asked (is_sticky way) file known)
  agree_on file here way None is = refl
  agree_on file here [] (Some []) is = (refl, refl)
  agree_on file here [] (Some (folder ∷ above)) is = cc
  agree_on file here (head ∷ way) (Some files) is = by (holds head.path here.path) head.file (chain_to way head) refl refl files is
    where
      by : (b : Bool) (said : Result FileValue BlockFault) (rest : Option (List FileValue)) → head.file ≡ said → chain_to way head ≡ rest → (files : List FileValue)
          → cond b (with_folder (folder_of head) (chain_to way head)) None ≡ Some files
          → Agree (line_of file.path) (why.why_on asks (head ∷ way) file (Some files)) (who.part_on asked (is_sticky (head ∷ way)) file (Some files))
      by false said rest said_is rest_is files is = cc
      by true (Err fault) rest said_is rest_is files is = absurd (nothing files (sym (ap (λ said. with_folder (folder_of (record { path = head.path; file = said })) (chain_to way head)) said_is) ∙ is))
      by true (Ok folder) None said_is rest_is files is = absurd (nothing files (sym (ap (with_folder (folder_of head)) rest_is ∙ ap (λ said. with_folder (folder_of (record { path = head.path; file = said })) None) said_is) ∙ is))
      by true (Ok folder) (Some above) said_is rest_is files is =
          let are : Some (folder ∷ above) ≡ Some files = sym (ap (with_folder (folder_of head)) rest_is ∙ ap (λ said. with_folder (folder_of (record { path = head.path; file = said })) (Some above)) said_is) ∙ is in
          subst (λ known. Agree (line_of file.path) (why.why_on asks (head ∷ way) file known) (who.part_on asked (is_sticky (head ∷ way)) file known)) are
          (agree_in file folder head way above said_is)

  agree_known : (file : FileValue) (here : Reading) (way : List Reading) (b : Bool)
      → Agree (line_of file.path) (why.why_on asks way file (cond b (chain_to way here) None)) (who.part_on asked (is_sticky way) file (cond b (chain_to way here) None))
  agree_known file here way true = agree_on file here way (chain_to way here) refl
  agree_known file here way false = refl

  agree_by : (said : Result FileValue BlockFault) (path : List ℕ) (here : Reading) (way : List Reading) (b : Bool) → ((file : FileValue) → said ≡ Ok file → file.path ≡ path)
      → Agree (line_of path) (why.why_by asks way said (cond b (chain_to way here) None)) (who.part_by asked (is_sticky way) said (cond b (chain_to way here) None))
  agree_by (Ok file) path here way b is =
      subst (λ path. Agree (line_of path) (why.why_on asks way file (cond b (chain_to way here) None)) (who.part_on asked (is_sticky way) file (cond b (chain_to way here) None))) (is file refl)
      (agree_known file here way b)
  agree_by (Err fault) path here way b is = refl

pub deletions_agree : DeletionsAgree
deletions_agree names rules person earlier text path is =
    let here : Reading = reading_of names text in
    let before : List Reading = map (reading_of names) earlier in
    agree_by names rules person here.file path here (way_of before here) (begins_apart before here)
    (λ file reads. same (sym (path_of-file names text file reads) ∙ is))
  where
    same : {one other : List ℕ} → Some one ≡ Some other → one ≡ other
    same is = cc
