-- What is reported of what decides whether a file may be deleted, text by text.
use Rattle.std.proofs.Common.{◌≡◌, ◌∙◌, ◌++◌, ◌&&◌, ◌||◌, [], ℕ, Bool, true, false, cond, List, None, Option, Some, ap, append-nil, codes, refl, sym}
use Rattle.std.specs.Prelude.{is_none, is_some}
use Rattle.std.proofs.lemmas.List.{append_assoc}
use Rattle.acl_access.specs.Deletes.{delete, delete_child, owns, said_of}
use Rattle.acl_names.specs.Requester.{Identity}
use Rattle.acl_listing_queries.specs.WhyDeletion.{FileAt, adding_text, deletion_reasons, is_open, said_text, sticky_lines}

-- where one of both says something, or neither does
pub shut_first : (one other : Option Bool) → is_some one ≡ true → (is_none one && is_none other) ≡ false
shut_first (Some said) other is = refl
shut_first None other is = cc

pub shut_second : (one other : Option Bool) → is_some other ≡ true → (is_none one && is_none other) ≡ false
shut_second (Some said) other is = refl
shut_second None (Some said) is = refl
shut_second None None is = cc

pub open_both : (one other : Option Bool) → is_some one ≡ false → is_some other ≡ false → (is_none one && is_none other) ≡ true
open_both None None is other_is = refl
open_both (Some said) other is other_is = cc
open_both None (Some said) is other_is = cc

module _ (sticky : Bool) (folder file : FileAt) (who : Identity) (out first second : List ℕ)
    (first_is : first ≡ out ++ said_text (codes "delete") (said_of file.file who delete) delete file who)
    (second_is : second ≡ first ++ said_text (codes "delete-child") (said_of folder.file who delete_child) delete_child folder who) where
  abbrev one : List ℕ
  one = said_text (codes "delete") (said_of file.file who delete) delete file who

  abbrev two : List ℕ
  two = said_text (codes "delete-child") (said_of folder.file who delete_child) delete_child folder who

  abbrev rest : List ℕ
  rest = adding_text folder who ++ sticky_lines sticky (owns folder.file who || owns file.file who) folder file

  both_said : second ≡ out ++ (one ++ two)
  both_said = second_is ∙ ap (λ (front : List ℕ). front ++ two) first_is ∙ append_assoc out one two

  pub reasons_said : is_open folder.file file.file who ≡ false → second ≡ out ++ deletion_reasons sticky folder file who
  reasons_said shut = both_said ∙ ap (λ (text : List ℕ). out ++ text) (sym (append-nil (one ++ two)) ∙ ap (λ b. (one ++ two) ++ cond b rest []) (sym shut))

  pub reasons_open : (third fourth : List ℕ) → third ≡ second ++ adding_text folder who
      → fourth ≡ third ++ sticky_lines sticky (owns folder.file who || owns file.file who) folder file
      → is_open folder.file file.file who ≡ true → fourth ≡ out ++ deletion_reasons sticky folder file who
  reasons_open third fourth third_is fourth_is open_is =
      fourth_is ∙ ap (λ (front : List ℕ). front ++ sticky_lines sticky (owns folder.file who || owns file.file who) folder file) third_is
      ∙ append_assoc second (adding_text folder who) (sticky_lines sticky (owns folder.file who || owns file.file who) folder file)
      ∙ ap (λ (front : List ℕ). front ++ rest) both_said ∙ append_assoc out (one ++ two) rest
      ∙ ap (λ b. out ++ ((one ++ two) ++ cond b rest [])) (sym open_is)
