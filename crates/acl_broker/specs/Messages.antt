-- What a list of messages holds.
use Rattle.std.specs.Prelude.{◌≡◌, Bool, true, false, List, [], ◌∷◌, ◌++◌, length, drop}
use Rattle.acl_broker.specs.declared.session_side.Message.{Message}
use Rattle.acl_broker.specs.declared.session_side.Message.TheVariants.{Item, EndMark}

module _ {I : Type 0} where
  -- the items in front of the end mark, or all of them if there is none
  abbrev pub items_of : List (Message I) → List I
  items_of [] = []
  items_of (Item item ∷ entries) = item ∷ items_of entries
  items_of (EndMark ∷ entries) = []

  -- whether an end mark stands among the messages
  abbrev pub has_end_mark : List (Message I) → Bool
  has_end_mark [] = false
  has_end_mark (Item item ∷ entries) = has_end_mark entries
  has_end_mark (EndMark ∷ entries) = true

-- what came out is the prefix of what went in
abbrev pub IsInOrder : {A : Type 0} → List A → List A → Type 0
IsInOrder out into = out ++ drop (length out) into ≡ into
