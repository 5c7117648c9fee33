-- A listing that is answered one block further.
use Rattle.std.proofs.Common.{◌≡◌, ◌∙◌, ◌++◌, ◌||◌, ℕ, Bool, true, false, cond, List, [], ◌∷◌, Option, Some, None, Err, IfSome, ap, append_assoc, append-nil, bytes_eq, is_none, refl, subst, sym}
use Rattle.std.specs.Cmp.Lexicographic.{same_text}
use Rattle.std.specs.List.{list_any}
use Rattle.std.specs.Option.{option_map_or}
use Rattle.std.proofs.Math.Bool.{or-false}
use Rattle.std.proofs.lemmas.Bool.{true≢false}
use Rattle.std.proofs.lemmas.List.Folds.{list_any-append}
use Rattle.std.proofs.lemmas.List.Sums.{fold-append}
use Rattle.acl_names.specs.Names.{Names}
use Rattle.acl_listings.specs.Block.{path_of}
use Rattle.acl_listings.specs.Cursor.{HandsOut, IsOver}
use Rattle.acl_listings.specs.Listing.{Block}
use Rattle.acl_listings.specs.declared.fault.BlockFault.{BlockFault}
use Rattle.acl_reports.specs.Listed.{AreSaid, IsSaid, Item, Part, counted, fault_in, items_after, no_blocks, with_item, with_stranger_of}
use Rattle.acl_reports.specs.Strangers.{no_strangers, with_stranger}
use Rattle.acl_reports.specs.declared.counts.Counts.{Counts}
use Rattle.acl_reports.specs.declared.stranger.Stranger.{Stranger}
use Rattle.acl_reports.specs.declared.strangers.Strangers.{Strangers}
use Rattle.acl_reports.specs.declared.tally.Tally.{Tally}
use Rattle.acl_listing_changes.specs.Changes.{part_of, unless_repeated}
use Rattle.acl_listing_changes.specs.RestoreLaws.{text_has}
use Rattle.acl_listing_changes.proofs.SidesLemmas.{some_repeated}
use Rattle.acl_listing_reach.specs.AnsweredSteps.{AreAnswered, AreItemsTo, AreListed, IsAnsweredTo, IsPartBy, letters_unless}
use Rattle.acl_listing_reach.specs.Once.{At, has_path, is_at, is_repeated, known_of, part_once, paths_of, unless_faulty, with_block, with_path}

-- ---- what a block results in, if it is the first of its path

-- what is wrong with it, what is said of it, and what is known by it
pub record IsOnce (name : List ℕ) (names : Names) (block : Block) (part : Part) (fault : Option BlockFault) (letters : List ℕ) : Type 0 where
  pub fault_is : fault_in part ≡ fault
  pub known_is : known_of part ≡ letters_unless fault letters
  pub said_is : (said : List ℕ) → IsSaid name names block (part_of fault) said → IsSaid name names block part said

module _ (name : List ℕ) (names : Names) (block : Block) (letters : List ℕ) where
  faulty_once : (own fault : BlockFault) → IsOnce name names block (unless_faulty (Some fault) (Err own)) (Some fault) letters
  faulty_once own fault = record { fault_is = refl; known_is = refl; said_is = λ said is. is }

  always_faulty : (own : BlockFault) (fault : Option BlockFault) → is_none fault ≡ false → IsOnce name names block (unless_faulty fault (Err own)) fault letters
  always_faulty own None none = absurd (true≢false none)
  always_faulty own (Some fault) some = faulty_once own fault

  by_fault : (repeated : Bool) (part : Part) (own : Option BlockFault) → IsPartBy part own letters
      → IsOnce name names block (unless_faulty (unless_repeated repeated (fault_in part)) part) (unless_repeated repeated own) letters
  by_fault true part None is =
      subst (λ (part : Part). IsOnce name names block (unless_faulty (unless_repeated true (fault_in part)) part) (unless_repeated true None) letters) (sym is)
      (record { fault_is = refl; known_is = refl; said_is = λ said is. is })
  by_fault false part None is =
      subst (λ (part : Part). IsOnce name names block (unless_faulty (unless_repeated false (fault_in part)) part) (unless_repeated false None) letters) (sym is)
      (record { fault_is = refl; known_is = refl; said_is = λ said is. is })
  by_fault true part (Some own) is =
      subst (λ (part : Part). IsOnce name names block (unless_faulty (unless_repeated true (fault_in part)) part) (unless_repeated true (Some own)) letters) (sym is)
      (always_faulty own (unless_repeated true (Some own)) (some_repeated (Some own)))
  by_fault false part (Some own) is =
      subst (λ (part : Part). IsOnce name names block (unless_faulty (unless_repeated false (fault_in part)) part) (unless_repeated false (Some own)) letters) (sym is)
      (record { fault_is = refl; known_is = refl; said_is = λ said is. is })

-- ---- the paths that are known

same_path : (one other : List ℕ) → bytes_eq one other ≡ true → one ≡ other
same_path one other is = same_text one other (sym is)

-- a path that is known, or a new one
listed_once : (known : List At) (path : List ℕ) (letters : Option (List ℕ)) (there : Bool) → has_path path known ≡ there → (asked : List ℕ)
    → has_path asked (cond there known (known ++ record { path = path; letters = letters } ∷ [])) ≡ (has_path asked known || bytes_eq asked path)
listed_once known path letters true there asked = by (bytes_eq asked path) refl
  where
    by : (b : Bool) → bytes_eq asked path ≡ b → has_path asked known ≡ (has_path asked known || b)
    by true is =
        let known_asked : has_path asked known ≡ true = subst (λ path. has_path path known ≡ true) (sym (same_path asked path is)) there in
        known_asked ∙ sym (ap (λ b. b || true) known_asked)
    by false is = sym (or-false (has_path asked known))
listed_once known path letters false there asked =
    list_any-append (is_at asked) known (record { path = path; letters = letters } ∷ [])
    ∙ ap (λ b. has_path asked known || b) (or-false (bytes_eq asked path))

listed_by : (known : List At) (found : Option (List ℕ)) (letters : Option (List ℕ)) (asked : List ℕ)
    → has_path asked (with_path known found letters) ≡ (has_path asked known || option_map_or (bytes_eq asked) found false)
listed_by known None letters asked = sym (or-false (has_path asked known))
listed_by known (Some path) letters asked = listed_once known path letters (has_path path known) refl asked

pub listed_more : (earlier : List (List ℕ)) (known : List At) → AreListed earlier known → (text : List ℕ) (letters : Option (List ℕ))
    → AreListed (earlier ++ text ∷ []) (with_path known (path_of text) letters)
listed_more earlier known listed text letters asked =
    listed_by known (path_of text) letters asked
    ∙ ap (λ b. b || text_has asked text) (listed asked)
    ∙ ap (λ b. list_any (text_has asked) earlier || b) (sym (or-false (text_has asked text)))
    ∙ sym (list_any-append (text_has asked) earlier (text ∷ []))

-- whether the path of a text is known
pub repeated_by : (earlier : List (List ℕ)) (known : List At) → AreListed earlier known → (text : List ℕ)
    → option_map_or (λ path. has_path path known) (path_of text) false ≡ is_repeated earlier text
repeated_by earlier known listed text = by (path_of text)
  where
    by : (found : Option (List ℕ)) → option_map_or (λ path. has_path path known) found false ≡ option_map_or (λ path. list_any (text_has path) earlier) found false
    by None = refl
    by (Some path) = listed path

-- ---- one block more

said_more : (name : List ℕ) (names : Names) (items : List Item) (said : List ℕ) → AreSaid name names items said → (item : Item) (more : List ℕ) → IsSaid name names item.block item.part more
    → AreSaid name names (items ++ item ∷ []) (said ++ more)
said_more name names [] said none item more is = (more, [], is, refl, ap (λ said. said ++ more) none ∙ sym (append-nil more))
said_more name names (first ∷ items) said (one, rest, here, all, same) item more is =
    (one, rest ++ more, here, said_more name names items rest all item more is, ap (λ said. said ++ more) same ∙ append_assoc one rest more)

pub answered_more : (name : List ℕ) (names : Names) (stranger : List ℕ → Option Stranger) (items : List Item) (known : List At) (said : List ℕ) (counts : Counts)
    → AreAnswered name names stranger items known said counts
    → (block : Block) (part : Part) (repeated : Bool) (own : Option BlockFault) (letters : List ℕ) → IsPartBy part own letters
    → (known' : List At) → known' ≡ with_path known (path_of block.text) (letters_unless (unless_repeated repeated own) letters)
    → (more said' : List ℕ) → IsSaid name names block (part_of (unless_repeated repeated own)) more → said' ≡ said ++ more
    → (counts' : Counts) → counts'.tally ≡ counted counts.tally block.text (unless_repeated repeated own) → counts'.strangers ≡ with_stranger counts.strangers block.line (stranger block.text)
    → AreAnswered name names stranger (items ++ record { block = block; part = unless_faulty (unless_repeated repeated (fault_in part)) part } ∷ []) known' said' counts'
answered_more name names stranger items known said counts was block part repeated own letters is known' known_is more said' said_is said'_is counts' tally_is strangers_are =
    let once = by_fault name names block letters repeated part own is in
    let item : Item = record { block = block; part = unless_faulty (unless_repeated repeated (fault_in part)) part } in
    let all : AreSaid name names (items ++ item ∷ []) (said ++ more) = said_more name names items said was.said_are item more (once.said_is more said_is) in
    record {
      known_is = known_is
          ∙ ap (λ known. with_path known (path_of block.text) (letters_unless (unless_repeated repeated own) letters)) was.known_is
          ∙ ap (with_path (paths_of items) (path_of block.text)) (sym once.known_is)
          ∙ sym (fold-append with_block [] items (item ∷ []));
      said_are = subst (AreSaid name names (items ++ item ∷ [])) (sym said'_is) all;
      tally_is = tally_is ∙ ap (counted counts.tally block.text) (sym once.fault_is) ∙ ap (λ (tally : Tally). with_item tally item) was.tally_is
          ∙ sym (fold-append with_item no_blocks items (item ∷ []));
      strangers_are = strangers_are ∙ ap (λ (strangers : Strangers). with_stranger_of stranger strangers item) was.strangers_are
          ∙ sym (fold-append (with_stranger_of stranger) no_strangers items (item ∷ []));
    }

-- ---- the blocks that are still to come

pub items_begun : (part : List (List ℕ) → List ℕ → Part) (coming : Option (List Block)) → AreItemsTo part coming [] [] coming
items_begun part None = tt
items_begun part (Some blocks) = refl

pub items_on : (part : List (List ℕ) → List ℕ → Part) (coming : Option (List Block)) (items : List Item) (earlier : List (List ℕ)) (old new : Option (List Block)) (block : Block)
    → AreItemsTo part coming items earlier old → HandsOut old block new
    → AreItemsTo part coming (items ++ record { block = block; part = part_once part earlier block.text } ∷ []) (earlier ++ block.text ∷ []) new
items_on part None items earlier old new block are hands = tt
items_on part (Some blocks) items earlier None new block are hands = absurd are
items_on part (Some blocks) items earlier (Some left) None block are hands = absurd hands
items_on part (Some blocks) items earlier (Some left) (Some more) block are hands =
    are ∙ ap (λ blocks. items ++ items_after (part_once part) earlier blocks) hands
    ∙ sym (append_assoc items (record { block = block; part = part_once part earlier block.text } ∷ []) (items_after (part_once part) (earlier ++ block.text ∷ []) more))

items_over : (part : List (List ℕ) → List ℕ → Part) (blocks : List Block) (items : List Item) (earlier : List (List ℕ)) (old : Option (List Block))
    → AreItemsTo part (Some blocks) items earlier old → IsOver old → items_after (part_once part) [] blocks ≡ items
items_over part blocks items earlier None are over = absurd are
items_over part blocks items earlier (Some left) are over = are ∙ ap (λ blocks. items ++ items_after (part_once part) earlier blocks) over ∙ append-nil items

-- all of them are answered
pub answered_all : (Stands : List (List ℕ) → Type 0) (part : List (List ℕ) → List ℕ → Part) (stranger : List ℕ → Option Stranger) (name : List ℕ) (names : Names)
    (coming left : Option (List Block)) (known : List At) (said : List ℕ) (counts : Counts) → IsAnsweredTo Stands part stranger name names coming left known said counts → IsOver left
    → IfSome coming (λ blocks. AreAnswered name names stranger (items_after (part_once part) [] blocks) known said counts)
answered_all Stands part stranger name names coming left known said counts to over = by coming to.items_are
  where
    by : (coming : Option (List Block)) → AreItemsTo part coming to.items to.earlier left
        → IfSome coming (λ blocks. AreAnswered name names stranger (items_after (part_once part) [] blocks) known said counts)
    by None are = tt
    by (Some blocks) are = subst (λ items. AreAnswered name names stranger items known said counts) (sym (items_over part blocks to.items to.earlier left are over)) to.answered

pub answered_none : (Stands : List (List ℕ) → Type 0) → Stands [] → (part : List (List ℕ) → List ℕ → Part) (stranger : List ℕ → Option Stranger) (name : List ℕ) (names : Names)
    (coming : Option (List Block)) (known : List At) (said : List ℕ) (counts : Counts) → known ≡ [] → said ≡ [] → counts.tally ≡ no_blocks → counts.strangers ≡ no_strangers
    → IsAnsweredTo Stands part stranger name names coming coming known said counts
answered_none Stands stands part stranger name names coming known said counts known_is said_is tally_is strangers_are = record {
  earlier = [];
  stands = stands;
  items = [];
  items_are = items_begun part coming;
  answered = record { known_is = known_is; said_are = said_is; tally_is = tally_is; strangers_are = strangers_are };
  listed = λ path. ap (has_path path) known_is;
}

pub answered_on : (Old New : List (List ℕ) → Type 0) (part : List (List ℕ) → List ℕ → Part) (stranger : List ℕ → Option Stranger) (name : List ℕ) (names : Names)
    (coming old new : Option (List Block)) (block : Block) (known known' : List At) (said said' : List ℕ) (counts counts' : Counts)
    (was : IsAnsweredTo Old part stranger name names coming old known said counts) → HandsOut old block new
    → ((earlier : List (List ℕ)) → Old earlier → New (earlier ++ block.text ∷ []))
    → ((earlier : List (List ℕ)) (items : List Item) → Old earlier → AreListed earlier known → AreAnswered name names stranger items known said counts
    → AreAnswered name names stranger (items ++ record { block = block; part = part_once part earlier block.text } ∷ []) known' said' counts' × AreListed (earlier ++ block.text ∷ []) known')
    → IsAnsweredTo New part stranger name names coming new known' said' counts'
answered_on Old New part stranger name names coming old new block known known' said said' counts counts' was hands stands more =
    let both = more was.earlier was.items was.stands was.listed was.answered in
    record {
      earlier = was.earlier ++ block.text ∷ [];
      stands = stands was.earlier was.stands;
      items = was.items ++ record { block = block; part = part_once part was.earlier block.text } ∷ [];
      items_are = items_on part coming was.items was.earlier old new block was.items_are hands;
      answered = both.0;
      listed = both.1;
    }
