-- What the words ask by reach, and what was asked.
use Rattle.std.proofs.Common.{◌≡◌, ◌∙◌, ◌&&◌, Bool, false, List, None, Ok, Option, Result, ap, ap₂, codes, inl, inr, refl, subst, sym, ℕ}
use Rattle.clap.specs.Words.{Row, Text, first_of}
use Rattle.acl_cli.proofs.CommandsLemmas.{Comes-as}
use Rattle.acl_cli.specs.Commands.{Answer, Comes}
use Rattle.acl_cli.specs.ErrorOutput.{ErrorText}
use Rattle.acl_cli.specs.declared.command.Ending.{Ending}
use Rattle.acl_cli.specs.declared.failure.Failure.{Failure}
use Rattle.acl_names.specs.Names.{Names}
use Rattle.acl_people.specs.Host.{Host, IsHost}
use Rattle.acl_people.specs.People.{asked_in}
use Rattle.acl_people.specs.Person.{Person}
use Rattle.acl_reports.specs.Listed.{Part}
use Rattle.acl_reports.specs.ListingMeaning.{is_input}
use Rattle.acl_reports.specs.declared.stranger.Stranger.{Stranger}
use Rattle.acl_listing_changes.specs.ChangeMeaning.{after_in, before_in, is_input_twice}
use Rattle.acl_listing_reach.specs.CommandSteps.{asked_meaning}
use Rattle.acl_listing_reach.specs.ReachAnswer.{Side}
use Rattle.acl_listing_reach.specs.ReachMeaning.{AreAskedAfter, reach_meaning}
use Rattle.acl_listing_reach.specs.ReachText.{ReachAsking}
use Rattle.acl_listing_reach.specs.Sources.{OfSources, Source, source_named}

-- what is said of the names is said of what the words have
pub twice_of : (before before' after after' : List ℕ) → before ≡ before' → after ≡ after' → (b : Bool) → b ≡ (is_input before && is_input after)
    → (is_input before' && is_input after') ≡ b
twice_of before before' after after' before_is after_is b is =
    sym (is ∙ ap₂ (λ (one other : List ℕ). is_input one && is_input other) before_is after_is)

-- a source is the one of this name, if it is answered in the same way
pub same_source : (bytes_of : List ℕ → Option (List ℕ)) (input : Option (List ℕ)) (names : Names) (part part' : List (List ℕ) → List ℕ → Part) → part ≡ part'
    → (stranger stranger' : List ℕ → Option Stranger) → stranger ≡ stranger' → (name name' : List ℕ) → name ≡ name'
    → source_named bytes_of input names part stranger name ≡ source_named bytes_of input names part' stranger' name'
same_source bytes_of input names part part' part_is stranger stranger' stranger_is name name' name_is =
    ap (λ (part : List (List ℕ) → List ℕ → Part). source_named bytes_of input names part stranger name) part_is
    ∙ ap (λ (stranger : List ℕ → Option Stranger). source_named bytes_of input names part' stranger name) stranger_is
    ∙ ap (λ (name : List ℕ). source_named bytes_of input names part' stranger' name) name_is

-- and so is what is answered of two sources
pub answers_as : (Is : ReachAsking → Side → Side → Answer → Type 0) (answer : Answer) (reported asked : ReachAsking) → reported ≡ asked → (before before' after after' : Source)
    → before ≡ before' → after ≡ after' → OfSources (Is reported) before after answer → OfSources (Is asked) before' after' answer
answers_as Is answer reported asked asking_is before before' after after' before_is after_is is =
    subst (λ (asking : ReachAsking). OfSources (Is asking) before' after' answer) asking_is
    (subst (λ (before : Source). OfSources (Is reported) before after' answer) before_is
    (subst (λ (after : Source). OfSources (Is reported) before after answer) after_is is))

-- what is reported of these people before, and of the others after, is what the words ask by reach
module _ (bytes_of : Text → Option (List ℕ)) (input : Option (List ℕ)) (rows : List Row) (host : Host) (host_is : IsHost bytes_of rows host) (persons : List Person)
    (persons_are : asked_in host rows ≡ Ok persons) where
  -- without other accounts it is the same people by the same
  pub same_after : first_of (codes "accounts-after") rows ≡ None → AreAskedAfter bytes_of rows host persons host persons
  same_after none = rw none (refl, refl)

  module _ (once : is_input_twice (before_in rows) (after_in rows) ≡ false) (other : Host) (others : List Person) (after : AreAskedAfter bytes_of rows host persons other others) where
    pub by_reach : {I : Type 0} (result : Result Ending Failure) (out out' : Option (List ℕ)) (err err' : ErrorText) (left left' : I)
        → Comes (asked_meaning bytes_of input rows host persons other others) result out out' err err' left left'
        → Comes (reach_meaning bytes_of input rows) result out out' err err' left left'
    by_reach result out out' err err' left left' =
        Comes-as (asked_meaning bytes_of input rows host persons other others) (reach_meaning bytes_of input rows) result out out' err err' left left'
        (λ answer is. record { host = host; host_is = host_is; persons = persons; persons_are = persons_are; other = other; others = others; after = after; is = is })
        (λ answer is. record { host = host; host_is = host_is; persons = persons; persons_are = persons_are; other = other; others = others; after = after; is = is })
        (λ failure fails. inl (inr (once, inr (inr fails)))) (λ none. none)
