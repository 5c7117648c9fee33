-- What is made in a folder with an NFSv4 list, and the NFSv4 list of a mode.
use Rattle.std.specs.Prelude.{◌≡◌, ◌==◌, ℕ, Bool, true, false, List, [], ◌∷◌, ◌++◌, Option, Some}
use Rattle.std.specs.Prelude.{None, Result, Ok, Err, if◌then◌else◌, length}
use Rattle.acl_names.specs.Bits.{without}
use Rattle.acl_names.specs.Steps.{◌>>=◌}
use Rattle.acl_nfs4.specs.Ace.{Nfsace4, ace_of}
use Rattle.acl_nfs4.specs.ModeChange.{with_mode}
use Rattle.acl_nfs4.specs.declared.ace.AceType.TheVariants.{Allow}
use Rattle.acl_nfs4.specs.declared.inheritance.Kind.{Kind}
use Rattle.acl_nfs4.specs.declared.inheritance.Kind.TheVariants.{File, Dir}
use Rattle.acl_nfs4.specs.declared.who.Who.TheVariants.{Owner, Everyone}
use Rattle.acl_posix.specs.Mode.{Classes}
use Rattle.acl_wire.specs.Inheritance.{inherited_of}
use Rattle.acl_wire.specs.ModeChange.{changed, classes_in, rule_in}
use Rattle.acl_wire.specs.RawAces.{FailsAs}
use Rattle.acl_wire.specs.Writing.{PutsInFront}
use Rattle.acl_wire.specs.declared.creation.Making.{Making}
use Rattle.acl_wire.specs.declared.fault.Nfs4Error.{Nfs4Error}
use Rattle.acl_wire.specs.declared.fault.Nfs4Fault.{Nfs4Fault}
use Rattle.acl_wire.specs.declared.fault.Nfs4Fault.TheVariants as faults
use Rattle.acl_wire.specs.declared.mode_change.ModeRule.{ModeRule}
use Rattle.acl_wire.specs.declared.raw_ace.RawAce.{RawAce}

-- the kind of a number
abbrev pub kind_in : ℕ → Result Kind Nfs4Fault
kind_in number =
    if number == 0 then Ok File
    else if number == 1 then Ok Dir
    else Err faults.Argument

-- what is inherited, with the mode set by a rule; nothing if nothing is inherited
abbrev pub dressed : ModeRule → Classes → List RawAce → Result (Option (List RawAce)) Nfs4Fault
dressed rule mode raws =
    if length raws == 0 then Ok None
    else (changed rule mode raws >>= λ list. Ok (Some list))

-- the list of what is made of this kind, with this mode, in a folder with these entries
abbrev pub made_of : Kind → Classes → ModeRule → List RawAce
    → Result (Option (List RawAce)) Nfs4Fault
made_of kind mode rule raws = inherited_of kind raws >>= λ below. dressed rule mode below

-- the list of what is made in a folder with these entries
unfoldable pub created_of : List RawAce → Making → Result (Option (List RawAce)) Nfs4Fault
created_of raws making = do
  kind ← kind_in making.kind
  mode ← classes_in making.mode
  umask ← classes_in making.umask
  rule ← rule_in making.how
  made_of kind mode rule raws

-- a call puts the list that is made, and answers how many entries it has; or that nothing is
-- inherited, or why there is no answer, or that memory ran out
abbrev pub PutsMade : Result (Option (List RawAce)) Nfs4Fault → Result (Option ℕ) Nfs4Error
    → List RawAce → List RawAce → Type 0
PutsMade answer (Ok (Some count)) old new = (list : List RawAce) × (answer ≡ Ok (Some list))
    × PutsInFront list count old new
PutsMade answer (Ok None) old new = (answer ≡ Ok None) × (new ≡ old)
PutsMade answer (Err error) old new = FailsAs error answer × (new ≡ old)

-- its mode, from which the umask is taken where it inherits nothing
abbrev pub mode_made : Making → Option (List RawAce) → ℕ
mode_made making None = without making.mode making.umask
mode_made making (Some list) = making.mode

-- what servers check besides of the owner and of everybody: `A::OWNER@:tTnNcCoy` and
-- `A::EVERYONE@:tncy`
abbrev pub attributes_if : Bool → List Nfsace4
attributes_if false = []
attributes_if true = ace_of Allow 0 Owner 0x1E0198 ∷ ace_of Allow 0 Everyone 0x120088 ∷ []

-- the list that says what a mode says
unfoldable pub aces_of_mode : ℕ → Bool → Result (List Nfsace4) Nfs4Fault
aces_of_mode mode attributes = classes_in mode >>= λ classes.
    Ok (with_mode [] classes ++ attributes_if attributes)
