-- What calls report and put for an answer of a definition.
use Rattle.std.specs.Prelude.{◌≡◌, ◌⊎◌, ℕ, ℤ, pos, Bool, true, false, List, length, Result, Ok, Err}
use Rattle.std.specs.Prelude.{nat_le, if◌then◌else◌}
use Rattle.acl_nfs4.specs.Ace.{Nfsace4}
use Rattle.acl_nfs4.specs.Evaluation.{Grants}
use Rattle.acl_nfs4.specs.Who.{matches}
use Rattle.acl_nfs4.specs.declared.inheritance.Kind.{Kind}
use Rattle.acl_nfs4.specs.declared.inheritance.Kind.TheVariants.{File, Dir}
use Rattle.acl_names.specs.Requester.{Identity}
use Rattle.acl_posix.specs.Mode.{Classes, number_of}
use Rattle.acl_wire.specs.Decision.{IsDecided}
use Rattle.acl_wire.specs.Nfs4.{IsAllowed}
use Rattle.acl_wire.specs.Writing.{PutsInFront}
use Rattle.acl_wire.specs.declared.decision.Decided.{Decided}
use Rattle.acl_wire.specs.declared.fault.Nfs4Fault.{Nfs4Fault}
use Rattle.acl_c.specs.Status.{nfs4_number, no_room, out_of_memory}

-- 1 for granted
abbrev pub granted_number : Bool → ℤ
granted_number true = pos 1
granted_number false = pos 0

-- the number of a mode
abbrev pub classes_number : Classes → ℤ
classes_number mode = pos (number_of mode)

-- the number of the mode of a list
abbrev pub mode_number : {A : Type 0} → (List A → Classes) → List A → ℤ
mode_number mode_of list = classes_number (mode_of list)

-- 0 for any answer
abbrev pub zero_number : {Y : Type 0} → Y → ℤ
zero_number value = pos 0

-- what is made: a directory or a file
abbrev pub kind_below : Bool → Kind
kind_below is_dir = if is_dir then Dir else File

-- the number of an answer
abbrev pub number_of_answer : {Y F : Type 0} → (F → ℤ) → (Y → ℤ) → Result Y F → ℤ
number_of_answer fault_number value_number (Ok answer) = value_number answer
number_of_answer fault_number value_number (Err fault) = fault_number fault

-- a call reports the number of an answer, or that memory ran out
abbrev pub Reports : {Y F : Type 0} → (F → ℤ) → (Y → ℤ) → Result Y F → ℤ → Type 0
Reports fault_number value_number answer reported =
    (reported ≡ number_of_answer fault_number value_number answer) ⊎ (reported ≡ out_of_memory)

-- A call puts these items in front of its caller's buffer, and reports 0, or that there is no room;
-- how many there are it reports either way.
pub record Puts {A : Type 0} (items : List A) (reported : ℤ) (old new : List A) (count : ℕ) : Type 0
  where
    pub put : PutsInFront items count old new
    pub said : reported ≡ (if nat_le (length items) (length old) then pos 0 else no_room)

-- nothing is put
pub record PutsNothing {A : Type 0} (old new : List A) (old_count new_count : ℕ) : Type 0 where
  pub buffer : new ≡ old
  pub count : new_count ≡ old_count

-- a call puts the items of an answer, or reports why there is none, or that memory ran out
abbrev pub PutsAnswer : {Y F A : Type 0} → (F → ℤ) → (Y → List A) → Result Y F → ℤ → List A → List A
    → ℕ → ℕ → Type 0
PutsAnswer {Y} {F} fault_number items_of answer reported old new old_count new_count =
    ((value : Y) × (answer ≡ Ok value) × Puts (items_of value) reported old new new_count)
    ⊎ (((fault : F) × (answer ≡ Err fault) × (reported ≡ fault_number fault)
    × PutsNothing old new old_count new_count)
    ⊎ ((reported ≡ out_of_memory) × PutsNothing old new old_count new_count))

-- a call that takes no memory puts the items of an answer, or reports why there is none
abbrev pub PutsItems : {A : Type 0} → Result (List A) Nfs4Fault → ℤ → List A → List A → ℕ → ℕ
    → Type 0
PutsItems {A} answer reported old new old_count new_count =
    ((items : List A) × (answer ≡ Ok items) × Puts items reported old new new_count)
    ⊎ ((fault : Nfs4Fault) × (answer ≡ Err fault) × (reported ≡ nfs4_number fault)
    × PutsNothing old new old_count new_count)

-- a call reports 1 if it holds of the value of an answer, and 0 if not
abbrev pub ReportsWhether : {Y F : Type 0} → (F → ℤ) → Result Y F → (Y → Type 0) → ℤ → Type 0
ReportsWhether {Y} {F} fault_number answer Holds reported =
    ((value : Y) × (answer ≡ Ok value) × (reported ≡ pos 1) × Holds value)
    ⊎ (((value : Y) × (answer ≡ Ok value) × (reported ≡ pos 0) × (¬ Holds value))
    ⊎ ((fault : F) × (answer ≡ Err fault) × (reported ≡ fault_number fault)))

-- a call reports 0 and what entries allow of a request, or why there are none, and then leaves that
-- as it was
abbrev pub ReportsAllowed : Result (List Nfsace4) Nfs4Fault → ℕ → ℕ → Identity → ℕ → ℤ → ℕ → ℕ
    → Type 0
ReportsAllowed entries owner group requester request reported old new =
    ((aces : List Nfsace4) × (entries ≡ Ok aces) × (reported ≡ pos 0)
    × IsAllowed aces owner group requester request new)
    ⊎ ((fault : Nfs4Fault) × (entries ≡ Err fault) × (reported ≡ nfs4_number fault) × (new ≡ old))

-- a call reports 0 and what entries say of a request, or why there are none, and then that all of
-- it is denied
abbrev pub ReportsDecided : Result (List Nfsace4) Nfs4Fault → ℕ → ℕ → Identity → ℕ → ℤ → Decided
    → Type 0
ReportsDecided entries owner group requester request reported new =
    ((aces : List Nfsace4) × (entries ≡ Ok aces) × (reported ≡ pos 0)
    × IsDecided aces owner group requester request new)
    ⊎ ((fault : Nfs4Fault) × (entries ≡ Err fault) × (reported ≡ nfs4_number fault)
    × (new ≡ record { allowed = 0; denied = request }))

-- there are entries, and they grant the request
abbrev pub AreGranting : Result (List Nfsace4) Nfs4Fault → ℕ → ℕ → Identity → ℕ → Type 0
AreGranting entries owner group requester request = (aces : List Nfsace4) × (entries ≡ Ok aces)
    × Grants (matches owner group requester) aces request
