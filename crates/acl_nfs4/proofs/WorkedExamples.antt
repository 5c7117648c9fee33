-- Worked examples, computed: alice is 1000, bob 1001, carol 1002; staff is 50, ops 60.
use Rattle.std.proofs.Common.{◌≡◌, ℕ, ◌+◌, true, false, refl, List, [], ◌∷◌}
use Rattle.acl_names.specs.Bits.{has, without}
use Rattle.acl_names.specs.Requester.{Identity}
use Rattle.acl_nfs4.specs.Ace.{decides, unless_empty, Nfsace4}
use Rattle.acl_nfs4.specs.Mask.{mask_of}
use Rattle.acl_nfs4.specs.Who.{flags_of_who, matches}
use Rattle.acl_nfs4.specs.Evaluation.{speaks, allows, mode_of}
use Rattle.acl_nfs4.specs.Inheritance.{inherited_list}
use Rattle.acl_nfs4.specs.ModeChange.{split, kept_mask, kept_of_part, with_mode}
use Rattle.acl_posix.specs.Mode.{Classes}
use Rattle.acl_nfs4.specs.declared.ace.AceType.{AceType}
use Rattle.acl_nfs4.specs.declared.ace.AceType.TheVariants.{Allow, Deny}
use Rattle.acl_nfs4.specs.declared.inheritance.Kind.TheVariants.{File, Dir}
use Rattle.acl_nfs4.specs.declared.who.Who.{Who}
use Rattle.acl_nfs4.specs.declared.who.Who.TheVariants.{Owner, Group, Everyone, User, NamedGroup}

abbrev pub ace : AceType → ℕ → Who → ℕ → Nfsace4
ace kind flags who mask = record { kind = kind; flags = flags + flags_of_who who; who = who; mask = mask }

abbrev pub bob : Who
bob = User 1001

abbrev pub carol : Who
carol = User 1002

abbrev pub ops : Who
ops = NamedGroup 60

abbrev mode : ℕ → ℕ → ℕ → Classes
mode user group other = record { user = user; group = group; other = other }

abbrev asked_by : ℕ → List ℕ → Identity
asked_by uid gids = record { uid = uid; gids = gids }

-- D::EVERYONE@:r, A::OWNER@:r, and the other way round, asked by the owner
denied_first : allows (matches 1000 50 (asked_by 1000 (50 ∷ []))) 0 (ace Deny 0 Everyone 1 ∷ ace Allow 0 Owner 1 ∷ []) ≡ false
unfolding has decides speaks
denied_first = refl

allowed_first : allows (matches 1000 50 (asked_by 1000 (50 ∷ []))) 0 (ace Allow 0 Owner 1 ∷ ace Deny 0 Everyone 1 ∷ []) ≡ true
unfolding has decides speaks
allowed_first = refl

not_spoken_of : allows (matches 1000 50 (asked_by 1000 (50 ∷ []))) 5 (ace Allow 0 Owner 1 ∷ ace Deny 0 Everyone 1 ∷ []) ≡ false
unfolding has decides speaks
not_spoken_of = refl

-- A:f:bob:r, A:dng:ops:rx, D:fn:carol:w, A:fdi:EVERYONE@:tc
abbrev parent : List Nfsace4
parent = ace Allow 1 bob 1 ∷ ace Allow 6 ops 33 ∷ ace Deny 5 carol 2 ∷ ace Allow 11 Everyone 131200 ∷ []

abbrev file_below : List Nfsace4
file_below = ace Allow 0 bob 1 ∷ ace Deny 0 carol 2 ∷ ace Allow 0 Everyone 131200 ∷ []

abbrev directory_below : List Nfsace4
directory_below = ace Allow 9 bob 1 ∷ ace Allow 0 ops 33 ∷ ace Allow 3 Everyone 131200 ∷ []

for_file : inherited_list File parent ≡ file_below
unfolding has without
for_file = refl

for_directory : inherited_list Dir parent ≡ directory_below
unfolding has without
for_directory = refl

for_directory_below : inherited_list Dir directory_below ≡ ace Allow 9 bob 1 ∷ ace Allow 3 Everyone 131200 ∷ []
unfolding has without
for_directory_below = refl

file_with_mode : with_mode file_below (mode 6 4 0)
    ≡ ace Allow 0 Owner 7 ∷ ace Deny 0 Owner 32 ∷ ace Allow 0 bob 1 ∷ ace Deny 0 carol 2 ∷ ace Allow 0 Everyone 131200
    ∷ ace Deny 0 bob 38 ∷ ace Deny 0 carol 36 ∷ ace Allow 0 Group 1 ∷ ace Deny 0 Group 38 ∷ []
unfolding has without decides unless_empty mask_of split kept_mask kept_of_part
file_with_mode = refl

directory_with_mode : with_mode directory_below (mode 7 5 0)
    ≡ ace Allow 0 Owner 39 ∷ ace Allow 9 bob 1 ∷ ace Allow 0 ops 33 ∷ ace Allow 11 Everyone 131200 ∷ ace Allow 0 Everyone 131200
    ∷ ace Deny 0 ops 6 ∷ ace Allow 0 Group 33 ∷ ace Deny 0 Group 6 ∷ []
unfolding has without decides unless_empty mask_of split kept_mask kept_of_part
directory_with_mode = refl

-- A::OWNER@:rwatTcC, A::bob:rwa, A:g:ops:r, A::EVERYONE@:r
abbrev shared : List Nfsace4
shared = ace Allow 0 Owner 393607 ∷ ace Allow 0 bob 7 ∷ ace Allow 0 ops 1 ∷ ace Allow 0 Everyone 1 ∷ []

abbrev shared_with_mode : List Nfsace4
shared_with_mode =
    ace Allow 0 Owner 7 ∷ ace Deny 0 Owner 32 ∷ ace Allow 0 Owner 393600 ∷ ace Deny 0 bob 39 ∷ ace Deny 0 ops 39
    ∷ ace Deny 0 Group 39 ∷ ace Allow 0 Everyone 1 ∷ []

mode_set : with_mode shared (mode 6 0 4) ≡ shared_with_mode
unfolding has without decides unless_empty mask_of split kept_mask kept_of_part
mode_set = refl

bob_denied : allows (matches 1000 50 (asked_by 1001 (50 ∷ 60 ∷ []))) 0 shared_with_mode ≡ false
unfolding has decides speaks
bob_denied = refl

carol_granted : allows (matches 1000 50 (asked_by 1002 (70 ∷ []))) 0 shared_with_mode ≡ true
unfolding has decides speaks
carol_granted = refl

-- modes shown: 644, 000, 000
mode_shown : mode_of shared ≡ mode 6 4 4
unfolding has decides speaks
mode_shown = refl

nothing_shown : mode_of (ace Deny 0 Everyone 1 ∷ ace Allow 0 Owner 1 ∷ []) ≡ mode 0 0 0
unfolding has decides speaks
nothing_shown = refl

append_is_absent : mode_of (ace Allow 0 Owner 2 ∷ []) ≡ mode 0 0 0
unfolding has decides speaks
append_is_absent = refl

-- A:fd:bob:rx with 750
split_by_mode : with_mode (ace Allow 3 bob 33 ∷ []) (mode 7 5 0)
    ≡ ace Allow 0 Owner 39 ∷ ace Allow 11 bob 33 ∷ ace Allow 0 bob 33 ∷ ace Deny 0 bob 6 ∷ ace Allow 0 Group 33 ∷ ace Deny 0 Group 6 ∷ []
unfolding has without decides unless_empty mask_of split kept_mask kept_of_part
split_by_mode = refl
