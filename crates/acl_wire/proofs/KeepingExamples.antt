-- Worked examples of a mode that leaves named users and groups: alice, who is 1000, owns the file; bob is 1001; staff is 50, ops 60.
use Rattle.std.proofs.Common.{◌≡◌, ℕ, true, refl, [], ◌∷◌}
use Rattle.acl_names.specs.Bits.{has, without}
use Rattle.acl_nfs4.specs.Ace.{decides, unless_empty}
use Rattle.acl_nfs4.specs.Evaluation.{allows, mode_of, speaks}
use Rattle.acl_nfs4.specs.Mask.{mask_of}
use Rattle.acl_nfs4.specs.ModeChange.{kept_mask, kept_of_part, split}
use Rattle.acl_nfs4.specs.Who.{matches}
use Rattle.acl_nfs4.specs.declared.ace.AceType.TheVariants.{Allow, Deny}
use Rattle.acl_nfs4.specs.declared.who.Who.TheVariants.{Owner, Group, Everyone}
use Rattle.acl_posix.specs.Mode.{Classes}
use Rattle.acl_nfs4.proofs.WorkedExamples.{ace, bob, ops}
use Rattle.acl_wire.specs.Keeping.{with_mode_keep}

abbrev mode : ℕ → ℕ → ℕ → Classes
mode user group other = record { user = user; group = group; other = other }

-- A::bob:r, A::OWNER@:rwa with 600, and then with 666
made_private : with_mode_keep (ace Allow 0 bob 1 ∷ ace Allow 0 Owner 7 ∷ []) (mode 6 0 0)
    ≡ ace Allow 0 Owner 7 ∷ ace Deny 0 Owner 32 ∷ ace Allow 0 bob 1 ∷ ace Deny 0 Group 39 ∷ []
unfolding has without decides unless_empty mask_of split kept_mask kept_of_part
made_private = refl

opened : with_mode_keep (with_mode_keep (ace Allow 0 bob 1 ∷ ace Allow 0 Owner 7 ∷ []) (mode 6 0 0)) (mode 6 6 6)
    ≡ ace Allow 0 Owner 7 ∷ ace Deny 0 Owner 32 ∷ ace Allow 0 bob 1 ∷ ace Allow 0 Group 7 ∷ ace Deny 0 Group 32 ∷ ace Allow 0 Everyone 7 ∷ []
unfolding has without decides unless_empty mask_of split kept_mask kept_of_part
opened = refl

-- bob still reads the first, and its mode is 600
bob_reads : allows (matches 1000 50 (record { uid = 1001; gids = 50 ∷ [] })) 0 (ace Allow 0 Owner 7 ∷ ace Deny 0 Owner 32 ∷ ace Allow 0 bob 1 ∷ ace Deny 0 Group 39 ∷ []) ≡ true
unfolding has decides speaks
bob_reads = refl

private_shown : mode_of (ace Allow 0 Owner 7 ∷ ace Deny 0 Owner 32 ∷ ace Allow 0 bob 1 ∷ ace Deny 0 Group 39 ∷ []) ≡ mode 6 0 0
unfolding has decides speaks
private_shown = refl

-- A:fd:ops:rx, D::bob:w, A:fd:EVERYONE@:rxtncy with 750: what is inherited of everyone stands apart
folder_with_mode : with_mode_keep (ace Allow 3 ops 33 ∷ ace Deny 0 bob 2 ∷ ace Allow 3 Everyone 1179817 ∷ []) (mode 7 5 0)
    ≡ ace Allow 0 Owner 39 ∷ ace Allow 3 ops 33 ∷ ace Deny 0 bob 2 ∷ ace Allow 11 Everyone 1179817 ∷ ace Allow 0 Everyone 1179784 ∷ ace Allow 0 Group 33 ∷ ace Deny 0 Group 6 ∷ []
unfolding has without decides unless_empty mask_of split kept_mask kept_of_part
folder_with_mode = refl
