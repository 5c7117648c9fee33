-- Lists that stay as short as the entries that came.
use Rattle.std.proofs.Common.{◌≡◌, ◌≤◌, List, [], ◌∷◌, Ok, length, arith, ap}
use Rattle.std.proofs.lemmas.Bool.{le-leb}
use Rattle.acl_names.proofs.StepLemmas.{bind_ok}
use Rattle.acl_nfs4.specs.Ace.{Nfsace4}
use Rattle.acl_nfs4.specs.declared.limits.TheConstants.{MAX_ACES}
use Rattle.acl_wire.specs.RawAces.{ace_of_raw, aces_of, effective, list_of, seen}
use Rattle.acl_wire.specs.declared.raw_ace.Purpose.{Purpose}
use Rattle.acl_wire.specs.declared.raw_ace.RawAce.{RawAce}
use Rattle.acl_wire.proofs.StepsBack.{ok_same}

-- as many entries are read as there are
aces_of-length : (purpose : Purpose) (raws : List RawAce) (aces : List Nfsace4) → aces_of purpose raws ≡ Ok aces → length aces ≡ length raws
unfolding aces_of
aces_of-length purpose [] aces is = let none : [] ≡ aces = ok_same [] aces is in omega (arith, ap length none)
aces_of-length purpose (raw ∷ raws) aces is =
    let one = bind_ok (ace_of_raw (seen purpose raw)) _ aces is in
    let two = bind_ok (effective one.0) _ aces one.2 in
    let three = bind_ok (aces_of purpose raws) _ aces two.2 in
    let more = aces_of-length purpose raws three.0 three.1 in
    let whole : two.0 ∷ three.0 ≡ aces = ok_same (two.0 ∷ three.0) aces three.2 in
    omega (arith, ap length whole)

pub list_of-length : (purpose : Purpose) (raws : List RawAce) (aces : List Nfsace4) → length raws ≤ MAX_ACES → list_of purpose raws ≡ Ok aces → length aces ≡ length raws
list_of-length purpose raws aces few is = aces_of-length purpose raws aces (rw (le-leb (length raws) MAX_ACES few) at is)
