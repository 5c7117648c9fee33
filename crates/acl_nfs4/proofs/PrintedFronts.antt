-- A text of which a front had no room.
use Rattle.std.proofs.Common.{◌≡◌, ◌++◌, ◌∷◌, ℕ, List, Vec, Err, ap, append_assoc, arith, length, length-append}
use Rattle.acl_names.specs.Bytes.{colon}
use Rattle.acl_names.specs.Letters.{letters_text}
use Rattle.acl_names.specs.Pushing.{PushesInRoom}
use Rattle.acl_names.proofs.Pushed.{PushesInRoom-longer}
use Rattle.acl_nfs4.specs.Ace.{Nfsace4}
use Rattle.acl_nfs4.specs.Letters.{mask_table}
use Rattle.acl_nfs4.specs.PrintedText.{fields_text, front_text}

-- if a front had no room, the whole had none
pub PushesInRoom-front : {T E Z : Type 0} (front rest : List ℕ) {whole : List ℕ} {e f : E} {old new : Vec ℕ Z} → whole ≡ front ++ rest
    → PushesInRoom {T = T} front (Err e) old new → PushesInRoom {T = T} whole (Err f) old new
PushesInRoom-front front rest {whole} is p = PushesInRoom-longer whole (omega (arith, ap length is, length-append front rest)) p

-- the fields, in the order in which they are printed
pub fields_behind : (who : List ℕ) (ace : Nfsace4) → fields_text who ace ≡ front_text ace ++ (who ++ colon ∷ letters_text mask_table ace.mask)
fields_behind who ace = simp append_assoc

pub mask_behind : (who : List ℕ) (ace : Nfsace4) → fields_text who ace ≡ (front_text ace ++ who) ++ colon ∷ letters_text mask_table ace.mask
mask_behind who ace = simp append_assoc
