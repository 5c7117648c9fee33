-- What is read from XDR was written so, but for what plays no part: what fills a string up to a
-- whole group of four bytes, zeros in front of an id, and of an entry what `tidied_raw` takes away.
use Rattle.std.specs.Prelude.{◌≡◌, ℕ, List, [], ◌∷◌, ◌++◌, length, Ok}
use Rattle.std.specs.Int.{w32, to_be_bytes}
use Rattle.acl_nfs4.specs.Ace.{Nfsace4}
use Rattle.acl_wire.specs.RawAcesWriting.{raw_of}
use Rattle.acl_wire.specs.Written.{AreBytes, tidied_raw}
use Rattle.acl_wire.specs.Xdr.{padded, who_in, xdr_list_of}
use Rattle.acl_wire.specs.declared.raw_ace.RawAce.{RawAce}

-- the bytes of an entry's numbers, and of a string that says who
abbrev pub entry_with : RawAce → List ℕ → List ℕ → List ℕ
entry_with raw text filling = to_be_bytes w32 raw.kind ++ (to_be_bytes w32 raw.flags
    ++ (to_be_bytes w32 raw.mask ++ (to_be_bytes w32 (length text) ++ (text ++ filling))))

-- the entry was written in these bytes
pub record WasWritten (ace : Nfsace4) (bytes : List ℕ) : Type 0 where
  pub raw : RawAce
  pub text : List ℕ
  pub filling : List ℕ
  pub bytes_are : bytes ≡ entry_with raw text filling
  pub is_filled : length (text ++ filling) ≡ padded (length text)
  pub who_is : who_in text ≡ Ok (raw.special, raw.id)
  pub numbers_are : raw_of ace ≡ tidied_raw raw

-- so were these, one after the other
abbrev pub WereWritten : List Nfsace4 → List ℕ → Type 0
WereWritten [] bytes = bytes ≡ []
WereWritten (ace ∷ aces) bytes = (first : List ℕ) × (others : List ℕ) × (bytes ≡ first ++ others)
    × WasWritten ace first × WereWritten aces others

-- the list that is read was written so, behind the number of its entries
abbrev pub XdrWasWritten : Type 0
XdrWasWritten = (bytes : List ℕ) (aces : List Nfsace4) → AreBytes bytes
    → xdr_list_of bytes ≡ Ok aces
    → (entries : List ℕ) × (bytes ≡ to_be_bytes w32 (length aces) ++ entries)
    × WereWritten aces entries
