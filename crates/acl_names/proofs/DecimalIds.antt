-- The decimal of an id is read as the id, whatever names there are.
use Rattle.std.proofs.Common.{◌≡◌, ℕ, ◌≤◌, List, Option, None, Some, option_and_then, decimal}
use Rattle.acl_names.specs.declared.limits.TheConstants.{MAX_ID}
use Rattle.acl_names.specs.Ids.{ReadBack, id_of_written, written_id}
use Rattle.acl_names.specs.Plain.{IsField}
use Rattle.acl_names.proofs.Fields.{IsSome, id_field}
use Rattle.acl_names.proofs.IdTexts.{id_again}

-- ids that have no names are printed as decimals
abbrev no_name : ℕ → Option (List ℕ)
no_name id = None

nameless : (id_of : List ℕ → Option ℕ) → ReadBack id_of no_name
nameless id_of id name named = cc

pub decimal_field : (id : ℕ) → id ≤ MAX_ID → IsField (decimal id) × IsSome (decimal id)
decimal_field id small = id_field no_id no_name id (nameless no_id) small
  where
    no_id : List ℕ → Option ℕ
    no_id name = None

pub decimal_again : (id_of : List ℕ → Option ℕ) (id : ℕ) → id ≤ MAX_ID → option_and_then (id_of_written id_of) (written_id (decimal id)) ≡ Some id
decimal_again id_of id small = id_again id_of no_name id (nameless id_of) small
