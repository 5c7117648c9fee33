-- The fields of `compare`, read in order.
use Rattle.std.proofs.Common.{◌≡◌, ℕ, List, Ok, Err, codes, refl}
use Rattle.clap.specs.Words.{Row}
use Rattle.acl_cli.specs.Failures.{Explains}
use Rattle.acl_cli.specs.Fields.{id_in}
use Rattle.acl_cli.specs.declared.failure.Failure.{Failure}
use Rattle.acl_cli.specs.Faults.{Malformed}
use Rattle.acl_cli.proofs.FailureLemmas.{Explains-as}
use Rattle.acl_queries.specs.Compared.{compared_in}
use Rattle.acl_queries.specs.Comparing.{between}
use Rattle.acl_queries.specs.ListField.{list_in}
use Rattle.acl_bridge.specs.declared.any_acl.AnyAcl.{AnyAcl}

module _ (owner group : ℕ) (first : AnyAcl) (rows : List Row) (is_owner : id_in (codes "owner") rows ≡ Ok owner) (is_group : id_in (codes "group") rows ≡ Ok group)
    (is_first : list_in (codes "style") (codes "text") rows ≡ Ok first) where
  pub compared-read : (second : AnyAcl) → list_in (codes "other-style") (codes "other-text") rows ≡ Ok second
      → compared_in rows ≡ Ok (between owner group first second)
  unfolding compared_in
  compared-read second is_second = rw (is_owner, is_group, is_first, is_second) refl

  compared-fault : (fault : Malformed) → list_in (codes "other-style") (codes "other-text") rows ≡ Err fault → compared_in rows ≡ Err fault
  unfolding compared_in
  compared-fault fault is_second = rw (is_owner, is_group, is_first, is_second) refl

  pub last-explains : (fault : Failure) → Explains (list_in (codes "other-style") (codes "other-text") rows) fault → Explains (compared_in rows) fault
  last-explains = Explains-as (list_in (codes "other-style") (codes "other-text") rows) (compared_in rows) compared-fault
