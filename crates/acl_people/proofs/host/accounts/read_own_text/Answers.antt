use Rattle.std.proofs.Common.{◌≡◌, ◌++◌, ◌∷◌, [], List, ℕ, Err, IfSome, append_assoc, rules, subst, sym}
use Rattle.acl_names.specs.Bytes.{newline}
use Rattle.acl_people.specs.Host.{groups_file, own_text, users_file}
use Rattle.acl_people.specs.HostFailures.{own_files}
use Rattle.acl_people.proofs.HostLemmas.{as_one_text-read, groups-too_long, text_refusal, users-too_long}
use Rattle.acl_people.proofs.host.accounts.read_own_text.Goals as goal

pub returns-in_err-text-clause-refused : goal.returns-in_err-text-clause-refused
returns-in_err-text-clause-refused g c =
    let bytes_of = g.F.OpenFiles.bytes_of c.args.files.now in
    let is : c.from_residual.result ≡ Err c.in_err-text.field-0.0 = search rules in
    rw is (text_refusal (bytes_of users_file) (own_text bytes_of) users_file own_files (users_file ∷ groups_file ∷ []) (search rules)
    (users-too_long (bytes_of users_file) (bytes_of groups_file)) c.in_err-text.field-0.0 (search rules))

pub returns-in_err-groups-clause-refused : goal.returns-in_err-groups-clause-refused
returns-in_err-groups-clause-refused g c =
    let bytes_of = g.F.OpenFiles.bytes_of c.args.files.now in
    let is : c.from_residual-in_err-groups.result ≡ Err c.in_err-groups.field-0.0 = search rules in
    rw is (text_refusal (bytes_of groups_file) (own_text bytes_of) groups_file own_files (users_file ∷ groups_file ∷ []) (search rules)
    (groups-too_long (bytes_of users_file) (bytes_of groups_file)) c.in_err-groups.field-0.0 (search rules))

pub returns-clause-whole : goal.returns-clause-whole
returns-clause-whole g c =
    let bytes_of = g.F.OpenFiles.bytes_of c.args.files.now in
    let first = c.in_ok-text.text.items in
    let second = c.in_ok-groups.groups.items in
    let both : c.extend_from_slice.new.self.items ≡ first ++ newline ∷ second = search (rules, append_assoc) in
    subst (λ (text : List ℕ). IfSome (own_text bytes_of) (λ those. text ≡ those)) (sym both)
    (as_one_text-read (bytes_of users_file) (bytes_of groups_file) first second c.in_ok-text.ensures.whole c.in_ok-groups.ensures.whole)
