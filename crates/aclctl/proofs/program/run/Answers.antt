use Rattle.std.proofs.Common.{List, Option, String, Global, Some, [], inl, inr, map, string_bytes, subst, ℕ}
use Rattle.std.proofs.KnownBytes.{Keeps-refl}
use Rattle.std.proofs.lemmas.Option.{IfSome_then}
use Rattle.aclctl.specs.Program.{EndsAs, EndsFrom}
use Rattle.aclctl.proofs.program.run.Goals as goal

pub returns-in-Ok-clause-given : goal.returns-in-Ok-clause-given
returns-in-Ok-clause-given g c some =
    let files = g.F.OpenFiles.bytes_of c.args.files.now in
    let out = g.W.Write.contents c.args.out.now in
    let out' = g.W.Write.contents c.run_command.new.out in
    let EndsAt = λ (reader : g.row.I.Denot) (words : List (String Global)).
    EndsAs c.run_command.result out out' c.args.err.now c.run_command.new.err reader c.run_command.new.input files (g.I.Read.remaining reader) (map string_bytes words) in
    let ran = subst (EndsAt c.command_words.new.reader) c.as_slice.ensures.value c.run_command.ensures in
    let of_given = subst (EndsAt c.command_words.new.reader) (c.in-Ok.ensures.given some) ran in
    subst (λ (reader : g.row.I.Denot). EndsAt reader c.args.given.items) (c.in-Ok.ensures.untouched some) of_given

pub returns-in-Ok-clause-read : goal.returns-in-Ok-clause-read
returns-in-Ok-clause-read g c none =
    let files = g.F.OpenFiles.bytes_of c.args.files.now in
    let out = g.W.Write.contents c.args.out.now in
    let out' = g.W.Write.contents c.run_command.new.out in
    let reader = c.command_words.new.reader in
    let EndsAt = λ (known : Option (List ℕ)) (words : List (String Global)).
    EndsAs c.run_command.result out out' c.args.err.now c.run_command.new.err reader c.run_command.new.input files known (map string_bytes words) in
    let ran : EndsAt (g.I.Read.remaining reader) c.in-Ok.words.items = subst (EndsAt (g.I.Read.remaining reader)) c.as_slice.ensures.value c.run_command.ensures in
    let Ended = λ (bytes : List ℕ). (between : g.row.I.Denot) × EndsFrom c.run_command.result out out' c.args.err.now c.run_command.new.err between c.run_command.new.input files bytes in
    IfSome_then _ {Q = Ended} (c.in-Ok.ensures.read none) (λ bytes is.
    (reader, inl (map string_bytes c.in-Ok.words.items, is.0, subst (λ (known : Option (List ℕ)). EndsAt known c.in-Ok.words.items) is.1 ran)))

pub returns-in-Err-clause-read : goal.returns-in-Err-clause-read
returns-in-Err-clause-read g c none =
    let files = g.F.OpenFiles.bytes_of c.args.files.now in
    let out = g.W.Write.contents c.args.out.now in
    let reader = c.command_words.new.reader in
    let Ended = λ (bytes : List ℕ). (between : g.row.I.Denot) × EndsFrom c.status.result out out c.args.err.now c.report.new.err between reader files bytes in
    IfSome_then _ {Q = Ended} c.in-Err.ensures.refused (λ bytes is.
    (reader, inr (c.in-Err.failure, is, record { is_status = c.status.ensures; silent = Keeps-refl _; reported = c.report.ensures })))
