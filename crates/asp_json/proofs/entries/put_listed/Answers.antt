use Rattle.asp_buffer.proofs.OutLaws.{puts_fails, puts_then}
use Rattle.asp_print.specs.Shown.{separator}
use Rattle.asp_json.specs.Entries.{is_listed}
use Rattle.asp_json.specs.Json.{recorded_text}
use Rattle.asp_json.proofs.entries.put_listed.Goals as goal

pub returns-in_err-put_comma : goal.returns-in_err-put_comma
returns-in_err-put_comma g c =
    puts_fails _ _ _ _ _ (separator 44 (is_listed c.args.results.now.mode c.args.results.now))
    (recorded_text c.args.program.now c.args.results.now.mode c.args.results.now) (rw c.is_listed.ensures at c.in_err-put_comma.ensures) c.from_residual.ensures.1

pub returns : goal.returns
returns g c =
    puts_then _ _ _ _ _ (separator 44 (is_listed c.args.results.now.mode c.args.results.now))
    (recorded_text c.args.program.now c.args.results.now.mode c.args.results.now) (rw c.is_listed.ensures at c.in_ok-put_comma.ensures) c.put_found.ensures
