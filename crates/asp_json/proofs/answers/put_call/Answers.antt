use Rattle.std.proofs.Common.{[], codes, ◌++◌}
use Rattle.std.specs.Prelude.{if◌then◌else◌}
use Rattle.asp_buffer.proofs.OutLaws.{puts_fails, puts_then}
use Rattle.asp_json.specs.Json.{recorded_text}
use Rattle.asp_json.proofs.answers.put_call.Goals as goal

pub returns-in_err-put : goal.returns-in_err-put
returns-in_err-put g c = puts_fails _ _ _ _ _ (codes "{\"Solver\":\"aspenum\",\"Call\":[{")
    ((if c.args.brief then [] else recorded_text c.args.program.now c.args.results.now.mode c.args.results.now) ++ codes "}]") (c.in_err-put.ensures)
    c.from_residual.ensures.1

pub returns-in_err-put_recorded : goal.returns-in_err-put_recorded
returns-in_err-put_recorded g c =
    puts_fails _ _ _ _ _
    (codes "{\"Solver\":\"aspenum\",\"Call\":[{" ++
    (if c.args.brief then [] else recorded_text c.args.program.now c.args.results.now.mode c.args.results.now)) (codes "}]")
    (puts_then _ _ _ _ _ (codes "{\"Solver\":\"aspenum\",\"Call\":[{")
    ((if c.args.brief then [] else recorded_text c.args.program.now c.args.results.now.mode c.args.results.now)) (c.in_ok-put.ensures)
    (c.in_err-put_recorded.ensures)) c.from_residual-in_err-put_recorded.ensures.1

pub returns : goal.returns
returns g c =
    puts_then _ _ _ _ _
    (codes "{\"Solver\":\"aspenum\",\"Call\":[{" ++
    (if c.args.brief then [] else recorded_text c.args.program.now c.args.results.now.mode c.args.results.now)) (codes "}]")
    (puts_then _ _ _ _ _ (codes "{\"Solver\":\"aspenum\",\"Call\":[{")
    ((if c.args.brief then [] else recorded_text c.args.program.now c.args.results.now.mode c.args.results.now)) (c.in_ok-put.ensures)
    (c.in_ok-put_recorded.ensures)) (c.put-2.ensures)
