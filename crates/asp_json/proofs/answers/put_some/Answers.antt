use Rattle.std.proofs.Common.{codes, false, map, ◌++◌}
use Rattle.asp_buffer.proofs.OutLaws.{puts_fails, puts_then}
use Rattle.asp_json.specs.Commas.{commas}
use Rattle.asp_json.specs.Json.{witness}
use Rattle.asp_json.proofs.answers.put_some.Goals as goal

pub returns-in_err-put : goal.returns-in_err-put
returns-in_err-put g c = puts_fails _ _ _ _ _ (codes "\"Witnesses\":[")
    (commas false (map (witness c.args.program.now c.args.best.now) c.args.answers.now.sets) ++ codes "\n]") (c.in_err-put.ensures)
    c.from_residual.ensures.1

pub returns-in_err-put_rows : goal.returns-in_err-put_rows
returns-in_err-put_rows g c =
    puts_fails _ _ _ _ _ (codes "\"Witnesses\":[" ++ commas false (map (witness c.args.program.now c.args.best.now) c.args.answers.now.sets))
    (codes "\n]") (puts_then _ _ _ _ _ (codes "\"Witnesses\":[")
    (commas false (map (witness c.args.program.now c.args.best.now) c.args.answers.now.sets)) (c.in_ok-put.ensures)
    (c.in_err-put_rows.ensures)) c.from_residual-in_err-put_rows.ensures.1

pub returns : goal.returns
returns g c =
    puts_then _ _ _ _ _ (codes "\"Witnesses\":[" ++ commas false (map (witness c.args.program.now c.args.best.now) c.args.answers.now.sets))
    (codes "\n]") (puts_then _ _ _ _ _ (codes "\"Witnesses\":[")
    (commas false (map (witness c.args.program.now c.args.best.now) c.args.answers.now.sets)) (c.in_ok-put.ensures)
    (c.in_ok-put_rows.ensures)) (c.put-2.ensures)
