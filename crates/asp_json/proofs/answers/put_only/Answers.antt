use Rattle.std.proofs.Common.{codes, map, ◌++◌}
use Rattle.asp_model.specs.Texts.{shown}
use Rattle.asp_buffer.proofs.OutLaws.{puts_fails, puts_then}
use Rattle.asp_json.specs.Json.{array, costs_text}
use Rattle.asp_json.specs.Quoting.{quoted}
use Rattle.asp_json.proofs.answers.put_only.Goals as goal

pub returns-in_err-put : goal.returns-in_err-put
returns-in_err-put g c = puts_fails _ _ _ _ _ (codes "\"Witnesses\":[")
    ((codes "\n{\"Value\":" ++ array (map quoted (shown c.args.program.now c.args.set.now)) ++ costs_text c.args.cost.now ++ codes "}")
    ++ codes "\n]") (c.in_err-put.ensures) c.from_residual.ensures.1

pub returns-in_err-put_set : goal.returns-in_err-put_set
returns-in_err-put_set g c =
    puts_fails _ _ _ _ _
    (codes "\"Witnesses\":[" ++ (codes "\n{\"Value\":" ++ array (map quoted (shown c.args.program.now c.args.set.now))
    ++ costs_text c.args.cost.now ++ codes "}")) (codes "\n]")
    (puts_then _ _ _ _ _ (codes "\"Witnesses\":[")
    ((codes "\n{\"Value\":" ++ array (map quoted (shown c.args.program.now c.args.set.now)) ++ costs_text c.args.cost.now ++ codes "}"))
    (c.in_ok-put.ensures) (c.in_err-put_set.ensures)) c.from_residual-in_err-put_set.ensures.1

pub returns : goal.returns
returns g c =
    puts_then _ _ _ _ _
    (codes "\"Witnesses\":[" ++ (codes "\n{\"Value\":" ++ array (map quoted (shown c.args.program.now c.args.set.now))
    ++ costs_text c.args.cost.now ++ codes "}")) (codes "\n]")
    (puts_then _ _ _ _ _ (codes "\"Witnesses\":[")
    ((codes "\n{\"Value\":" ++ array (map quoted (shown c.args.program.now c.args.set.now)) ++ costs_text c.args.cost.now ++ codes "}"))
    (c.in_ok-put.ensures) (c.in_ok-put_set.ensures)) (c.put-2.ensures)
