use Rattle.std.proofs.Common.{append_assoc, codes, map, sym, ◌++◌}
use Rattle.asp_model.specs.Texts.{shown}
use Rattle.asp_buffer.proofs.OutLaws.{puts_fails, puts_same, puts_then}
use Rattle.asp_json.specs.Json.{array, best_costs}
use Rattle.asp_json.specs.Quoting.{quoted}
use Rattle.asp_json.proofs.answers.put_answer.Goals as goal

pub returns-in_err-put_value : goal.returns-in_err-put_value
returns-in_err-put_value g c = puts_same _ _ _ _ _
    (puts_fails _ _ _ _ _ (codes "\n{\"Value\":" ++ array (map quoted (shown c.args.program.now c.args.row.now.set)))
    (best_costs c.args.best.now ++ codes "}") (c.in_err-put_value.ensures) c.from_residual.ensures.1)
    (sym (append_assoc (codes "\n{\"Value\":" ++ array (map quoted (shown c.args.program.now c.args.row.now.set))) (best_costs c.args.best.now)
    (codes "}")))

pub returns-in_err-put_best_costs : goal.returns-in_err-put_best_costs
returns-in_err-put_best_costs g c =
    puts_fails _ _ _ _ _ (codes "\n{\"Value\":" ++ array (map quoted (shown c.args.program.now c.args.row.now.set)) ++ best_costs c.args.best.now)
    (codes "}") (puts_then _ _ _ _ _ (codes "\n{\"Value\":" ++ array (map quoted (shown c.args.program.now c.args.row.now.set)))
    (best_costs c.args.best.now) (c.in_ok-put_value.ensures) (c.in_err-put_best_costs.ensures))
    c.from_residual-in_err-put_best_costs.ensures.1

pub returns : goal.returns
returns g c =
    puts_then _ _ _ _ _ (codes "\n{\"Value\":" ++ array (map quoted (shown c.args.program.now c.args.row.now.set)) ++ best_costs c.args.best.now)
    (codes "}") (puts_then _ _ _ _ _ (codes "\n{\"Value\":" ++ array (map quoted (shown c.args.program.now c.args.row.now.set)))
    (best_costs c.args.best.now) (c.in_ok-put_value.ensures) (c.in_ok-put_best_costs.ensures)) (c.put.ensures)
