use Rattle.std.proofs.Common.{append_assoc, codes, decimal, sym, ◌++◌}
use Rattle.asp_buffer.proofs.OutLaws.{puts_fails, puts_same, puts_then}
use Rattle.asp_json.specs.Json.{costs_text, proven, proven_count}
use Rattle.asp_json.proofs.text.put_least.Goals as goal

pub returns-in_err-put_proven : goal.returns-in_err-put_proven
returns-in_err-put_proven g c = puts_same _ _ _ _ _
    (puts_fails _ _ _ _ _ (codes ",\"Optimum\":\"" ++ proven c.args.end ++ codes "\",\"Optimal\":")
    (decimal (proven_count c.args.end c.args.count) ++ costs_text c.args.cost.now) (c.in_err-put_proven.ensures) c.from_residual.ensures.1)
    (sym (append_assoc (codes ",\"Optimum\":\"" ++ proven c.args.end ++ codes "\",\"Optimal\":") (decimal (proven_count c.args.end c.args.count))
    (costs_text c.args.cost.now)))

pub returns-in_err-put_number : goal.returns-in_err-put_number
returns-in_err-put_number g c =
    puts_fails _ _ _ _ _ (codes ",\"Optimum\":\"" ++ proven c.args.end ++ codes "\",\"Optimal\":" ++ decimal (proven_count c.args.end c.args.count))
    (costs_text c.args.cost.now) (puts_then _ _ _ _ _ (codes ",\"Optimum\":\"" ++ proven c.args.end ++ codes "\",\"Optimal\":")
    (decimal (proven_count c.args.end c.args.count)) (c.in_ok-put_proven.ensures) (rw c.proven_count.ensures at c.in_err-put_number.ensures))
    c.from_residual-in_err-put_number.ensures.1

pub returns : goal.returns
returns g c =
    puts_then _ _ _ _ _ (codes ",\"Optimum\":\"" ++ proven c.args.end ++ codes "\",\"Optimal\":" ++ decimal (proven_count c.args.end c.args.count))
    (costs_text c.args.cost.now) (puts_then _ _ _ _ _ (codes ",\"Optimum\":\"" ++ proven c.args.end ++ codes "\",\"Optimal\":")
    (decimal (proven_count c.args.end c.args.count)) (c.in_ok-put_proven.ensures) (rw c.proven_count.ensures at c.in_ok-put_number.ensures))
    (c.put_costs.ensures)
