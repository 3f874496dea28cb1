use Rattle.std.proofs.Common.{arith}
use Rattle.asp_rows.specs.declared.row.Row.{Row}
use Rattle.asp_buffer.proofs.OutLaws.{midway_fails, midway_more}
use Rattle.asp_json.specs.Json.{witness}
use Rattle.asp_json.proofs.ListLaws.{sets-turn}
use Rattle.asp_json.proofs.answers.put_each.Goals as goal

pub returns-in_err-put_next : goal.returns-in_err-put_next
returns-in_err-put_next g c = midway_fails _ _ _ _ _ _ _ _ _ _ c.loop-row.invariant c.in_err-put_next.ensures
    (sets-turn (witness c.args.program.now c.args.best.now) (λ (x : Row). x.set) c.loop-row.any c.args.rows.now c.loop-row.row-index c.row-item.result
    (omega arith) c.row-item.is) c.from_residual.ensures.1

pub loop-row-preserved : goal.loop-row-preserved
loop-row-preserved g c = midway_more _ _ _ _ _ _ _ _ c.loop-row.invariant c.in_ok-put_next.ensures
    (sets-turn (witness c.args.program.now c.args.best.now) (λ (x : Row). x.set) c.loop-row.any c.args.rows.now c.loop-row.row-index c.row-item.result (omega arith) c.row-item.is)
