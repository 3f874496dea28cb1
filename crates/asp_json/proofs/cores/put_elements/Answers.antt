use Rattle.std.proofs.Common.{arith}
use Rattle.std.specs.Prelude.{pos}
use Rattle.asp_buffer.proofs.OutLaws.{midway_fails, midway_more}
use Rattle.asp_json.specs.Entries.{element}
use Rattle.asp_json.proofs.ListLaws.{commas-turn_or}
use Rattle.asp_json.proofs.cores.put_elements.Goals as goal

pub returns-in_err-put_element : goal.returns-in_err-put_element
returns-in_err-put_element g c = midway_fails _ _ _ _ _ _ _ _ _ _ c.loop-literal.invariant c.in_err-put_element.ensures
    (commas-turn_or (element c.args.names c.args.outputs.now) c.loop-literal.any c.args.literals.now c.loop-literal.literal-index (pos 0) (omega arith)) c.from_residual.ensures.1

pub loop-literal-preserved : goal.loop-literal-preserved
loop-literal-preserved g c = midway_more _ _ _ _ _ _ _ _ c.loop-literal.invariant c.in_ok-put_element.ensures
    (commas-turn_or (element c.args.names c.args.outputs.now) c.loop-literal.any c.args.literals.now c.loop-literal.literal-index (pos 0) (omega arith))
