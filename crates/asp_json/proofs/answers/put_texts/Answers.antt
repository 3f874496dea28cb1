use Rattle.std.proofs.Common.{arith, refl}
use Rattle.asp_model.specs.Views.{output_seen}
use Rattle.asp_buffer.proofs.OutLaws.{midway_fails, midway_more, midway_start}
use Rattle.asp_json.proofs.ListLaws.{texts-turn}
use Rattle.asp_json.proofs.answers.put_texts.Goals as goal

pub loop-i-init : goal.loop-i-init
loop-i-init g c = midway_start _ _ _ refl

pub returns-in_err-any : goal.returns-in_err-any
returns-in_err-any g c = midway_fails _ _ _ _ _ _ _ _ _ _ c.loop-i.invariant c.in_err-any.ensures.puts
    (texts-turn (g.A.Answer.set c.args.answer.now) c.loop-i.any _ c.args.outputs.now c.loop-i.i (output_seen c.output.result)
    (omega (arith, c.loop-i-test.true, c.len-i-end.ensures)) c.output.ensures refl) c.from_residual.ensures.1

pub loop-i-preserved : goal.loop-i-preserved
loop-i-preserved g c = midway_more _ _ _ _ _ _ _ _ c.loop-i.invariant c.in_ok-any.ensures.puts
    (texts-turn (g.A.Answer.set c.args.answer.now) c.loop-i.any c.in_ok-any.any c.args.outputs.now c.loop-i.i (output_seen c.output.result)
    (omega (arith, c.loop-i-test.true, c.len-i-end.ensures)) c.output.ensures c.in_ok-any.ensures.any)
