use Rattle.std.proofs.Common.{arith, ◌∙◌}
use Rattle.asp_model.specs.declared.program.Output.{Output}
use Rattle.asp_model.specs.Views.{output_seen}
use Rattle.asp_json.proofs.ListLaws.{outputs_more, view-quoted}
use Rattle.asp_json.proofs.quoting.quoted_outputs.Goals as goal

pub loop-i-preserved : goal.loop-i-preserved
loop-i-preserved c =
    let o : Output = output_seen c.output-output.result in
    c.in_ok-push.ensures.ok
    ∙ outputs_more c.args.outputs.now _ c.loop-i.i o _ (omega (arith, c.loop-i-test.true, c.len-i-end.ensures)) c.output-output.ensures
    (view-quoted o _ (c.as_slice.ensures.value ∙ c.in_ok-text.ensures)) c.loop-i.invariant
