use Rattle.std.proofs.Common.{◌∙◌, ◌+◌, ◌<◌, ◌++◌, ℕ, List, ap, sym, subst, take, length, get_or, arith}
use Rattle.asp_model.specs.declared.program.Output.{Output}
use Rattle.asp_model.specs.Views.{output_seen}
use Rattle.asp_print.specs.declared.outputs.Condition.{Condition}
use Rattle.asp_print.specs.Rows.{AreConditionsOf}
use Rattle.asp_print.proofs.ConditionLaws.{conditions_more}
use Rattle.asp_print.proofs.RowLaws.{row_more, starts_more}
use Rattle.asp_print.proofs.outputs.OutputTable.of.Goals as goal

pub loop-i-preserved : goal.loop-i-preserved
loop-i-preserved c =
    let os = c.args.outputs.now in
    let i = c.loop-i.i in
    let o : Output = output_seen c.output-output.result in
    let lt : i < length os = omega (arith, c.loop-i-test.true, c.len-i-end.ensures) in
    let inv = c.loop-i.invariant in
    let text = c.extend_from_slice.new.self.items in
    let texts = c.in_ok-extend_from_slice.ensures.items
    ∙ ap (λ (t : List ℕ). t ++ o.text) c.in_ok-push-2.ensures.items
    ∙ row_more c.args.between os i o c.loop-i.texts.items lt c.output-output.ensures inv.texts in
    record {
      conditions = subst (λ (cs : List Condition). AreConditionsOf c.args.atoms.now (take (i + 1) os) cs) (sym c.in_ok-push.ensures.items)
          (conditions_more c.args.atoms.now os i o c.loop-i.conditions.items c.condition_of.result lt c.output-output.ensures
          c.condition_of.ensures inv.conditions);
      texts = texts;
      count = omega (arith, inv.count, c.in_ok-push-3.ensures.len);
      starts = λ k le. ap (λ (ss : List ℕ). get_or ss k 0) c.in_ok-push-3.ensures.items
          ∙ starts_more c.args.between os i c.len-in-loop-i.result c.loop-i.starts.items inv.count inv.starts
          (omega (arith, c.len-in-loop-i.ensures, ap (λ (t : List ℕ). length t) texts)) k le;
    }
