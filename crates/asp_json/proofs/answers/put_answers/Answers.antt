use Rattle.std.proofs.Common.{◌∙◌}
use Rattle.asp_buffer.proofs.OutLaws.{puts_same}
use Rattle.asp_json.proofs.ListLaws.{witnesses-some}
use Rattle.asp_json.proofs.answers.put_answers.Goals as goal

pub returns : goal.returns
returns g c =
    puts_same _ _ _ _ _ c.put_some.ensures
    (witnesses-some c.args.program.now c.args.best.now c.args.answers.now.sets (λ e. c.if-len-eq0.false (c.len.ensures ∙ e)))
