use Rattle.asp_proof.proofs.LineLaws.{answer_from, no_answer}
use Rattle.asp_proof.proofs.lines.answer.Goals as goal

pub returns-in_default : goal.returns-in_default
returns-in_default c = no_answer c.args.line.now c.in_default.ensures

pub returns : goal.returns
returns c = answer_from c.set.result c.in-Some.fields.now c.args.line.now c.in-Some.ensures c.set.ensures
