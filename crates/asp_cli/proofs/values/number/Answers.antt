use Rattle.std.proofs.Common.{◌∙◌}
use Rattle.asp_cli.proofs.ValueLemmas.{within-read, within-none}
use Rattle.asp_cli.proofs.values.number.Goals as goal

pub returns-in-Ok-clause-value : goal.returns-in-Ok-clause-value
returns-in-Ok-clause-value c = c.within.ensures.value ∙ within-read c.args.least c.args.most c.in-Ok.n c.args.text.now c.in-Ok.ensures.value.0

pub returns-in-Err-clause-value : goal.returns-in-Err-clause-value
returns-in-Err-clause-value c = within-none c.args.least c.args.most c.args.text.now c.in-Err.ensures.value.0
