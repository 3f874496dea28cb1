use Rattle.std.proofs.Common.{sym, ◌∙◌}
use Rattle.asp_model.specs.Views.{output_seen}
use Rattle.asp_settle.proofs.StayLaws.{output-stays}
use Rattle.asp_settle.proofs.rules.output_stays.Goals as goal

pub returns : goal.returns
returns c = λ e. output-stays c.args.facts.now (output_seen c.args.output) (sym c.literals_stay.ensures ∙ e)
