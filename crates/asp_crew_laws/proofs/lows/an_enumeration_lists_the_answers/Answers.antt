use Rattle.std.proofs.Common.{◌∙◌}
use Rattle.asp_model.specs.declared.results.Mode.TheVariants.{Enum}
use Rattle.asp_core.specs.Sorting.{answers_of}
use Rattle.asp_watermark.proofs.BelowLaws.{all-below}
use Rattle.asp_crew_laws.specs.Runs.{asks, task_of}
use Rattle.asp_crew_laws.proofs.FoundLaws.{answers-same}
use Rattle.asp_crew_laws.proofs.lows.an_enumeration_lists_the_answers.Goals as goal

pub returns : goal.returns
returns c = λ p models units n. all-below (answers_of (task_of p (asks Enum models n) units)) ∙ answers-same p (asks Enum models n) units
