use Rattle.std.proofs.Common.{ap, ◌∙◌, map}
use Rattle.asp_complete.specs.Listed.{pure}
use Rattle.asp_complete.proofs.ListedLaws.{between_all}
use Rattle.asp_complete.proofs.completion.listed.Goals as goal

pub returns : goal.returns
returns c = c.in_ok-nogoods.ensures ∙ ap (map pure) (between_all c.args.compiled.now c.in_ok-count.count c.in_ok-count.ensures)
