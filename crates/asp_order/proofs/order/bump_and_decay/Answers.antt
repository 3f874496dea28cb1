use Rattle.std.proofs.Common.{◌∙◌, ap}
use Rattle.asp_order.specs.Heaps.{decayed}
use Rattle.asp_order.proofs.order.bump_and_decay.Goals as goal

pub returns : goal.returns
returns c = c.decay.ensures ∙ ap decayed c.bump_all.ensures
