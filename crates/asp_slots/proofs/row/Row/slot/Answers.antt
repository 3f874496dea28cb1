use Rattle.std.proofs.Common.{◌∙◌}
use Rattle.asp_slots.proofs.RowLaws.{at_place}
use Rattle.asp_slots.proofs.row.Row.slot.Goals as goal

pub returns : goal.returns
returns c = c.index.ensures ∙ at_place 65536 c.args.at _ c.args.self.now.program.value _ c.args.self.now.about c.requires
