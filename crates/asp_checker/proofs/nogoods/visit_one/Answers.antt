use Rattle.asp_checker.proofs.LookLaws.{unit_range}
use Rattle.asp_checker.proofs.nogoods.visit_one.Goals as goal

pub set-requires : goal.set-requires
set-requires c = rw c.complement.ensures (unit_range c.args.values.now c.args.lits.now c.in-Unit.lit c.requires c.in-Unit.ensures)
