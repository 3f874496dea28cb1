use Rattle.asp_core.proofs.UnitLaws.{total-home}
use Rattle.asp_core.proofs.laws.units_are_home.Goals as goal

pub returns : goal.returns
returns c b is none = total-home b.out is.single none
