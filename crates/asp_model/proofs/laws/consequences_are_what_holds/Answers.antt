use Rattle.asp_model.proofs.ConsequenceLaws.{union-has, intersection-has, union-fewer, intersection-fewer}
use Rattle.asp_model.proofs.laws.consequences_are_what_holds.Goals as goal

pub returns : goal.returns
returns c = record { some = union-has; each = intersection-has; some_fewer = union-fewer; each_fewer = intersection-fewer }
