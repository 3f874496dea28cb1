use Rattle.asp_trail_laws.proofs.HitLaws.{clash_settled}
use Rattle.asp_trail_laws.proofs.ViolatedLaws.{way_settled, cube_settled, within_cube}
use Rattle.asp_trail_laws.proofs.laws.violated_nogoods_settle.Goals as goal

pub returns : goal.returns
returns c = record { way = way_settled; cube = cube_settled; within = within_cube; clash = clash_settled }
