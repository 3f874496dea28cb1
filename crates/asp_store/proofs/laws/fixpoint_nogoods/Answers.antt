use Rattle.asp_trail.proofs.FixpointLaws.{fixpoint_by_one, fixpoint_by_two}
use Rattle.asp_store.proofs.laws.fixpoint_nogoods.Goals as goal

pub returns : goal.returns
returns c = record { two = fixpoint_by_two; one = fixpoint_by_one }
