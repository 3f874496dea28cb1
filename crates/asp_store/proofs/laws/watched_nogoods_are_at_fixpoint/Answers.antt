use Rattle.asp_store.proofs.FixpointLaws.{fixpoint_false, fixpoint_watched}
use Rattle.asp_store.proofs.laws.watched_nogoods_are_at_fixpoint.Goals as goal

pub returns : goal.returns
returns c = record { watched = fixpoint_watched; settled = fixpoint_false }
