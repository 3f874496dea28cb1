use Rattle.std.proofs.Common.{sym, subst}
use Rattle.asp_model.specs.Sets.{IsAscending}
use Rattle.asp_proof.proofs.ChangeLaws.{ascending_changed}
use Rattle.asp_proof.proofs.changes.changed_set.Goals as goal

pub from_ascending-requires : goal.from_ascending-requires
from_ascending-requires c = subst IsAscending (sym c.in_ok-atoms.ensures) (ascending_changed c.args.one.now c.args.other.now c.requires.other)
