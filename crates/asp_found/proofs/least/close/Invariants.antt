use Rattle.std.proofs.Common.{◌-◌, length}
use Rattle.asp_found.specs.Derivings.{IsDeriving}
use Rattle.asp_found.proofs.least.close.Given as goal

abbrev pub invariant-rounds : goal.invariant-rounds
invariant-rounds l = IsDeriving l.compiled l.set l.marks l.found.items

abbrev pub decreases-rounds : goal.decreases-rounds
decreases-rounds l = length l.set - length l.found.items
