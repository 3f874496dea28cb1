use Rattle.std.proofs.Common.{◌≤◌, length}
use Rattle.asp_found.specs.Derivings.{IsDeriving}
use Rattle.asp_found.proofs.least.propagate.Given as goal

abbrev pub invariant-loop-next : goal.invariant-loop-next
invariant-loop-next l =
    IsDeriving l.compiled l.set l.marks l.found.items × (length l.initial.found.items ≤ length l.found.items)
