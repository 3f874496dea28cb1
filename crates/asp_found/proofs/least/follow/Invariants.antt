use Rattle.std.proofs.Common.{◌≤◌, length}
use Rattle.asp_found.specs.Derivings.{IsDeriving}
use Rattle.asp_found.proofs.least.follow.Given as goal

abbrev pub invariant-loop-occurrence : goal.invariant-loop-occurrence
invariant-loop-occurrence l =
    IsDeriving l.compiled l.set l.marks l.found.items × (length l.initial.found.items ≤ length l.found.items)
