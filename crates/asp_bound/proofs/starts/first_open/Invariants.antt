use Rattle.asp_bound.specs.Starts.{ArePassed}
use Rattle.asp_bound.proofs.starts.first_open.Given as goal

abbrev pub invariant-loop-index : goal.invariant-loop-index
invariant-loop-index l = ArePassed l.values l.column l.index
