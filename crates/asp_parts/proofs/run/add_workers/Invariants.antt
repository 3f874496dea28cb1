use Rattle.asp_parts.specs.Rounds.{AreWorkers}
use Rattle.asp_parts.proofs.run.add_workers.Given as goal

abbrev pub invariant-loop : goal.invariant-loop
invariant-loop l = AreWorkers l.compiled l.workers.items
