use Rattle.asp_parts.specs.Rounds.{HasDone}
use Rattle.asp_parts.proofs.worker.take_in_turn.Given as goal

abbrev pub invariant-loop : goal.invariant-loop
invariant-loop l = HasDone l.initial.worker.bench.compiled.now l.parts l.worker
