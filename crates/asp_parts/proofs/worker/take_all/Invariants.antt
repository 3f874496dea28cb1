use Rattle.std.proofs.Common.{◌++◌}
use Rattle.std.specs.Prelude.{reverse}
use Rattle.asp_parts.specs.Parts.{HasSame}
use Rattle.asp_parts.specs.Rounds.{IsBench}
use Rattle.asp_parts.proofs.worker.take_all.Given as goal

abbrev pub invariant-loop : goal.invariant-loop
invariant-loop l = record {
  kept : IsBench l.initial.bench.compiled.now l.bench;
  same : HasSame l.initial.bench.compiled.now (l.initial.waiting.items ++ reverse l.initial.done.items) (l.waiting.items ++ reverse l.done.items);
}
