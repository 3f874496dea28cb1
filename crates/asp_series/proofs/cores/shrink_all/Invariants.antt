use Rattle.std.proofs.Common.{take}
use Rattle.asp_series.specs.Asking.{IsShrunk}
use Rattle.asp_series.proofs.cores.shrink_all.Given as goal

abbrev pub invariant-loop-literal : goal.invariant-loop-literal
invariant-loop-literal g l = record {
  shrunk : IsShrunk l.asking.program.now l.asking.literals.now l.initial.state.left (take l.literal-index l.asking.literals.now) l.state;
  heard : g.W.Watch.IsAfter l.initial.watch l.watch;
}
