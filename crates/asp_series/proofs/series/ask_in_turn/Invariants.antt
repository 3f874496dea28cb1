use Rattle.asp_series.specs.Asking.{IsAtQuery, IsKeptOf}
use Rattle.asp_series.proofs.series.ask_in_turn.Given as goal

abbrev pub invariant-loop-i : goal.invariant-loop-i
invariant-loop-i g l = record {
  at : IsAtQuery l.options l.series.program l.series.queries (g.K.Sink.held l.initial.sink) (g.K.Sink.held l.sink) (g.K.Sink.faults l.initial.sink) (g.K.Sink.faults l.sink) l.i l.course;
  kept : IsKeptOf l.options l.series.program l.kept;
  heard : g.W.Watch.IsAfter l.initial.watch l.watch;
}
