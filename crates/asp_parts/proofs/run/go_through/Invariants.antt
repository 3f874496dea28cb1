use Rattle.std.proofs.Common.{◌≡◌}
use Rattle.asp_parts.specs.Courses.{IsRun}
use Rattle.asp_parts.proofs.run.go_through.Given as goal

abbrev pub invariant-rounds : goal.invariant-rounds
invariant-rounds g l = record {
  run : IsRun l.compiled (g.R.Reader.heard l.reader) l.run;
  program : g.R.Reader.program l.reader ≡ l.compiled;
  all : g.R.Reader.all l.reader ≡ g.R.Reader.all l.initial.reader;
  after : g.R.Reader.IsAfter l.initial.reader l.reader;
  heard : g.W.Watch.IsAfter l.initial.watch l.watch;
}
