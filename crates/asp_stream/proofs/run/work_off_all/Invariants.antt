use Rattle.std.proofs.Common.{◌≡◌, None}
use Rattle.asp_stream.specs.Leaves.{LeavesPart, parts_left}
use Rattle.asp_stream.specs.Streams.{IsFrontOf, IsStreamOf, leaves_of}
use Rattle.asp_stream.proofs.run.work_off_all.Given as goal

abbrev pub invariant-parts : goal.invariant-parts
invariant-parts g l = record {
  left : LeavesPart l.initial.stream.ledger l.stream.ledger l.search l.fuel None;
  compiled : l.stream.compiled ≡ l.initial.stream.compiled;
  stream : IsStreamOf l.stream (g.R.Reader.all l.reader) (g.R.Reader.heard l.reader) (leaves_of l.stream.parts.items);
  front : IsFrontOf l.initial.stream.compiled.now (g.R.Reader.all l.initial.reader) (g.R.Reader.program l.reader) (g.R.Reader.all l.reader) (g.R.Reader.heard l.reader);
  after : g.R.Reader.IsAfter l.initial.reader l.reader;
  heard : g.W.Watch.IsAfter l.initial.watch l.watch;
}

abbrev pub decreases-parts : goal.decreases-parts
decreases-parts g l = parts_left l.stream.ledger l.stream.parts.items
