use Rattle.std.proofs.Common.{◌≡◌, ◌∷◌}
use Rattle.asp_model.specs.declared.results.Mode.TheVariants.{Enum}
use Rattle.asp_crew.specs.Running.{work_left}
use Rattle.asp_crew.proofs.StepLaws.{IsAlong}
use Rattle.asp_stream.specs.Streams.{IsFrontOf, IsStreamOf, leaves_of}
use Rattle.asp_stream.proofs.leaf.run.Given as goal

abbrev pub invariant-steps : goal.invariant-steps
invariant-steps g l = record {
  along : IsAlong Enum l.initial.stream.ledger l.stream.ledger l.initial.search l.search l.fuel;
  compiled : l.stream.compiled ≡ l.initial.stream.compiled;
  parts : l.stream.parts ≡ l.initial.stream.parts;
  stream : IsStreamOf l.stream (g.R.Reader.all l.reader) (g.R.Reader.heard l.reader) (l.leaf ∷ leaves_of l.stream.parts.items);
  front : IsFrontOf l.initial.stream.compiled.now (g.R.Reader.all l.initial.reader) (g.R.Reader.program l.reader) (g.R.Reader.all l.reader) (g.R.Reader.heard l.reader);
  after : g.R.Reader.IsAfter l.initial.reader l.reader;
  heard : g.W.Watch.IsAfter l.initial.watch l.watch;
}

abbrev pub decreases-steps : goal.decreases-steps
decreases-steps g l = work_left l.search l.fuel
