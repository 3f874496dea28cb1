use Rattle.std.proofs.Common.{length}
use Rattle.asp_weight.specs.Kept.{AreCounted, AreSilentRows}
use Rattle.asp_weight.proofs.look.first_speech.Given as goal

abbrev pub invariant-loop-body : goal.invariant-loop-body
invariant-loop-body l = record {
  counted : AreCounted l.values l.rows l.tallies.tallies;
  silence : AreSilentRows l.values l.shapes l.rows l.tallies.tallies;
}

abbrev pub decreases-loop-body : goal.decreases-loop-body
decreases-loop-body l = length l.tallies.queue
