use Rattle.std.proofs.Common.{◌≡◌}
use Rattle.asp_split.specs.Dividing.{IsParted}
use Rattle.asp_split.specs.Following.{IsProber}
use Rattle.asp_split.proofs.rounds.divide_all.Given as goal

abbrev pub invariant-rounds : goal.invariant-rounds
invariant-rounds g l = record {
  parted : IsParted l.compiled l.fn.first.items l.leaves.items l.parts;
  prober : IsProber l.compiled l.state;
  parts : l.round.parts ≡ l.parts;
}
