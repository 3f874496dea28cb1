use Rattle.std.proofs.Common.{◌≡◌, ◌++◌, vec_len}
use Rattle.std.specs.Prelude.{reverse}
use Rattle.asp_split.specs.Dividing.{IsParted}
use Rattle.asp_split.specs.Following.{IsProber}
use Rattle.asp_split.proofs.rounds.divide_round.Given as goal

abbrev pub invariant-leaves : goal.invariant-leaves
invariant-leaves g l = record {
  parted : IsParted l.compiled l.fn.waiting.items (l.leaves.items ++ reverse l.waiting.items) l.fn.round.parts;
  prober : IsProber l.compiled l.state;
  parts : l.round.parts ≡ l.fn.round.parts;
}

abbrev pub decreases-leaves : goal.decreases-leaves
decreases-leaves g l = vec_len l.waiting
