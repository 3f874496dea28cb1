use Rattle.std.proofs.Common.{◌≡◌, ℕ, ◌≤◌, List, length}
use Rattle.asp_read.specs.Stream.{outcome_on}
use Rattle.asp_read.proofs.stream.judge_lines.Given as goal

abbrev pub invariant-loop-line : goal.invariant-loop-line
invariant-loop-line g l = record {
  same : (room : ℕ) (rest : List ℕ) → outcome_on g.J.Judge.format l.lines l.reader room rest ≡ outcome_on g.J.Judge.format l.initial.lines l.initial.reader room rest;
  fed : l.lines.fed ≡ l.initial.lines.fed;
  shorter : length l.lines.bytes ≤ length l.initial.lines.bytes;
}

abbrev pub decreases-loop-line : goal.decreases-loop-line
decreases-loop-line g l = length l.lines.bytes
