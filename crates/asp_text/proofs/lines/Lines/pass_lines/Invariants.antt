use Rattle.std.proofs.Common.{◌≡◌, ◌+◌, length}
use Rattle.std.specs.Prelude.{count_by}
use Rattle.asp_text.specs.Lines.{is_lf, tail}
use Rattle.asp_text.proofs.lines.Lines.pass_lines.Given as goal

abbrev pub invariant-loop-line : goal.invariant-loop-line
invariant-loop-line l = record {
  same : tail l.self.bytes ≡ tail l.initial.self.bytes;
  counted : l.self.given + count_by is_lf l.self.bytes ≡ l.initial.self.given + count_by is_lf l.initial.self.bytes;
  fed : l.self.fed ≡ l.initial.self.fed;
}

abbrev pub decreases-loop-line : goal.decreases-loop-line
decreases-loop-line l = length l.self.bytes
