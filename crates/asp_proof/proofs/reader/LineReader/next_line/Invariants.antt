use Rattle.std.proofs.Common.{◌≡◌, ◌-◌, ◌++◌, length}
use Rattle.asp_proof.specs.Grammar.{IsUnbroken}
use Rattle.asp_proof.specs.Reading.{Moves}
use Rattle.asp_proof.proofs.reader.LineReader.next_line.Given as goal

abbrev pub invariant-pieces : goal.invariant-pieces
invariant-pieces g l = record {
  unbroken : IsUnbroken l.self.line;
  moved : Moves (g.S.Source.left l.initial.source) (g.S.Source.left l.source) l.initial.self.behind (l.self.line ++ l.self.behind);
  quiet : g.S.Source.faults l.source ≡ g.S.Source.faults l.initial.source;
}

abbrev pub decreases-pieces : goal.decreases-pieces
decreases-pieces g l = 268435456 - length l.self.line
