use Rattle.std.proofs.Common.{◌≡◌, ◌≤◌, [], ◌++◌, length}
use Rattle.asp_proof.specs.Reading.{Moves}
use Rattle.asp_checker.proofs.RunLaws.{AreNone}
use Rattle.asp_checker.proofs.run.program_text.Given as goal

abbrev pub invariant-lines : goal.invariant-lines
invariant-lines g l = record {
  none : AreNone l.text.items;
  short : length l.text.items ≤ 268435456;
  moved : Moves (g.S.Source.left l.initial.source) (g.S.Source.left l.source) [] (l.text.items ++ l.reader.behind);
  quiet : g.S.Source.faults l.source ≡ g.S.Source.faults l.initial.source;
}
