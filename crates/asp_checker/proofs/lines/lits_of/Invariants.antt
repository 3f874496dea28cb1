use Rattle.std.proofs.Common.{◌≡◌, take}
use Rattle.asp_checker.specs.Lines.{literals_of, AreOf}
use Rattle.asp_checker.proofs.lines.lits_of.Given as goal

abbrev pub invariant-loop-literal : goal.invariant-loop-literal
invariant-loop-literal l = record {
  so_far : l.lits.items ≡ literals_of (take l.literal-index l.literals);
  are : AreOf l.compiled l.lits.items;
}
