use Rattle.asp_checker.specs.Lines.{stock, all_of}
use Rattle.asp_checker.specs.Blocks.{known_with, Extends}
use Rattle.asp_checker.specs.Chasing.{IsTrailedAlike}
use Rattle.asp_checker.proofs.chase.chase.Given as goal

abbrev pub invariant-hints : goal.invariant-hints
invariant-hints l = record {
  extends : Extends l.compiled (all_of (stock (known_with l.compiled l.listed l.rows l.bound) l.placed)) l.initial.values l.values;
  trailed : IsTrailedAlike l.initial.values l.values l.initial.trail.items l.trail.items;
}
