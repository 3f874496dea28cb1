use Rattle.std.proofs.Common.{◌≡◌, true, take}
use Rattle.std.specs.List.{list_all}
use Rattle.asp_found.specs.Marks.{lit_between}
use Rattle.asp_found.proofs.marks.all_between.Given as goal

abbrev pub invariant-loop-lit : goal.invariant-loop-lit
invariant-loop-lit l = list_all (lit_between l.set l.derived) (take l.lit-index l.lits) ≡ true
