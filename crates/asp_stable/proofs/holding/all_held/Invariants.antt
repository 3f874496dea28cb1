use Rattle.std.proofs.Common.{◌≡◌, true, take}
use Rattle.std.specs.List.{list_all}
use Rattle.asp_stable.specs.Holding.{is_held}
use Rattle.asp_stable.proofs.holding.all_held.Given as goal

abbrev pub invariant-loop-lit : goal.invariant-loop-lit
invariant-loop-lit l = list_all (is_held l.assign l.marks) (take l.lit-index l.lits) ≡ true
