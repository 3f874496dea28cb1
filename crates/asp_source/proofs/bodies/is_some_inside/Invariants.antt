use Rattle.std.proofs.Common.{◌≡◌, false, take}
use Rattle.std.specs.List.{list_any}
use Rattle.asp_source.specs.Marks.{lit_inside}
use Rattle.asp_source.proofs.bodies.is_some_inside.Given as goal

abbrev pub invariant-loop-lit : goal.invariant-loop-lit
invariant-loop-lit g l = list_any (lit_inside (g.I.Inside.has_var l.set)) (take l.lit-index l.lits) ≡ false
