use Rattle.asp_weight.specs.Rows.{AreRows, first_weighed}
use Rattle.asp_weight.proofs.rows.Rows.of.Given as goal

abbrev pub invariant-loop-body : goal.invariant-loop-body
invariant-loop-body l = AreRows l.compiled (first_weighed l.compiled l.body) l.rows.shapes.items l.rows.rows
