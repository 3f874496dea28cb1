use Rattle.asp_source.specs.Pointers.{AreNormal}
use Rattle.asp_source.proofs.start.has_weights.Given as goal

abbrev pub invariant-loop-form : goal.invariant-loop-form
invariant-loop-form l = AreNormal l.compiled l.form
