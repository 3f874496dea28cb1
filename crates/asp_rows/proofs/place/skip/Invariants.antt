use Rattle.asp_rows.specs.Places.{IsBehind}
use Rattle.asp_rows.proofs.place.skip.Given as goal

abbrev pub invariant-loop-place : goal.invariant-loop-place
invariant-loop-place l = IsBehind l.atoms l.place l.atom
