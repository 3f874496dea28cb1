use Rattle.std.proofs.Common.{◌≡◌, take}
use Rattle.asp_source.specs.Marks.{atoms_at}
use Rattle.asp_source.proofs.loose.collect.Given as goal

abbrev pub invariant-loop-place : goal.invariant-loop-place
invariant-loop-place l = l.atoms.items ≡ atoms_at l.compiled l.loose (take l.place-index l.places)
