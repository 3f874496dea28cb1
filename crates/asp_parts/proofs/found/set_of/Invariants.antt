use Rattle.std.proofs.Common.{◌≡◌, take, filter}
use Rattle.asp_model.specs.Sets.{has}
use Rattle.asp_parts.proofs.found.set_of.Given as goal

abbrev pub invariant-loop-place : goal.invariant-loop-place
invariant-loop-place l = l.set.items ≡ filter (has l.row.set) (take l.place l.atoms)
