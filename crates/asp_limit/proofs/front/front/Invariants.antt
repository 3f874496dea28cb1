use Rattle.std.proofs.Common.{◌≡◌, take}
use Rattle.asp_limit.proofs.front.front.Given as goal

abbrev pub invariant-loop-place : goal.invariant-loop-place
invariant-loop-place l = l.first ≡ record { atoms = l.rows.atoms; sets = take l.place l.rows.sets }
