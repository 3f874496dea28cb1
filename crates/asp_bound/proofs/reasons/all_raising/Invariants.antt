use Rattle.std.proofs.Common.{◌≡◌, take}
use Rattle.std.specs.List.{flat_map}
use Rattle.asp_bound.specs.Reasons.{before, raising_at}
use Rattle.asp_bound.proofs.reasons.all_raising.Given as goal

abbrev pub invariant-loop-var : goal.invariant-loop-var
invariant-loop-var l = l.lits.items ≡ flat_map (raising_at (before l.trail l.place) l.rows l.depth) (take l.var-index l.vars)
