use Rattle.std.proofs.Common.{◌≡◌, take, map}
use Rattle.asp_equal.specs.Reduced.{restored}
use Rattle.asp_answers.proofs.restore_each.Given as goal

-- the first sets have what was set aside
abbrev pub invariant-loop-set : goal.invariant-loop-set
invariant-loop-set l = l.whole.items ≡ map (restored l.aside) (take l.set-index l.sets)
