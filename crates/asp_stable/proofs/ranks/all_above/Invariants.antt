use Rattle.std.proofs.Common.{◌<◌, get_or, take}
use Rattle.std.specs.Prelude.{All}
use Rattle.asp_stable.proofs.ranks.all_above.Given as goal

abbrev pub invariant-loop-var : goal.invariant-loop-var
invariant-loop-var l = All (λ v. 0 < get_or l.ranks v 0 → l.top < get_or l.ranks v 0) (take l.var-index l.heads)
