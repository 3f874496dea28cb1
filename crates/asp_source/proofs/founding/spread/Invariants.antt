use Rattle.std.proofs.Common.{◌+◌, count_by}
use Rattle.asp_source.specs.Founding.{Founds}
use Rattle.asp_source.proofs.founding.spread.Given as goal

abbrev pub invariant-loop-place : goal.invariant-loop-place
invariant-loop-place l = Founds l.compiled l.values l.initial.sources l.initial.ranks l.initial.loose l.initial.waiting l.sources l.ranks l.loose l.waiting

abbrev pub decreases-loop-place : goal.decreases-loop-place
decreases-loop-place l = count_by (λ b. b) l.waiting + count_by (λ b. b) l.loose
