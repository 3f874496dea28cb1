use Rattle.std.proofs.Common.{count_by}
use Rattle.asp_source.specs.Founding.{Founds}
use Rattle.asp_source.proofs.loose.settle.Given as goal

abbrev pub invariant-rounds : goal.invariant-rounds
invariant-rounds l = Founds l.compiled l.values l.initial.sources l.initial.ranks l.initial.loose l.initial.waiting l.sources l.ranks l.loose l.waiting

abbrev pub decreases-rounds : goal.decreases-rounds
decreases-rounds l = count_by (λ b. b) l.loose
