use Rattle.std.proofs.Common.{◌-◌, eqb}
use Rattle.std.specs.List.{count_by}
use Rattle.asp_scc.proofs.SearchLaws.{Round}
use Rattle.asp_scc.proofs.search.search.Given as goal

abbrev pub invariant-loop-next : goal.invariant-loop-next
invariant-loop-next l = Round l.graph l.old l.new l.from l.fn.states l.states l.found.items l.next

abbrev pub decreases-loop-next : goal.decreases-loop-next
decreases-loop-next l = count_by (λ s. eqb s l.old) l.fn.states - l.next
