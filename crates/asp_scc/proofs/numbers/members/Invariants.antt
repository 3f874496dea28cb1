use Rattle.asp_scc.specs.Numbers.{HasMembers}
use Rattle.asp_scc.proofs.numbers.members.Given as goal

abbrev pub invariant-loop-place : goal.invariant-loop-place
invariant-loop-place l = HasMembers l.numbers l.count l.place l.rows
