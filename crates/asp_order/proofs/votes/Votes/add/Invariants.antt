use Rattle.std.proofs.Common.{◌≡◌, take}
use Rattle.asp_order.specs.Voting.{voted}
use Rattle.asp_order.proofs.votes.Votes.add.Given as goal

abbrev pub invariant-loop-lit : goal.invariant-loop-lit
invariant-loop-lit l = l.self ≡ voted l.initial.self (take l.lit-index l.lits)
