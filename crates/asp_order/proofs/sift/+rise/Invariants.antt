use Rattle.asp_order.proofs.sift.+rise.Given as goal

abbrev pub decreases-rise : goal.decreases-rise
decreases-rise l = l.at
