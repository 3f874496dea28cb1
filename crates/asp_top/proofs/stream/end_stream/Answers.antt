use Rattle.std.proofs.Common.{inl}
use Rattle.asp_top.proofs.stream.end_stream.Goals as goal

pub returns-then-outlet-clause-ends : goal.returns-then-outlet-clause-ends
returns-then-outlet-clause-ends g c = λ a none fine after. inl (c.cut_short.ensures.cut a none fine after)
