use Rattle.std.proofs.Common.{ap}
use Rattle.asp_search_laws.specs.Searching.{Searching}
use Rattle.asp_search.proofs.BesideLaws.{fails_left}
use Rattle.asp_search.proofs.search.Search.step.Goals as goal

pub returns-in-Err-clause-err : goal.returns-in-Err-clause-err
returns-in-Err-clause-err g c =
    λ q e. fails_left (g.P.Propagator.gives c.args.self.now.program c.args.self.now.bound) c.args.self.now c.advance.new.self c.leave.new.self q
    c.args.fuel.now c.advance.new.fuel c.leave.ensures (c.in-Err.ensures.err q e)

pub returns-in-Err-clause-lost : goal.returns-in-Err-clause-lost
returns-in-Err-clause-lost g c = ap (λ (s : Searching). s.cube) c.leave.ensures
