use Rattle.asp_search_laws.proofs.CountLaws.{derived_useful}
use Rattle.asp_search_laws.proofs.laws.derived_nogoods_count.Goals as goal

pub returns : goal.returns
returns g c = λ p known bound kept n sound useful derived.
    derived_useful p (g.P.Propagator.gives p bound) known bound kept n sound (λ m h. g.met.P.Propagator.sound p bound m known sound h) useful derived
