use Rattle.asp_propagate.specs.Propagating.{is_named}
use Rattle.asp_search_laws.proofs.SlotLaws.{others_stay}
use Rattle.asp_search.proofs.stepping.sweep.Goals as goal

pub returns-clause-others : goal.returns-clause-others
returns-clause-others g c = others_stay c.args.state.now.slots c.drop_given.new.self.slots (is_named c.args.state.now.entries) c.drop_given.ensures.each
