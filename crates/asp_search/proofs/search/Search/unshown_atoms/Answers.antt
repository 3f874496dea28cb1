use Rattle.std.proofs.Common.{ap, ◌∙◌}
use Rattle.asp_search.specs.Beside.{left_to_show}
use Rattle.asp_search.proofs.CoverLaws.{left-none, left-some}
use Rattle.asp_search.proofs.search.Search.unshown_atoms.Goals as goal

pub returns-in-None : goal.returns-in-None
returns-in-None g c =
    let i = c.self.inside in
    left-none i.mode i.compiled.now i.state.program i.known.items i.seen c.self.invariant.1 c.in-None.is
    ∙ ap left_to_show c.self.view_is

pub returns-in-Some : goal.returns-in-Some
returns-in-Some g c =
    let i = c.self.inside in
    c.count_unshown.ensures
    ∙ left-some i.mode i.compiled.now i.state.program i.known.items i.seen c.in-Some.seen c.self.invariant.0.program c.self.invariant.1 c.in-Some.is
    ∙ ap left_to_show c.self.view_is
