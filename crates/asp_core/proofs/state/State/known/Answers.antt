use Rattle.std.proofs.Common.{ap, ◌∙◌}
use Rattle.asp_core.specs.Boards.{known_of, sought}
use Rattle.asp_core.proofs.SeenLaws.{seen-known}
use Rattle.asp_core.proofs.state.State.known.Goals as goal

pub returns : goal.returns
returns c =
    let i = c.self.inside in
    c.as_ref.ensures.value ∙ seen-known i.goal (sought i.goal) i.program.value i.known i.answers.sets i.told.items i.atoms.items c.self.invariant.seen ∙ ap known_of c.self.view_is
