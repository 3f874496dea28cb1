use Rattle.std.proofs.Common.{ap, ◌∙◌}
use Rattle.asp_core.specs.Boards.{Board, common_by, listed_by, showing_of, sought}
use Rattle.asp_core.proofs.SeenLaws.{seen-common, seen-listed, seen-standing}
use Rattle.asp_core.proofs.state.State.into_found.Goals as goal

pub common-requires : goal.common-requires
common-requires c =
    let i = c.self.inside in
    seen-standing i.goal (sought i.goal) i.program.value i.known i.answers.sets i.told.items i.atoms.items c.self.invariant.seen

pub returns-clause-answers : goal.returns-clause-answers
returns-clause-answers c =
    let i = c.self.inside in
    seen-listed i.goal (sought i.goal) i.program.value i.known i.answers.sets i.told.items i.atoms.items c.self.invariant.seen
    ∙ ap (λ (b : Board). listed_by (sought b.task.goal) b.answers) c.self.view_is

pub returns-clause-known : goal.returns-clause-known
returns-clause-known c =
    let i = c.self.inside in
    c.common.ensures ∙ seen-common i.goal (sought i.goal) i.program.value i.known i.answers.sets i.told.items i.atoms.items c.self.invariant.seen
    ∙ ap (λ (b : Board). common_by (sought b.task.goal) b.task.program (showing_of b)) c.self.view_is
