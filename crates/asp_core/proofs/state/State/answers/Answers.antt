use Rattle.std.proofs.Common.{◌≡◌, None, ap, ◌∙◌, sym}
use Rattle.asp_core.specs.Boards.{Board, sought}
use Rattle.asp_core.proofs.SeenLaws.{in-list}
use Rattle.asp_core.proofs.state.State.answers.Goals as goal

pub returns : goal.returns
returns c =
    let i = c.self.inside in
    let none : sought i.goal ≡ None = ap (λ (b : Board). sought b.task.goal) c.self.view_is ∙ c.requires in
    sym (in-list (sought i.goal) i.answers.sets i.told.items none) ∙ ap (λ (b : Board). b.answers) c.self.view_is
