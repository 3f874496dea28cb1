use Rattle.std.proofs.Common.{sym, ◌∙◌, subst}
use Rattle.asp_core.specs.Boards.{Board}
use Rattle.asp_core.specs.Invariant.{HasResult}
use Rattle.asp_core.specs.Stored.{board_of}
use Rattle.asp_core.proofs.ResultLaws.{HasResult-board}
use Rattle.asp_core.proofs.state.State.finished.Goals as goal

pub returns-clause-result : goal.returns-clause-result
returns-clause-result c h =
    let By : Board → Type 0 = λ b. HasResult b.task.goal b in
    subst By c.self.view_is (HasResult-board (board_of c.self.inside) c.self.invariant.board (sym c.all_closed.ensures ∙ h))
