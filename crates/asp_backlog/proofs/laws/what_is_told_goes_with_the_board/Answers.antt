use Rattle.asp_backlog.proofs.ToldLaws.{told-delivered, told-happens, told-raised}
use Rattle.asp_backlog.proofs.laws.what_is_told_goes_with_the_board.Goals as goal

pub returns : goal.returns
returns c = record { other = told-happens; delivered = told-delivered; raised = told-raised }
