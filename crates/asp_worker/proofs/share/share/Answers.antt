use Rattle.asp_vault.specs.Seats.{view}
use Rattle.asp_worker.specs.Working.{IsOff}
use Rattle.asp_worker.proofs.Replies.{always-err, memory-stop}
use Rattle.asp_worker.proofs.SeatLaws.{keeps-trans}
use Rattle.asp_worker.proofs.share.share.Goals as goal

pub returns-clause-keeps : goal.returns-clause-keeps
returns-clause-keeps g c = keeps-trans c.args.worker.now c.shed.new.worker c.offer.new.worker c.shed.ensures.keeps c.offer.ensures.keeps

pub returns-in_err-shed-clause-err : goal.returns-in_err-shed-clause-err
returns-in_err-shed-clause-err g c = always-err c.from_residual.result (IsOff (view c.shed.new.worker.seat) c.shed.new.engine.fuel c.shed.new.leaf) c.in_err-shed.ensures.err

pub returns-in_err-shed-clause-stop : goal.returns-in_err-shed-clause-stop
returns-in_err-shed-clause-stop g c = memory-stop (view c.shed.new.worker.seat) c.from_residual.result c.from_residual.ensures.1
