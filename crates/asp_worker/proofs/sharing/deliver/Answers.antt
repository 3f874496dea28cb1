use Rattle.std.proofs.Common.{◌≡◌, true}
use Rattle.asp_vault.specs.Seats.{view}
use Rattle.asp_worker.proofs.SeatLaws.{none-idles}
use Rattle.asp_worker.proofs.RecordLaws.{is-answer, is-listed, delivered-goes, delivered-idles}
use Rattle.asp_core.specs.Boards.{is_enough}
use Rattle.asp_core.specs.Events.{replay}
use Rattle.asp_book.specs.Calls.{task_of}
use Rattle.asp_worker.proofs.OwnLaws.{enough-by, was-call}
use Rattle.asp_worker.proofs.Replies.{memory-stop}
use Rattle.asp_worker.proofs.sharing.deliver.Goals as goal

pub deliver-requires-clause-listed : goal.deliver-requires-clause-listed
deliver-requires-clause-listed g c = let f = c.requires.found in
    is-listed c.args.shared.now.mode (view c.args.seat.now) f.0 c.args.engine.now.search c.args.engine.now.fuel f.1 c.args.set c.requires.listing f.2

pub deliver-requires-clause-answer : goal.deliver-requires-clause-answer
deliver-requires-clause-answer g c = let f = c.requires.found in
    is-answer c.args.shared.now.mode (view c.args.seat.now) f.0 c.args.engine.now.search c.args.engine.now.fuel f.1 c.args.set c.requires.settled f.2

pub returns-in_err-told-clause-idles : goal.returns-in_err-told-clause-idles
returns-in_err-told-clause-idles g c = none-idles (view c.args.seat.now) (view c.deliver.new.seat) c.deliver.ensures.stays c.in_err-told.ensures.err

pub returns-then-told-clause-idles : goal.returns-then-told-clause-idles
returns-then-told-clause-idles g c =
    let f = c.requires.found in let k = c.in_ok-told.ensures.ok in
    delivered-idles (view c.args.seat.now) (view c.deliver.new.seat) k.0 c.deliver.ensures.stays f.0 c.args.engine.now.search c.args.engine.now.fuel
    f.1 c.args.set c.args.shared.now.mode c.requires.listing f.2 c.in_ok-told.told k.2

pub returns-then-told-clause-ok : goal.returns-then-told-clause-ok
returns-then-told-clause-ok g c =
    let f = c.requires.found in let k = c.in_ok-told.ensures.ok in
    delivered-goes (view c.args.seat.now) (view c.deliver.new.seat) k.0 c.deliver.ensures.stays f.0 c.args.engine.now.search c.args.engine.now.fuel
    f.1 c.args.set c.args.shared.now.mode c.requires.listing f.2 c.in_ok-told.told c.if-told.true k.2

pub returns-else-told-clause-idles : goal.returns-else-told-clause-idles
returns-else-told-clause-idles g c =
    let f = c.requires.found in let k = c.in_ok-told.ensures.ok in
    delivered-idles (view c.args.seat.now) (view c.deliver.new.seat) k.0 c.deliver.ensures.stays f.0 c.args.engine.now.search c.args.engine.now.fuel
    f.1 c.args.set c.args.shared.now.mode c.requires.listing f.2 c.in_ok-told.told k.2

pub returns-in_err-told-clause-stop : goal.returns-in_err-told-clause-stop
returns-in_err-told-clause-stop g c = memory-stop (view c.deliver.new.seat) c.from_residual.result c.from_residual.ensures.1

pub returns-else-told-clause-stop : goal.returns-else-told-clause-stop
returns-else-told-clause-stop g c =
    let k = c.in_ok-told.ensures.ok in
    was-call (view c.args.seat.now) (view c.deliver.new.seat) k.0 _ c.deliver.ensures.stays k.2 (λ b. is_enough b ≡ true)
    (enough-by (is_enough (replay (task_of (view c.args.seat.now)) k.0)) c.in_ok-told.told k.1 c.if-told.false)
