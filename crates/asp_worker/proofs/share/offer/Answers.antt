use Rattle.std.proofs.Common.{◌≡◌, true}
use Rattle.asp_vault.specs.Seats.{view}
use Rattle.asp_book.specs.Calls.{Knows}
use Rattle.asp_worker.specs.Working.{IsOff}
use Rattle.asp_worker.proofs.SeatLaws.{keeps-self, keeps-trans}
use Rattle.asp_worker.proofs.GoingLaws.{on-on, on-off, off-on}
use Rattle.asp_worker.proofs.Replies.{always-err, memory-stop}
use Rattle.asp_slots.proofs.ShelfLaws.{still-seen}
use Rattle.asp_core.specs.Boards.{is_enough}
use Rattle.asp_worker.proofs.OwnLaws.{was-now}
use Rattle.asp_worker.proofs.share.offer.Goals as goal

pub returns-then-engine-ne0-clause-keeps : goal.returns-then-engine-ne0-clause-keeps
returns-then-engine-ne0-clause-keeps g c = keeps-self c.args.shared.now c.args.worker.now c.requires.ready

pub returns-then-is_enough-clause-read : goal.returns-then-is_enough-clause-read
returns-then-is_enough-clause-read g c = still-seen c.args.engine.now.read c.args.worker.now.pages c.is_enough.new.worker.pages c.is_enough.ensures.keeps.pages c.requires.read

pub returns-then-is_enough-clause-err : goal.returns-then-is_enough-clause-err
returns-then-is_enough-clause-err g c =
    let v : Knows = view c.args.worker.now.seat in let w : Knows = view c.is_enough.new.worker.seat in
    off-on v w c.args.engine.now.fuel c.args.leaf.now (on-off c.args.shared.now.mode v c.args.engine.now.search c.args.engine.now.fuel c.args.leaf.now c.requires.on) c.is_enough.ensures.idles

pub offer_half-requires-clause-on : goal.offer_half-requires-clause-on
offer_half-requires-clause-on g c =
    on-on c.args.shared.now.mode (view c.args.worker.now.seat) (view c.is_enough.new.worker.seat) c.args.engine.now.search c.args.engine.now.fuel
    c.args.leaf.now c.requires.on c.is_enough.ensures.idles

pub offer_half-requires-clause-read : goal.offer_half-requires-clause-read
offer_half-requires-clause-read g c = still-seen c.args.engine.now.read c.args.worker.now.pages c.is_enough.new.worker.pages c.is_enough.ensures.keeps.pages c.requires.read

pub returns-clause-keeps : goal.returns-clause-keeps
returns-clause-keeps g c = keeps-trans c.args.worker.now c.is_enough.new.worker c.offer_half.new.worker c.is_enough.ensures.keeps c.offer_half.ensures.keeps

pub returns-in_err-offer_half-clause-keeps : goal.returns-in_err-offer_half-clause-keeps
returns-in_err-offer_half-clause-keeps g c = keeps-trans c.args.worker.now c.is_enough.new.worker c.offer_half.new.worker c.is_enough.ensures.keeps c.offer_half.ensures.keeps

pub returns-in_err-offer_half-clause-err : goal.returns-in_err-offer_half-clause-err
returns-in_err-offer_half-clause-err g c =
    always-err c.from_residual.result (IsOff (view c.offer_half.new.worker.seat) c.offer_half.new.engine.fuel c.offer_half.new.leaf)
    c.in_err-offer_half.ensures.err

pub returns-then-is_enough-clause-stop : goal.returns-then-is_enough-clause-stop
returns-then-is_enough-clause-stop g c = was-now (λ b. is_enough b ≡ true) (view c.is_enough.new.worker.seat) (c.is_enough.ensures.enough c.if-is_enough.true)

pub returns-in_err-offer_half-clause-stop : goal.returns-in_err-offer_half-clause-stop
returns-in_err-offer_half-clause-stop g c = memory-stop (view c.offer_half.new.worker.seat) c.from_residual.result c.from_residual.ensures.1

pub returns-then-not-is_ripe-clause-ok : goal.returns-then-not-is_ripe-clause-ok
returns-then-not-is_ripe-clause-ok g c =
    on-on c.args.shared.now.mode (view c.args.worker.now.seat) (view c.is_enough.new.worker.seat) c.args.engine.now.search c.args.engine.now.fuel
    c.args.leaf.now c.requires.on c.is_enough.ensures.idles
