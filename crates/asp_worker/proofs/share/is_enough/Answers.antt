use Rattle.std.proofs.Common.{refl, sym, ap, ◌∙◌}
use Rattle.asp_vault.specs.Seats.{view}
use Rattle.asp_core.specs.Boards.{is_enough}
use Rattle.asp_book.proofs.CallLaws.{seen-after}
use Rattle.asp_worker.specs.declared.worker.Worker.{Worker}
use Rattle.asp_worker.specs.Seats.{Idles}
use Rattle.asp_worker.proofs.SeatLaws.{idles-self, idles-call, keeps-self, keeps-seat, ready-seat}
use Rattle.asp_worker.proofs.share.is_enough.Goals as goal

pub returns-then-shared-eq0-clause-keeps : goal.returns-then-shared-eq0-clause-keeps
returns-then-shared-eq0-clause-keeps g c = keeps-self c.args.shared.now c.args.worker.now c.requires.ready

pub returns-then-shared-eq0-clause-idles : goal.returns-then-shared-eq0-clause-idles
returns-then-shared-eq0-clause-idles g c = idles-self (view c.args.worker.now.seat) c.requires.ready.settled

pub returns-clause-keeps : goal.returns-clause-keeps
returns-clause-keeps g c =
    let h : Worker = c.args.worker.now in let k : Worker = record h { seat = c.enough.new.seat } in
    keeps-seat c.args.shared.now h k c.requires.ready c.enough.ensures.of c.enough.ensures.stays refl

pub returns-clause-ready : goal.returns-clause-ready
returns-clause-ready g c =
    let h : Worker = c.args.worker.now in let k : Worker = record h { seat = c.enough.new.seat } in
    let i : Idles (view h.seat) (view k.seat) = idles-call (view h.seat) (view k.seat) c.enough.ensures.call.0 c.enough.ensures.stays c.enough.ensures.call.2 in
    ready-seat c.args.shared.now h k c.requires.ready (keeps-seat c.args.shared.now h k c.requires.ready c.enough.ensures.of c.enough.ensures.stays refl) c.requires.ready.pool i.lawful

pub returns-clause-idles : goal.returns-clause-idles
returns-clause-idles g c = idles-call (view c.args.worker.now.seat) (view c.enough.new.seat) c.enough.ensures.call.0 c.enough.ensures.stays c.enough.ensures.call.2

pub returns-clause-enough : goal.returns-clause-enough
returns-clause-enough g c = λ t.
    ap is_enough (seen-after (view c.args.worker.now.seat) (view c.enough.new.seat) c.enough.ensures.call.0 _ c.enough.ensures.stays c.enough.ensures.call.2) ∙ sym c.enough.ensures.call.1 ∙ t
