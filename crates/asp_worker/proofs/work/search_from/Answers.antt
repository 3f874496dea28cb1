use Rattle.std.proofs.Common.{refl, sym, subst}
use Rattle.asp_vars.specs.Paid.{Units}
use Rattle.asp_vault.specs.Seats.{view}
use Rattle.asp_core.specs.declared.event.Event.TheVariants as event
use Rattle.asp_worker.specs.declared.worker.Worker.{Worker}
use Rattle.asp_worker.specs.Seats.{Owes}
use Rattle.asp_worker.proofs.EndLaws.{begins, idle-released, small-released}
use Rattle.asp_worker.proofs.SeatLaws.{keeps-seat, lawful-now, placed-seat, ready-placed}
use Rattle.asp_worker.proofs.work.search_from.Goals as goal

pub returns-in-Err-clause-keeps : goal.returns-in-Err-clause-keeps
returns-in-Err-clause-keeps g c =
    let h : Worker = c.args.worker.now in let k : Worker = record h { seat = c.release.new.seat } in
    keeps-seat c.args.shared.now h k c.requires.ready c.release.ensures.of c.release.ensures.stays refl

pub returns-in-Err-clause-placed : goal.returns-in-Err-clause-placed
returns-in-Err-clause-placed g c =
    let h : Worker = c.args.worker.now in let k : Worker = record h { seat = c.release.new.seat } in
    placed-seat c.args.shared.now h k (ready-placed c.args.shared.now h c.requires.ready)
    (keeps-seat c.args.shared.now h k c.requires.ready c.release.ensures.of c.release.ensures.stays refl) c.requires.ready.pool
    (lawful-now (view c.args.worker.now.seat) (view c.release.new.seat) c.release.ensures.call.0 c.release.ensures.stays (event.Release (view h.seat).number c.args.first) c.release.ensures.call.1)

pub returns-in-Err-clause-small : goal.returns-in-Err-clause-small
returns-in-Err-clause-small g c =
    small-released (view c.args.worker.now.seat) (view c.release.new.seat) c.release.ensures.call.0 c.release.ensures.stays c.args.first
    c.release.ensures.call.1 c.requires.ready.tidy

pub returns-in-Err-clause-idle : goal.returns-in-Err-clause-idle
returns-in-Err-clause-idle g c =
    idle-released (view c.args.worker.now.seat) (view c.release.new.seat) c.release.ensures.call.0 c.release.ensures.stays c.args.first
    c.release.ensures.call.1 c.requires.ready.settled c.requires.home

pub returns-in-Err-clause-heard : goal.returns-in-Err-clause-heard
returns-in-Err-clause-heard g c = g.met.W.Watch.begins c.args.watch.now

pub search_paths-short-requires-clause-going : goal.search_paths-short-requires-clause-going
search_paths-short-requires-clause-going g c =
    begins c.args.compiled.now c.args.shared.now.mode (view c.args.worker.now.seat) c.in-Ok.engine.search c.in-Ok.engine.fuel c.requires.run
    c.requires.home c.in-Ok.ensures.search c.in-Ok.ensures.fuel

pub returns-clause-owes : goal.returns-clause-owes
returns-clause-owes g c = subst (λ (u : Units). Owes (view c.search_paths-short.new.worker.seat) u) (sym c.ended-fuel.ensures) c.search_paths-short.ensures.owes
