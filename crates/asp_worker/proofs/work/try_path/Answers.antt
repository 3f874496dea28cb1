use Rattle.std.proofs.Common.{refl, subst}
use Rattle.asp_vault.specs.Seats.{view}
use Rattle.asp_core.specs.declared.event.Event.TheVariants as event
use Rattle.asp_worker.specs.declared.path.Way.{Way}
use Rattle.asp_worker.specs.declared.worker.Worker.{Worker}
use Rattle.asp_worker.specs.Working.{IsWay}
use Rattle.asp_worker.proofs.SeatLaws.{keeps-seat, keeps-trans, lawful-now, placed-seat, ready-placed, free-released}
use Rattle.asp_worker.proofs.EndLaws.{owes-released, small-released, stopped-on, tidy-small}
use Rattle.asp_worker.proofs.GoingLaws.{owes-of}
use Rattle.asp_worker.proofs.work.try_path.Goals as goal

pub returns-in-Closed-clause-free : goal.returns-in-Closed-clause-free
returns-in-Closed-clause-free g c =
    (subst (λ (x : Way). IsWay (g.H.Halt.never c.args.halt.now → ⊥) c.args.shared.now.mode (view c.path-way.new.worker.seat)
    c.path-way.new.engine.search c.path-way.new.engine.fuel c.path-way.new.leaf x) c.in-Closed.is c.path-way.ensures.way).1

pub returns-in-Closed-clause-going : goal.returns-in-Closed-clause-going
returns-in-Closed-clause-going g c = (
  (subst (λ (x : Way). IsWay (g.H.Halt.never c.args.halt.now → ⊥) c.args.shared.now.mode (view c.path-way.new.worker.seat)
      c.path-way.new.engine.search c.path-way.new.engine.fuel c.path-way.new.leaf x) c.in-Closed.is c.path-way.ensures.way).0,
  c.path-way.ensures.ready.tidy,
)

pub returns-in-Closed-clause-owes : goal.returns-in-Closed-clause-owes
returns-in-Closed-clause-owes g c = owes-of
    (subst (λ (x : Way). IsWay (g.H.Halt.never c.args.halt.now → ⊥) c.args.shared.now.mode (view c.path-way.new.worker.seat)
    c.path-way.new.engine.search c.path-way.new.engine.fuel c.path-way.new.leaf x) c.in-Closed.is c.path-way.ensures.way).0

pub release-requires-clause-held : goal.release-requires-clause-held
release-requires-clause-held g c = (subst
    (λ (x : Way). IsWay (g.H.Halt.never c.args.halt.now → ⊥) c.args.shared.now.mode (view c.path-way.new.worker.seat) c.path-way.new.engine.search
    c.path-way.new.engine.fuel c.path-way.new.leaf x) c.in-Left.is c.path-way.ensures.way).0.held

pub returns-in-Left-clause-keeps : goal.returns-in-Left-clause-keeps
returns-in-Left-clause-keeps g c =
    let h : Worker = c.path-way.new.worker in let k : Worker = record h { seat = c.release.new.seat } in
    keeps-trans c.args.worker.now h k c.path-way.ensures.keeps (keeps-seat c.args.shared.now h k c.path-way.ensures.ready c.release.ensures.of c.release.ensures.stays refl)

pub returns-in-Left-clause-placed : goal.returns-in-Left-clause-placed
returns-in-Left-clause-placed g c =
    let h : Worker = c.path-way.new.worker in let k : Worker = record h { seat = c.release.new.seat } in
    let r = c.path-way.ensures.ready in
    placed-seat c.args.shared.now h k (ready-placed c.args.shared.now h r) (keeps-seat c.args.shared.now h k r c.release.ensures.of c.release.ensures.stays refl) r.pool
    (lawful-now (view h.seat) (view k.seat) c.release.ensures.call.0 c.release.ensures.stays (event.Release (view h.seat).number c.path-way.new.leaf) c.release.ensures.call.1)

pub returns-in-Left-clause-small : goal.returns-in-Left-clause-small
returns-in-Left-clause-small g c =
    small-released (view c.path-way.new.worker.seat) (view c.release.new.seat) c.release.ensures.call.0 c.release.ensures.stays c.path-way.new.leaf
    c.release.ensures.call.1 c.path-way.ensures.ready.tidy

pub returns-in-Left-clause-free : goal.returns-in-Left-clause-free
returns-in-Left-clause-free g c =
    free-released (view c.path-way.new.worker.seat) (view c.release.new.seat) c.release.ensures.call.0 c.release.ensures.stays c.path-way.new.leaf
    c.path-way.ensures.ready.settled.run c.release.ensures.call.1

pub returns-in-Left-clause-owes : goal.returns-in-Left-clause-owes
returns-in-Left-clause-owes g c =
    owes-released (view c.path-way.new.worker.seat) (view c.release.new.seat) c.release.ensures.call.0 c.release.ensures.stays c.path-way.new.leaf c.release.ensures.call.1 c.path-way.new.engine.fuel
    (subst (λ (x : Way). IsWay (g.H.Halt.never c.args.halt.now → ⊥) c.args.shared.now.mode (view c.path-way.new.worker.seat)
    c.path-way.new.engine.search c.path-way.new.engine.fuel c.path-way.new.leaf x) c.in-Left.is c.path-way.ensures.way).0.units

pub release-requires-in-Short-clause-held : goal.release-requires-in-Short-clause-held
release-requires-in-Short-clause-held g c = (subst
    (λ (x : Way). IsWay (g.H.Halt.never c.args.halt.now → ⊥) c.args.shared.now.mode (view c.path-way.new.worker.seat) c.path-way.new.engine.search
    c.path-way.new.engine.fuel c.path-way.new.leaf x) c.in-Short.is c.path-way.ensures.way).held

pub returns-in-Short-clause-keeps : goal.returns-in-Short-clause-keeps
returns-in-Short-clause-keeps g c =
    let h : Worker = c.path-way.new.worker in let k : Worker = record h { seat = c.release-in-Short.new.seat } in
    keeps-trans c.args.worker.now h k c.path-way.ensures.keeps (keeps-seat c.args.shared.now h k c.path-way.ensures.ready c.release-in-Short.ensures.of c.release-in-Short.ensures.stays refl)

pub returns-in-Short-clause-placed : goal.returns-in-Short-clause-placed
returns-in-Short-clause-placed g c =
    let h : Worker = c.path-way.new.worker in let k : Worker = record h { seat = c.release-in-Short.new.seat } in
    let r = c.path-way.ensures.ready in
    placed-seat c.args.shared.now h k (ready-placed c.args.shared.now h r) (keeps-seat c.args.shared.now h k r c.release-in-Short.ensures.of c.release-in-Short.ensures.stays refl) r.pool
    (lawful-now (view h.seat) (view k.seat) c.release-in-Short.ensures.call.0 c.release-in-Short.ensures.stays
    (event.Release (view h.seat).number c.path-way.new.leaf) c.release-in-Short.ensures.call.1)

pub returns-in-Short-clause-small : goal.returns-in-Short-clause-small
returns-in-Short-clause-small g c =
    small-released (view c.path-way.new.worker.seat) (view c.release-in-Short.new.seat) c.release-in-Short.ensures.call.0
    c.release-in-Short.ensures.stays c.path-way.new.leaf c.release-in-Short.ensures.call.1 c.path-way.ensures.ready.tidy

pub returns-in-Short-clause-free : goal.returns-in-Short-clause-free
returns-in-Short-clause-free g c =
    free-released (view c.path-way.new.worker.seat) (view c.release-in-Short.new.seat) c.release-in-Short.ensures.call.0
    c.release-in-Short.ensures.stays c.path-way.new.leaf c.path-way.ensures.ready.settled.run c.release-in-Short.ensures.call.1

pub returns-in-Short-clause-owes : goal.returns-in-Short-clause-owes
returns-in-Short-clause-owes g c =
    owes-released (view c.path-way.new.worker.seat) (view c.release-in-Short.new.seat) c.release-in-Short.ensures.call.0
    c.release-in-Short.ensures.stays c.path-way.new.leaf c.release-in-Short.ensures.call.1 c.path-way.new.engine.fuel
    (subst (λ (x : Way). IsWay (g.H.Halt.never c.args.halt.now → ⊥) c.args.shared.now.mode (view c.path-way.new.worker.seat)
    c.path-way.new.engine.search c.path-way.new.engine.fuel c.path-way.new.leaf x) c.in-Short.is c.path-way.ensures.way).units

pub returns-in-Left-clause-going : goal.returns-in-Left-clause-going
returns-in-Left-clause-going g c =
    stopped-on (g.H.Halt.never c.args.halt.now → ⊥) (view c.path-way.new.worker.seat) (view c.release.new.seat) c.release.ensures.stays
    (subst (λ (x : Way). IsWay (g.H.Halt.never c.args.halt.now → ⊥) c.args.shared.now.mode (view c.path-way.new.worker.seat)
    c.path-way.new.engine.search c.path-way.new.engine.fuel c.path-way.new.leaf x) c.in-Left.is c.path-way.ensures.way).1

pub returns-in-Closed-clause-placed : goal.returns-in-Closed-clause-placed
returns-in-Closed-clause-placed g c = ready-placed c.args.shared.now c.path-way.new.worker c.path-way.ensures.ready

pub returns-in-Closed-clause-small : goal.returns-in-Closed-clause-small
returns-in-Closed-clause-small g c = tidy-small (view c.path-way.new.worker.seat) c.path-way.ensures.ready.tidy
