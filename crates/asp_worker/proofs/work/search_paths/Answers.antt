use Rattle.std.proofs.Common.{◌<◌, ℕ, Option, inl, inr, refl, sym, subst}
use Rattle.asp_vault.specs.Seats.{view}
use Rattle.asp_worker.specs.declared.path.Way.{Way}
use Rattle.asp_worker.specs.declared.worker.Worker.{Worker}
use Rattle.asp_book.specs.Calls.{Knows}
use Rattle.asp_worker.specs.Seats.{IsQuietIf, IsReady, Keeps}
use Rattle.asp_worker.specs.Working.{Ended}
use Rattle.asp_worker.proofs.SeatLaws.{keeps-self, keeps-seat, keeps-trans, placed-ready, ready-placed, ready-seat, takes-none, takes-some}
use Rattle.asp_worker.proofs.EndLaws.{tidy-small}
use Rattle.asp_worker.proofs.GoingLaws.{goes-on, owes-of}
use Rattle.asp_worker.proofs.OwnLaws.{quiet-later}
use Rattle.asp_worker.proofs.work.search_paths.Goals as goal

pub paths-init : goal.paths-init
paths-init g c = record {
  keeps = keeps-self c.args.shared.now c.args.worker.now c.requires.ready;
  ready = c.requires.ready;
  held = c.requires.held;
  going = c.requires.going;
  read = c.requires.read;
  heard = g.met.W.Watch.begins c.args.watch.now;
}

pub try_path-requires-clause-number : goal.try_path-requires-clause-number
try_path-requires-clause-number g c = subst (λ n. 0 < n) (sym c.paths.invariant.keeps.seat.number) c.requires.number

pub paths-preserved : goal.paths-preserved
paths-preserved g c =
    let h : Worker = c.try_path.new.worker in let k : Worker = record h { seat = c.find.new.seat; lane = c.find.new.lane; pass = c.find.new.pass } in
    let ended = subst (λ (x : Way). Ended (g.H.Halt.never c.args.halt.now → ⊥) c.args.shared.now.mode (view c.try_path.new.worker.seat)
    c.try_path.new.engine.search c.try_path.new.engine.fuel x) c.in-Closed.is c.try_path.ensures.going in
    let ready : IsReady c.args.shared.now h = placed-ready c.args.shared.now h c.try_path.ensures.placed ended.1 in
    let seat : Keeps h k = keeps-seat c.args.shared.now h k ready c.find.ensures.of c.find.ensures.passes.stays refl in
    let keeps : Keeps c.args.worker.now k = keeps-trans c.args.worker.now h k (keeps-trans c.args.worker.now c.paths.worker h c.paths.invariant.keeps c.try_path.ensures.keeps) seat in
    record {
      keeps = keeps;
      ready = ready-seat c.args.shared.now h k ready seat c.find.ensures.pool c.find.ensures.passes.lawful;
      held = takes-some (view k.seat) c.in-Ok.found c.in-Some-found.next c.in-Ok.ensures.takes c.in-Some-found.is;
      going = goes-on c.args.shared.now.mode (view h.seat) (view k.seat) c.try_path.new.engine.search c.try_path.new.engine.fuel ended.0 c.find.ensures.passes;
      read = c.try_path.ensures.read;
      heard = g.met.W.Watch.goes_on c.args.watch.now c.paths.watch c.try_path.new.watch c.paths.invariant.heard c.try_path.ensures.heard;
    }

pub returns-in-Left-clause-keeps : goal.returns-in-Left-clause-keeps
returns-in-Left-clause-keeps g c = keeps-trans c.args.worker.now c.paths.worker c.try_path.new.worker c.paths.invariant.keeps c.try_path.ensures.keeps

pub returns-in-Left-clause-heard : goal.returns-in-Left-clause-heard
returns-in-Left-clause-heard g c = g.met.W.Watch.goes_on c.args.watch.now c.paths.watch c.try_path.new.watch c.paths.invariant.heard c.try_path.ensures.heard

pub returns-in-Short-clause-keeps : goal.returns-in-Short-clause-keeps
returns-in-Short-clause-keeps g c = keeps-trans c.args.worker.now c.paths.worker c.try_path.new.worker c.paths.invariant.keeps c.try_path.ensures.keeps

pub returns-in-Short-clause-heard : goal.returns-in-Short-clause-heard
returns-in-Short-clause-heard g c = g.met.W.Watch.goes_on c.args.watch.now c.paths.watch c.try_path.new.watch c.paths.invariant.heard c.try_path.ensures.heard

pub returns-in-Left-clause-cause : goal.returns-in-Left-clause-cause
returns-in-Left-clause-cause g c = inr (inr
    (subst (λ (x : Way). Ended (g.H.Halt.never c.args.halt.now → ⊥) c.args.shared.now.mode (view c.try_path.new.worker.seat)
    c.try_path.new.engine.search c.try_path.new.engine.fuel x) c.in-Left.is c.try_path.ensures.going))

pub returns-in-Short-clause-cause : goal.returns-in-Short-clause-cause
returns-in-Short-clause-cause g c = inr (inl refl)

pub returns-in-Err-clause-keeps : goal.returns-in-Err-clause-keeps
returns-in-Err-clause-keeps g c =
    let h : Worker = c.try_path.new.worker in let k : Worker = record h { seat = c.find.new.seat; lane = c.find.new.lane; pass = c.find.new.pass } in
    let ended = subst (λ (x : Way). Ended (g.H.Halt.never c.args.halt.now → ⊥) c.args.shared.now.mode (view c.try_path.new.worker.seat)
    c.try_path.new.engine.search c.try_path.new.engine.fuel x) c.in-Closed.is c.try_path.ensures.going in
    let ready : IsReady c.args.shared.now h = placed-ready c.args.shared.now h c.try_path.ensures.placed ended.1 in
    let seat : Keeps h k = keeps-seat c.args.shared.now h k ready c.find.ensures.of c.find.ensures.passes.stays refl in
    let keeps : Keeps c.args.worker.now k = keeps-trans c.args.worker.now h k (keeps-trans c.args.worker.now c.paths.worker h c.paths.invariant.keeps c.try_path.ensures.keeps) seat in
    keeps

pub returns-in-Err-clause-placed : goal.returns-in-Err-clause-placed
returns-in-Err-clause-placed g c =
    let h : Worker = c.try_path.new.worker in let k : Worker = record h { seat = c.find.new.seat; lane = c.find.new.lane; pass = c.find.new.pass } in
    let ended = subst (λ (x : Way). Ended (g.H.Halt.never c.args.halt.now → ⊥) c.args.shared.now.mode (view c.try_path.new.worker.seat)
    c.try_path.new.engine.search c.try_path.new.engine.fuel x) c.in-Closed.is c.try_path.ensures.going in
    let ready : IsReady c.args.shared.now h = placed-ready c.args.shared.now h c.try_path.ensures.placed ended.1 in
    let seat : Keeps h k = keeps-seat c.args.shared.now h k ready c.find.ensures.of c.find.ensures.passes.stays refl in
    let keeps : Keeps c.args.worker.now k = keeps-trans c.args.worker.now h k (keeps-trans c.args.worker.now c.paths.worker h c.paths.invariant.keeps c.try_path.ensures.keeps) seat in
    ready-placed c.args.shared.now k (ready-seat c.args.shared.now h k ready seat c.find.ensures.pool c.find.ensures.passes.lawful)

pub returns-in-Err-clause-owes : goal.returns-in-Err-clause-owes
returns-in-Err-clause-owes g c =
    let h : Worker = c.try_path.new.worker in let k : Worker = record h { seat = c.find.new.seat; lane = c.find.new.lane; pass = c.find.new.pass } in
    let ended = subst (λ (x : Way). Ended (g.H.Halt.never c.args.halt.now → ⊥) c.args.shared.now.mode (view c.try_path.new.worker.seat)
    c.try_path.new.engine.search c.try_path.new.engine.fuel x) c.in-Closed.is c.try_path.ensures.going in
    let ready : IsReady c.args.shared.now h = placed-ready c.args.shared.now h c.try_path.ensures.placed ended.1 in
    let seat : Keeps h k = keeps-seat c.args.shared.now h k ready c.find.ensures.of c.find.ensures.passes.stays refl in
    let keeps : Keeps c.args.worker.now k = keeps-trans c.args.worker.now h k (keeps-trans c.args.worker.now c.paths.worker h c.paths.invariant.keeps c.try_path.ensures.keeps) seat in
    owes-of (goes-on c.args.shared.now.mode (view h.seat) (view k.seat) c.try_path.new.engine.search c.try_path.new.engine.fuel ended.0 c.find.ensures.passes)

pub returns-in-Err-clause-small : goal.returns-in-Err-clause-small
returns-in-Err-clause-small g c =
    let h : Worker = c.try_path.new.worker in let k : Worker = record h { seat = c.find.new.seat; lane = c.find.new.lane; pass = c.find.new.pass } in
    let ended = subst (λ (x : Way). Ended (g.H.Halt.never c.args.halt.now → ⊥) c.args.shared.now.mode (view c.try_path.new.worker.seat)
    c.try_path.new.engine.search c.try_path.new.engine.fuel x) c.in-Closed.is c.try_path.ensures.going in
    let ready : IsReady c.args.shared.now h = placed-ready c.args.shared.now h c.try_path.ensures.placed ended.1 in
    let seat : Keeps h k = keeps-seat c.args.shared.now h k ready c.find.ensures.of c.find.ensures.passes.stays refl in
    let keeps : Keeps c.args.worker.now k = keeps-trans c.args.worker.now h k (keeps-trans c.args.worker.now c.paths.worker h c.paths.invariant.keeps c.try_path.ensures.keeps) seat in
    tidy-small (view k.seat) (ready-seat c.args.shared.now h k ready seat c.find.ensures.pool c.find.ensures.passes.lawful).tidy

pub returns-in-Err-clause-heard : goal.returns-in-Err-clause-heard
returns-in-Err-clause-heard g c = g.met.W.Watch.goes_on c.args.watch.now c.paths.watch c.try_path.new.watch c.paths.invariant.heard c.try_path.ensures.heard

pub returns-in-None-found-clause-keeps : goal.returns-in-None-found-clause-keeps
returns-in-None-found-clause-keeps g c =
    let h : Worker = c.try_path.new.worker in let k : Worker = record h { seat = c.find.new.seat; lane = c.find.new.lane; pass = c.find.new.pass } in
    let ended = subst (λ (x : Way). Ended (g.H.Halt.never c.args.halt.now → ⊥) c.args.shared.now.mode (view c.try_path.new.worker.seat)
    c.try_path.new.engine.search c.try_path.new.engine.fuel x) c.in-Closed.is c.try_path.ensures.going in
    let ready : IsReady c.args.shared.now h = placed-ready c.args.shared.now h c.try_path.ensures.placed ended.1 in
    let seat : Keeps h k = keeps-seat c.args.shared.now h k ready c.find.ensures.of c.find.ensures.passes.stays refl in
    let keeps : Keeps c.args.worker.now k = keeps-trans c.args.worker.now h k (keeps-trans c.args.worker.now c.paths.worker h c.paths.invariant.keeps c.try_path.ensures.keeps) seat in
    keeps

pub returns-in-None-found-clause-placed : goal.returns-in-None-found-clause-placed
returns-in-None-found-clause-placed g c =
    let h : Worker = c.try_path.new.worker in let k : Worker = record h { seat = c.find.new.seat; lane = c.find.new.lane; pass = c.find.new.pass } in
    let ended = subst (λ (x : Way). Ended (g.H.Halt.never c.args.halt.now → ⊥) c.args.shared.now.mode (view c.try_path.new.worker.seat)
    c.try_path.new.engine.search c.try_path.new.engine.fuel x) c.in-Closed.is c.try_path.ensures.going in
    let ready : IsReady c.args.shared.now h = placed-ready c.args.shared.now h c.try_path.ensures.placed ended.1 in
    let seat : Keeps h k = keeps-seat c.args.shared.now h k ready c.find.ensures.of c.find.ensures.passes.stays refl in
    let keeps : Keeps c.args.worker.now k = keeps-trans c.args.worker.now h k (keeps-trans c.args.worker.now c.paths.worker h c.paths.invariant.keeps c.try_path.ensures.keeps) seat in
    ready-placed c.args.shared.now k (ready-seat c.args.shared.now h k ready seat c.find.ensures.pool c.find.ensures.passes.lawful)

pub returns-in-None-found-clause-owes : goal.returns-in-None-found-clause-owes
returns-in-None-found-clause-owes g c =
    let h : Worker = c.try_path.new.worker in let k : Worker = record h { seat = c.find.new.seat; lane = c.find.new.lane; pass = c.find.new.pass } in
    let ended = subst (λ (x : Way). Ended (g.H.Halt.never c.args.halt.now → ⊥) c.args.shared.now.mode (view c.try_path.new.worker.seat)
    c.try_path.new.engine.search c.try_path.new.engine.fuel x) c.in-Closed.is c.try_path.ensures.going in
    let ready : IsReady c.args.shared.now h = placed-ready c.args.shared.now h c.try_path.ensures.placed ended.1 in
    let seat : Keeps h k = keeps-seat c.args.shared.now h k ready c.find.ensures.of c.find.ensures.passes.stays refl in
    let keeps : Keeps c.args.worker.now k = keeps-trans c.args.worker.now h k (keeps-trans c.args.worker.now c.paths.worker h c.paths.invariant.keeps c.try_path.ensures.keeps) seat in
    owes-of (goes-on c.args.shared.now.mode (view h.seat) (view k.seat) c.try_path.new.engine.search c.try_path.new.engine.fuel ended.0 c.find.ensures.passes)

pub returns-in-None-found-clause-small : goal.returns-in-None-found-clause-small
returns-in-None-found-clause-small g c =
    let h : Worker = c.try_path.new.worker in let k : Worker = record h { seat = c.find.new.seat; lane = c.find.new.lane; pass = c.find.new.pass } in
    let ended = subst (λ (x : Way). Ended (g.H.Halt.never c.args.halt.now → ⊥) c.args.shared.now.mode (view c.try_path.new.worker.seat)
    c.try_path.new.engine.search c.try_path.new.engine.fuel x) c.in-Closed.is c.try_path.ensures.going in
    let ready : IsReady c.args.shared.now h = placed-ready c.args.shared.now h c.try_path.ensures.placed ended.1 in
    let seat : Keeps h k = keeps-seat c.args.shared.now h k ready c.find.ensures.of c.find.ensures.passes.stays refl in
    let keeps : Keeps c.args.worker.now k = keeps-trans c.args.worker.now h k (keeps-trans c.args.worker.now c.paths.worker h c.paths.invariant.keeps c.try_path.ensures.keeps) seat in
    tidy-small (view k.seat) (ready-seat c.args.shared.now h k ready seat c.find.ensures.pool c.find.ensures.passes.lawful).tidy

pub returns-in-None-found-clause-heard : goal.returns-in-None-found-clause-heard
returns-in-None-found-clause-heard g c = g.met.W.Watch.goes_on c.args.watch.now c.paths.watch c.try_path.new.watch c.paths.invariant.heard c.try_path.ensures.heard

pub returns-in-Err-clause-free : goal.returns-in-Err-clause-free
returns-in-Err-clause-free g c = c.in-Err.ensures.takes

pub returns-in-None-found-clause-free : goal.returns-in-None-found-clause-free
returns-in-None-found-clause-free g c = takes-none (view c.find.new.seat) c.in-Ok.found c.in-Ok.ensures.takes c.in-None-found.is

pub returns-in-Err-clause-cause : goal.returns-in-Err-clause-cause
returns-in-Err-clause-cause g c = inr (inl refl)

pub returns-in-None-found-clause-cause : goal.returns-in-None-found-clause-cause
returns-in-None-found-clause-cause g c =
    let h : Worker = c.try_path.new.worker in let k : Worker = record h { seat = c.find.new.seat; lane = c.find.new.lane; pass = c.find.new.pass } in
    let ended = subst (λ (x : Way). Ended (g.H.Halt.never c.args.halt.now → ⊥) c.args.shared.now.mode (view c.try_path.new.worker.seat)
    c.try_path.new.engine.search c.try_path.new.engine.fuel x) c.in-Closed.is c.try_path.ensures.going in
    let ready : IsReady c.args.shared.now h = placed-ready c.args.shared.now h c.try_path.ensures.placed ended.1 in
    let seat : Keeps h k = keeps-seat c.args.shared.now h k ready c.find.ensures.of c.find.ensures.passes.stays refl in
    let keeps : Keeps c.args.worker.now k = keeps-trans c.args.worker.now h k (keeps-trans c.args.worker.now c.paths.worker h c.paths.invariant.keeps c.try_path.ensures.keeps) seat in
    let v : Knows = view c.args.worker.now.seat in let u : Knows = view h.seat in let w : Knows = view k.seat in
    inl (record {
      quiet = quiet-later v.seen u.seen w (keeps-trans c.args.worker.now c.paths.worker h c.paths.invariant.keeps c.try_path.ensures.keeps).seat.seen
          (subst (λ (o : Option ℕ). IsQuietIf u.seen w o) c.in-None-found.is c.in-Ok.ensures.quiet);
      tidy = (ready-seat c.args.shared.now h k ready seat c.find.ensures.pool c.find.ensures.passes.lawful).tidy;
    })
