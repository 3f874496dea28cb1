use Rattle.std.proofs.Common.{◌<◌, ℕ, Option, inl, refl, sym, subst}
use Rattle.std.proofs.lemmas.Result.{IfOk-weaker}
use Rattle.asp_vault.specs.Seats.{view}
use Rattle.asp_worker.specs.declared.worker.Worker.{Worker}
use Rattle.asp_worker.specs.Seats.{HasCause, IsIdle, IsQuietIf, IsReady, Keeps}
use Rattle.asp_worker.proofs.EndLaws.{begins-ready, cause-later, home-passes, idle-passes, owes-none, run-passes, tidy-small}
use Rattle.asp_worker.proofs.Replies.{always-err}
use Rattle.asp_worker.proofs.SeatLaws.{keeps-seat, keeps-trans, ready-placed, ready-seat, takes-none, takes-some}
use Rattle.asp_worker.proofs.work.searched.Goals as goal

pub returns-in_err-found-clause-keeps : goal.returns-in_err-found-clause-keeps
returns-in_err-found-clause-keeps g c =
    let h : Worker = c.args.worker.now in let k : Worker = record h { seat = c.find.new.seat; lane = c.find.new.lane; pass = c.find.new.pass } in
    let ready : IsReady c.args.shared.now h = begins-ready c.args.compiled.now c.args.shared.now h c.requires in
    let seat : Keeps h k = keeps-seat c.args.shared.now h k ready c.find.ensures.of c.find.ensures.passes.stays refl in
    seat

pub returns-in_err-found-clause-placed : goal.returns-in_err-found-clause-placed
returns-in_err-found-clause-placed g c =
    let h : Worker = c.args.worker.now in let k : Worker = record h { seat = c.find.new.seat; lane = c.find.new.lane; pass = c.find.new.pass } in
    let ready : IsReady c.args.shared.now h = begins-ready c.args.compiled.now c.args.shared.now h c.requires in
    let seat : Keeps h k = keeps-seat c.args.shared.now h k ready c.find.ensures.of c.find.ensures.passes.stays refl in
    ready-placed c.args.shared.now k (ready-seat c.args.shared.now h k ready seat c.find.ensures.pool c.find.ensures.passes.lawful)

pub returns-in_err-found-clause-small : goal.returns-in_err-found-clause-small
returns-in_err-found-clause-small g c =
    let h : Worker = c.args.worker.now in let k : Worker = record h { seat = c.find.new.seat; lane = c.find.new.lane; pass = c.find.new.pass } in
    let ready : IsReady c.args.shared.now h = begins-ready c.args.compiled.now c.args.shared.now h c.requires in
    let seat : Keeps h k = keeps-seat c.args.shared.now h k ready c.find.ensures.of c.find.ensures.passes.stays refl in
    tidy-small (view k.seat) (ready-seat c.args.shared.now h k ready seat c.find.ensures.pool c.find.ensures.passes.lawful).tidy

pub returns-in_err-found-clause-heard : goal.returns-in_err-found-clause-heard
returns-in_err-found-clause-heard g c = g.met.W.Watch.begins c.args.watch.now

pub returns-in-None-clause-keeps : goal.returns-in-None-clause-keeps
returns-in-None-clause-keeps g c =
    let h : Worker = c.args.worker.now in let k : Worker = record h { seat = c.find.new.seat; lane = c.find.new.lane; pass = c.find.new.pass } in
    let ready : IsReady c.args.shared.now h = begins-ready c.args.compiled.now c.args.shared.now h c.requires in
    let seat : Keeps h k = keeps-seat c.args.shared.now h k ready c.find.ensures.of c.find.ensures.passes.stays refl in
    seat

pub returns-in-None-clause-placed : goal.returns-in-None-clause-placed
returns-in-None-clause-placed g c =
    let h : Worker = c.args.worker.now in let k : Worker = record h { seat = c.find.new.seat; lane = c.find.new.lane; pass = c.find.new.pass } in
    let ready : IsReady c.args.shared.now h = begins-ready c.args.compiled.now c.args.shared.now h c.requires in
    let seat : Keeps h k = keeps-seat c.args.shared.now h k ready c.find.ensures.of c.find.ensures.passes.stays refl in
    ready-placed c.args.shared.now k (ready-seat c.args.shared.now h k ready seat c.find.ensures.pool c.find.ensures.passes.lawful)

pub returns-in-None-clause-small : goal.returns-in-None-clause-small
returns-in-None-clause-small g c =
    let h : Worker = c.args.worker.now in let k : Worker = record h { seat = c.find.new.seat; lane = c.find.new.lane; pass = c.find.new.pass } in
    let ready : IsReady c.args.shared.now h = begins-ready c.args.compiled.now c.args.shared.now h c.requires in
    let seat : Keeps h k = keeps-seat c.args.shared.now h k ready c.find.ensures.of c.find.ensures.passes.stays refl in
    tidy-small (view k.seat) (ready-seat c.args.shared.now h k ready seat c.find.ensures.pool c.find.ensures.passes.lawful).tidy

pub returns-in-None-clause-heard : goal.returns-in-None-clause-heard
returns-in-None-clause-heard g c = g.met.W.Watch.begins c.args.watch.now

pub returns-in_err-found-clause-idle : goal.returns-in_err-found-clause-idle
returns-in_err-found-clause-idle g c =
    always-err c.from_residual.result (IsIdle (view c.find.new.seat))
    (idle-passes (view c.args.worker.now.seat) (view c.find.new.seat) c.requires.idle c.find.ensures.passes c.in_err-found.ensures.takes)

pub returns-in-None-clause-free : goal.returns-in-None-clause-free
returns-in-None-clause-free g c = takes-none (view c.find.new.seat) c.in_ok-found.found c.in_ok-found.ensures.takes c.in-None.is

pub returns-in-None-clause-owes : goal.returns-in-None-clause-owes
returns-in-None-clause-owes g c =
    owes-none c.args.compiled.now c.args.shared.now.mode (view c.find.new.seat) c.of.result
    (run-passes c.args.compiled.now c.args.shared.now.mode (view c.args.worker.now.seat) (view c.find.new.seat) c.requires.run c.find.ensures.passes)
    (home-passes (view c.args.worker.now.seat) (view c.find.new.seat) c.requires.idle.home c.find.ensures.passes) c.of.ensures

pub returns-in-None-clause-cause : goal.returns-in-None-clause-cause
returns-in-None-clause-cause g c =
    let h : Worker = c.args.worker.now in let k : Worker = record h { seat = c.find.new.seat; lane = c.find.new.lane; pass = c.find.new.pass } in
    let ready : IsReady c.args.shared.now h = begins-ready c.args.compiled.now c.args.shared.now h c.requires in
    let seat : Keeps h k = keeps-seat c.args.shared.now h k ready c.find.ensures.of c.find.ensures.passes.stays refl in
    inl (record {
      quiet = subst (λ (o : Option ℕ). IsQuietIf (view h.seat).seen (view k.seat) o) c.in-None.is c.in_ok-found.ensures.quiet;
      tidy =
          (ready-seat c.args.shared.now h k ready seat c.find.ensures.pool c.find.ensures.passes.lawful).tidy;
    })

pub search_from-requires-clause-ready : goal.search_from-requires-clause-ready
search_from-requires-clause-ready g c =
    let h : Worker = c.args.worker.now in let k : Worker = record h { seat = c.find.new.seat; lane = c.find.new.lane; pass = c.find.new.pass } in
    let ready : IsReady c.args.shared.now h = begins-ready c.args.compiled.now c.args.shared.now h c.requires in
    let seat : Keeps h k = keeps-seat c.args.shared.now h k ready c.find.ensures.of c.find.ensures.passes.stays refl in
    ready-seat c.args.shared.now h k ready seat c.find.ensures.pool c.find.ensures.passes.lawful

pub search_from-requires-clause-number : goal.search_from-requires-clause-number
search_from-requires-clause-number g c = subst (λ n. 0 < n) (sym c.find.ensures.passes.stays.number) c.requires.number

pub search_from-requires-clause-run : goal.search_from-requires-clause-run
search_from-requires-clause-run g c = run-passes c.args.compiled.now c.args.shared.now.mode (view c.args.worker.now.seat) (view c.find.new.seat) c.requires.run c.find.ensures.passes

pub search_from-requires-clause-held : goal.search_from-requires-clause-held
search_from-requires-clause-held g c = takes-some (view c.find.new.seat) c.in_ok-found.found c.in-Some.first c.in_ok-found.ensures.takes c.in-Some.is

pub search_from-requires-clause-home : goal.search_from-requires-clause-home
search_from-requires-clause-home g c = home-passes (view c.args.worker.now.seat) (view c.find.new.seat) c.requires.idle.home c.find.ensures.passes

pub returns-in-Some-clause-keeps : goal.returns-in-Some-clause-keeps
returns-in-Some-clause-keeps g c =
    let h : Worker = c.args.worker.now in let k : Worker = record h { seat = c.find.new.seat; lane = c.find.new.lane; pass = c.find.new.pass } in
    let ready : IsReady c.args.shared.now h = begins-ready c.args.compiled.now c.args.shared.now h c.requires in
    let seat : Keeps h k = keeps-seat c.args.shared.now h k ready c.find.ensures.of c.find.ensures.passes.stays refl in
    keeps-trans h k c.search_from.new.worker seat c.search_from.ensures.keeps

pub returns-in-Some-clause-cause : goal.returns-in-Some-clause-cause
returns-in-Some-clause-cause g c =
    let v = view c.args.worker.now.seat in let u = view c.find.new.seat in let w = view c.search_from.new.worker.seat in
    IfOk-weaker c.search_from.result (λ r. HasCause (g.H.Halt.never c.args.halt.now → ⊥) r.2 u.seen w) (λ r. HasCause (g.H.Halt.never c.args.halt.now → ⊥) r.2 v.seen w)
    (λ r. cause-later (g.H.Halt.never c.args.halt.now → ⊥) r.2 v.seen u.seen w c.find.ensures.passes.stays.seen) c.search_from.ensures.cause
