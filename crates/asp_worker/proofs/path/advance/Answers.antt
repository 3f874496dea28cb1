use Rattle.std.proofs.Common.{refl, sym, ap, ◌∙◌, subst}
use Rattle.asp_vars.specs.Paid.{Units}
use Rattle.asp_vault.specs.Seats.{view}
use Rattle.asp_core.specs.declared.task.Task.{Task}
use Rattle.asp_book.specs.Calls.{Knows}
use Rattle.asp_worker.specs.declared.worker.Worker.{Worker}
use Rattle.asp_worker.proofs.SeatLaws.{board-task, keeps-self, keeps-seat, keeps-pages, ready-seat}
use Rattle.asp_worker.proofs.StepLaws.{on-decided, on-restarted, on-learnt, on-stopped, none-left, on-closed, done-closed, finds-answer, off-paid}
use Rattle.asp_worker.specs.Working.{IsOn, IsOff}
use Rattle.asp_worker.proofs.Replies.{always-err, memory-stop}
use Rattle.asp_slots.proofs.ShelfLaws.{still-seen}
use Rattle.asp_worker.proofs.PathLaws.{refreshed-on, idled-off, leased-on, leased-off, ready-pages}
use Rattle.asp_worker.proofs.path.advance.Goals as goal

pub returns-in_err-step-clause-keeps : goal.returns-in_err-step-clause-keeps
returns-in_err-step-clause-keeps g c = keeps-self c.args.shared.now c.args.worker.now c.requires.ready

pub returns-in_err-step-clause-err : goal.returns-in_err-step-clause-err
returns-in_err-step-clause-err g c =
    always-err c.from_residual.result (IsOff (view c.args.worker.now.seat) c.step.new.fuel c.args.leaf)
    (off-paid c.args.shared.now.mode (view c.args.worker.now.seat) c.args.engine.now.search c.step.new.search c.args.engine.now.fuel c.args.leaf
    c.requires.on c.step.new.fuel c.in_err-step.ensures.err)

pub returns-in-Decided-clause-keeps : goal.returns-in-Decided-clause-keeps
returns-in-Decided-clause-keeps g c = keeps-self c.args.shared.now c.args.worker.now c.requires.ready

pub returns-in-Decided-clause-ok : goal.returns-in-Decided-clause-ok
returns-in-Decided-clause-ok g c =
    on-decided c.args.shared.now.mode (view c.args.worker.now.seat) c.args.engine.now.search c.step.new.search c.args.engine.now.fuel c.args.leaf
    c.requires.on _ _ c.step.new.fuel _ c.in_ok-step.ensures.ok c.in-Decided.is

pub export-requires-clause-program : goal.export-requires-clause-program
export-requires-clause-program g c =
    let on =
    on-learnt c.args.shared.now.mode (view c.args.worker.now.seat) c.args.engine.now.search c.step.new.search c.args.engine.now.fuel c.args.leaf
    c.requires.on _ _ c.step.new.fuel _ c.in_ok-step.ensures.ok c.in-Learnt.is in
    c.requires.ready.program ∙ sym on.going.program

pub returns-in-Learnt-clause-keeps : goal.returns-in-Learnt-clause-keeps
returns-in-Learnt-clause-keeps g c =
    let h : Worker = c.args.worker.now in let k : Worker = record h { pages = c.export.new.pages } in
    keeps-pages c.args.shared.now h k c.requires.ready c.export.ensures refl

pub returns-in-Learnt-clause-ready : goal.returns-in-Learnt-clause-ready
returns-in-Learnt-clause-ready g c =
    let h : Worker = c.args.worker.now in let k : Worker = record h { pages = c.export.new.pages } in
    ready-pages c.args.shared.now h k c.requires.ready (keeps-pages c.args.shared.now h k c.requires.ready c.export.ensures refl) c.requires.ready.pool refl

pub returns-in-Learnt-clause-read : goal.returns-in-Learnt-clause-read
returns-in-Learnt-clause-read g c = still-seen c.args.engine.now.read c.args.worker.now.pages c.export.new.pages c.export.ensures c.requires.read

pub returns-in-Learnt-clause-ok : goal.returns-in-Learnt-clause-ok
returns-in-Learnt-clause-ok g c =
    on-learnt c.args.shared.now.mode (view c.args.worker.now.seat) c.args.engine.now.search c.step.new.search c.args.engine.now.fuel c.args.leaf
    c.requires.on _ _ c.step.new.fuel _ c.in_ok-step.ensures.ok c.in-Learnt.is

pub refresh-requires-clause-going : goal.refresh-requires-clause-going
refresh-requires-clause-going g c =
    (on-restarted c.args.shared.now.mode (view c.args.worker.now.seat) c.args.engine.now.search c.step.new.search c.args.engine.now.fuel c.args.leaf
    c.requires.on _ _ c.step.new.fuel _ c.in_ok-step.ensures.ok c.in-Restarted.is).going

pub returns-in-Restarted-clause-ok : goal.returns-in-Restarted-clause-ok
returns-in-Restarted-clause-ok g c =
    let v : Knows = view c.args.worker.now.seat in let w : Knows = view c.refresh.new.worker.seat in
    let on = on-restarted c.args.shared.now.mode v c.args.engine.now.search c.step.new.search c.args.engine.now.fuel c.args.leaf c.requires.on _ _
    c.step.new.fuel _ c.in_ok-step.ensures.ok c.in-Restarted.is in
    subst (λ (u : Units). IsOn c.args.shared.now.mode w c.refresh.new.engine.search u c.args.leaf) (sym c.refresh.ensures.fuel)
    (refreshed-on c.args.shared.now.mode v w c.step.new.search c.refresh.new.engine.search c.step.new.fuel c.args.leaf c.refresh.new.worker.pages
    c.args.engine.now.read on c.refresh.ensures.idles c.in_ok-refresh-in-Restarted.ensures.ok)

pub returns-in_err-refresh-in-Restarted-clause-err : goal.returns-in_err-refresh-in-Restarted-clause-err
returns-in_err-refresh-in-Restarted-clause-err g c =
    let v : Knows = view c.args.worker.now.seat in let w : Knows = view c.refresh.new.worker.seat in
    let on = on-restarted c.args.shared.now.mode v c.args.engine.now.search c.step.new.search c.args.engine.now.fuel c.args.leaf c.requires.on _ _
    c.step.new.fuel _ c.in_ok-step.ensures.ok c.in-Restarted.is in
    always-err c.from_residual-in_err-refresh-in-Restarted.result (IsOff w c.refresh.new.engine.fuel c.args.leaf)
    (idled-off c.args.shared.now.mode v w c.step.new.search c.step.new.fuel c.refresh.new.engine.fuel c.args.leaf on c.refresh.ensures.idles
    c.refresh.ensures.fuel)

pub answer-requires-clause-found : goal.answer-requires-clause-found
answer-requires-clause-found g c = (
  c.args.engine.now.search,
  finds-answer c.args.shared.now.mode (view c.args.worker.now.seat) c.args.engine.now.search c.step.new.search
      c.args.engine.now.fuel c.args.leaf c.requires.on _ _ c.step.new.fuel _ c.in_ok-step.ensures.ok c.in-Answer.set c.in-Answer.is,
)

pub lease-requires-clause-going : goal.lease-requires-clause-going
lease-requires-clause-going g c =
    (on-stopped c.args.shared.now.mode (view c.args.worker.now.seat) c.args.engine.now.search c.step.new.search c.args.engine.now.fuel c.args.leaf
    c.requires.on _ _ c.step.new.fuel _ c.in_ok-step.ensures.ok _ c.in-NoFuel.is).going

pub lease-requires-clause-none : goal.lease-requires-clause-none
lease-requires-clause-none g c =
    none-left c.args.shared.now.mode (view c.args.worker.now.seat) c.args.engine.now.search c.step.new.search c.args.engine.now.fuel c.args.leaf
    c.requires.on _ _ c.step.new.fuel _ c.in_ok-step.ensures.ok _ c.in-NoFuel.is

pub returns-clause-keeps : goal.returns-clause-keeps
returns-clause-keeps g c = keeps-self c.args.shared.now c.args.worker.now c.requires.ready

pub returns-clause-ok : goal.returns-clause-ok
returns-clause-ok g c =
    on-closed c.args.shared.now.mode (view c.args.worker.now.seat) c.args.engine.now.search c.step.new.search c.args.engine.now.fuel c.args.leaf
    c.requires.on _ _ c.step.new.fuel _ c.in_ok-step.ensures.ok c.in-Closed.nogood c.in-Closed.is

pub returns-clause-course : goal.returns-clause-course
returns-clause-course g c =
    done-closed c.args.shared.now.mode (view c.args.worker.now.seat) c.args.engine.now.search c.step.new.search c.args.engine.now.fuel c.args.leaf
    c.requires.on _ _ c.step.new.fuel _ c.in_ok-step.ensures.ok c.in-Closed.nogood c.in-Closed.is

pub returns-then-leased-clause-keeps : goal.returns-then-leased-clause-keeps
returns-then-leased-clause-keeps g c =
    let h : Worker = c.args.worker.now in let k : Worker = record h { seat = c.lease.new.seat } in
    keeps-seat c.args.shared.now h k c.requires.ready c.lease.ensures.of c.lease.ensures.leases.stays refl

pub returns-then-leased-clause-ready : goal.returns-then-leased-clause-ready
returns-then-leased-clause-ready g c =
    let h : Worker = c.args.worker.now in let k : Worker = record h { seat = c.lease.new.seat } in
    ready-seat c.args.shared.now h k c.requires.ready
    (keeps-seat c.args.shared.now h k c.requires.ready c.lease.ensures.of c.lease.ensures.leases.stays refl) c.requires.ready.pool
    c.lease.ensures.leases.lawful

pub returns-then-leased-clause-ok : goal.returns-then-leased-clause-ok
returns-then-leased-clause-ok g c =
    let v : Knows = view c.args.worker.now.seat in let w : Knows = view c.lease.new.seat in
    let on = on-stopped c.args.shared.now.mode v c.args.engine.now.search c.step.new.search c.args.engine.now.fuel c.args.leaf c.requires.on _ _
    c.step.new.fuel _ c.in_ok-step.ensures.ok _ c.in-NoFuel.is in
    leased-on c.args.shared.now.mode v w c.step.new.search c.lease.new.engine.search c.step.new.fuel c.lease.new.engine.fuel c.args.leaf on
    c.lease.ensures.leases c.lease.ensures.engine.0 c.lease.ensures.going

pub returns-in-NoFuel-clause-keeps : goal.returns-in-NoFuel-clause-keeps
returns-in-NoFuel-clause-keeps g c =
    let h : Worker = c.args.worker.now in let k : Worker = record h { seat = c.lease.new.seat } in
    keeps-seat c.args.shared.now h k c.requires.ready c.lease.ensures.of c.lease.ensures.leases.stays refl

pub returns-in-NoFuel-clause-ready : goal.returns-in-NoFuel-clause-ready
returns-in-NoFuel-clause-ready g c =
    let h : Worker = c.args.worker.now in let k : Worker = record h { seat = c.lease.new.seat } in
    ready-seat c.args.shared.now h k c.requires.ready
    (keeps-seat c.args.shared.now h k c.requires.ready c.lease.ensures.of c.lease.ensures.leases.stays refl) c.requires.ready.pool
    c.lease.ensures.leases.lawful

pub returns-in-NoFuel-clause-ok : goal.returns-in-NoFuel-clause-ok
returns-in-NoFuel-clause-ok g c =
    let v : Knows = view c.args.worker.now.seat in let w : Knows = view c.lease.new.seat in
    let on = on-stopped c.args.shared.now.mode v c.args.engine.now.search c.step.new.search c.args.engine.now.fuel c.args.leaf c.requires.on _ _
    c.step.new.fuel _ c.in_ok-step.ensures.ok _ c.in-NoFuel.is in
    leased-on c.args.shared.now.mode v w c.step.new.search c.lease.new.engine.search c.step.new.fuel c.lease.new.engine.fuel c.args.leaf on
    c.lease.ensures.leases c.lease.ensures.engine.0 c.lease.ensures.going

pub returns-in_err-leased-in-NoFuel-clause-keeps : goal.returns-in_err-leased-in-NoFuel-clause-keeps
returns-in_err-leased-in-NoFuel-clause-keeps g c =
    let h : Worker = c.args.worker.now in let k : Worker = record h { seat = c.lease.new.seat } in
    keeps-seat c.args.shared.now h k c.requires.ready c.lease.ensures.of c.lease.ensures.leases.stays refl

pub returns-in_err-leased-in-NoFuel-clause-ready : goal.returns-in_err-leased-in-NoFuel-clause-ready
returns-in_err-leased-in-NoFuel-clause-ready g c =
    let h : Worker = c.args.worker.now in let k : Worker = record h { seat = c.lease.new.seat } in
    ready-seat c.args.shared.now h k c.requires.ready
    (keeps-seat c.args.shared.now h k c.requires.ready c.lease.ensures.of c.lease.ensures.leases.stays refl) c.requires.ready.pool
    c.lease.ensures.leases.lawful

pub returns-in_err-leased-in-NoFuel-clause-err : goal.returns-in_err-leased-in-NoFuel-clause-err
returns-in_err-leased-in-NoFuel-clause-err g c =
    let v : Knows = view c.args.worker.now.seat in let w : Knows = view c.lease.new.seat in
    let on = on-stopped c.args.shared.now.mode v c.args.engine.now.search c.step.new.search c.args.engine.now.fuel c.args.leaf c.requires.on _ _
    c.step.new.fuel _ c.in_ok-step.ensures.ok _ c.in-NoFuel.is in
    always-err c.from_residual-in_err-leased-in-NoFuel.result (IsOff w c.lease.new.engine.fuel c.args.leaf)
    (leased-off c.args.shared.now.mode v w c.step.new.search c.lease.new.engine.search c.step.new.fuel c.lease.new.engine.fuel c.args.leaf on c.lease.ensures.leases c.lease.ensures.going)

pub step-requires-clause-program : goal.step-requires-clause-program
step-requires-clause-program g c =
    c.requires.on.going.work.units.0.program ∙ ap (λ (t : Task). t.program) (board-task (view c.args.worker.now.seat)) ∙ sym c.requires.on.going.program

pub returns-in_err-step-clause-stop : goal.returns-in_err-step-clause-stop
returns-in_err-step-clause-stop g c = memory-stop (view c.args.worker.now.seat) c.from_residual.result c.from_residual.ensures.1

pub returns-in_err-refresh-in-Restarted-clause-stop : goal.returns-in_err-refresh-in-Restarted-clause-stop
returns-in_err-refresh-in-Restarted-clause-stop g c =
    memory-stop (view c.refresh.new.worker.seat) c.from_residual-in_err-refresh-in-Restarted.result
    c.from_residual-in_err-refresh-in-Restarted.ensures.1

pub returns-in_err-leased-in-NoFuel-clause-stop : goal.returns-in_err-leased-in-NoFuel-clause-stop
returns-in_err-leased-in-NoFuel-clause-stop g c = memory-stop (view c.lease.new.seat) c.from_residual-in_err-leased-in-NoFuel.result c.from_residual-in_err-leased-in-NoFuel.ensures.1

pub returns-in-NoFuel-clause-course : goal.returns-in-NoFuel-clause-course
returns-in-NoFuel-clause-course g c = c.in_ok-leased-in-NoFuel.ensures.spent c.if-leased.false
