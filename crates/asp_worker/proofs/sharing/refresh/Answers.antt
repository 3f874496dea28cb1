use Rattle.std.proofs.Common.{◌∙◌, ap, sym, refl, inl, inr}
use Rattle.asp_core.specs.declared.task.Task.{Task}
use Rattle.asp_vars.specs.Paid.{Units}
use Rattle.asp_vault.specs.Seats.{view}
use Rattle.asp_book.specs.Calls.{Knows}
use Rattle.asp_book.proofs.CallLaws.{task-stays}
use Rattle.asp_worker.specs.declared.worker.Worker.{Worker}
use Rattle.asp_worker.specs.Working.{GoesOn}
use Rattle.asp_worker.proofs.SeatLaws.{keeps-seat, ready-seat, idles-passes}
use Rattle.asp_worker.proofs.Replies.{on-ok, on-err, always-err}
use Rattle.asp_worker.proofs.GoingLaws.{best-goes, goes-on}
use Rattle.asp_worker.proofs.sharing.refresh.Goals as goal

pub take_best-requires-clause-going : goal.take_best-requires-clause-going
take_best-requires-clause-going g c = (c.args.engine.now.fuel, c.requires.going)

pub returns-in_err-take_best-clause-keeps : goal.returns-in_err-take_best-clause-keeps
returns-in_err-take_best-clause-keeps g c =
    let h : Worker = c.args.worker.now in let k : Worker = record h { seat = c.take_best.new.seat } in
    keeps-seat c.args.shared.now h k c.requires.ready c.take_best.ensures.of c.take_best.ensures.idles.stays refl

pub returns-in_err-take_best-clause-ready : goal.returns-in_err-take_best-clause-ready
returns-in_err-take_best-clause-ready g c =
    let h : Worker = c.args.worker.now in let k : Worker = record h { seat = c.take_best.new.seat } in
    ready-seat c.args.shared.now h k c.requires.ready
    (keeps-seat c.args.shared.now h k c.requires.ready c.take_best.ensures.of c.take_best.ensures.idles.stays refl) c.requires.ready.pool
    c.take_best.ensures.idles.lawful

pub returns-in_err-take_best-clause-err : goal.returns-in_err-take_best-clause-err
returns-in_err-take_best-clause-err g c = always-err c.from_residual.result _ (inl c.in_err-take_best.ensures.err)

pub import_new-requires-clause-program : goal.import_new-requires-clause-program
import_new-requires-clause-program g c =
    let v : Knows = view c.args.worker.now.seat in let w : Knows = view c.take_best.new.seat in
    let m = c.args.shared.now.mode in let s = c.args.engine.now.search in let t = c.take_best.new.search in let u : Units = c.args.engine.now.fuel in
    let on : GoesOn m w t u = best-goes m w s t u (goes-on m v w s u c.requires.going (idles-passes v w c.take_best.ensures.idles)) c.in_ok-take_best.ensures.ok in
    c.requires.ready.program ∙ sym (on.program ∙ ap (λ (x : Task). x.program) (task-stays v w c.take_best.ensures.idles.stays))

pub returns-clause-keeps : goal.returns-clause-keeps
returns-clause-keeps g c = record { book = c.take_best.ensures.of; seat = c.take_best.ensures.idles.stays; pages = c.import_new.ensures.reads }

pub returns-clause-ready : goal.returns-clause-ready
returns-clause-ready g c =
    let h : Worker = c.args.worker.now in let k : Worker = record h { seat = c.take_best.new.seat; pages = c.import_new.new.pages } in
    ready-seat c.args.shared.now h k c.requires.ready
    (record { book = c.take_best.ensures.of; seat = c.take_best.ensures.idles.stays; pages = c.import_new.ensures.reads }) c.requires.ready.pool
    c.take_best.ensures.idles.lawful

pub returns-clause-ok : goal.returns-clause-ok
returns-clause-ok g c = on-ok c.import_new.result (λ e. record { between = c.take_best.new.search; best = c.in_ok-take_best.ensures.ok; imported = e }) c.import_new.ensures.ok

pub returns-clause-err : goal.returns-clause-err
returns-clause-err g c = on-err c.import_new.result (λ e. inr (c.take_best.new.search, c.in_ok-take_best.ensures.ok, e)) c.import_new.ensures.err
