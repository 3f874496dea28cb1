use Rattle.std.proofs.Common.{refl, sym, subst}
use Rattle.asp_vars.specs.Paid.{Units}
use Rattle.asp_vault.specs.Seats.{view}
use Rattle.asp_book.specs.Calls.{Knows}
use Rattle.asp_worker.specs.declared.worker.Worker.{Worker}
use Rattle.asp_worker.specs.Working.{IsOn, IsOff}
use Rattle.asp_worker.proofs.Replies.{on-ok, on-err, always-err}
use Rattle.asp_worker.proofs.SeatLaws.{keeps-seat, keeps-trans, ready-seat, idles-trans, holds-idles, idles-passes}
use Rattle.asp_worker.proofs.GoingLaws.{goes-on, owes-of, owes-on}
use Rattle.asp_worker.proofs.SharingLaws.{begun-on, entered-goes}
use Rattle.asp_worker.proofs.share.begin.Goals as goal

pub refresh-requires-clause-ready : goal.refresh-requires-clause-ready
refresh-requires-clause-ready g c =
    let h : Worker = c.args.worker.now in let k : Worker = record h { seat = c.enter.new.seat } in
    ready-seat c.args.shared.now h k c.requires.ready
    (keeps-seat c.args.shared.now h k c.requires.ready c.enter.ensures.of c.enter.ensures.idles.stays refl) c.requires.ready.pool
    c.enter.ensures.idles.lawful

pub refresh-requires-clause-going : goal.refresh-requires-clause-going
refresh-requires-clause-going g c =
    let v : Knows = view c.args.worker.now.seat in let x : Knows = view c.enter.new.seat in
    entered-goes c.args.shared.now.mode x c.args.engine.now.search c.enter.new.search c.args.engine.now.fuel _
    (goes-on c.args.shared.now.mode v x c.args.engine.now.search c.args.engine.now.fuel c.requires.going (idles-passes v x c.enter.ensures.idles)) c.in_ok-enter.ensures.ok

pub returns-in_err-enter-clause-keeps : goal.returns-in_err-enter-clause-keeps
returns-in_err-enter-clause-keeps g c =
    let h : Worker = c.args.worker.now in let k : Worker = record h { seat = c.enter.new.seat } in
    keeps-seat c.args.shared.now h k c.requires.ready c.enter.ensures.of c.enter.ensures.idles.stays refl

pub returns-in_err-enter-clause-ready : goal.returns-in_err-enter-clause-ready
returns-in_err-enter-clause-ready g c =
    let h : Worker = c.args.worker.now in let k : Worker = record h { seat = c.enter.new.seat } in
    ready-seat c.args.shared.now h k c.requires.ready
    (keeps-seat c.args.shared.now h k c.requires.ready c.enter.ensures.of c.enter.ensures.idles.stays refl) c.requires.ready.pool
    c.enter.ensures.idles.lawful

pub returns-in_err-enter-clause-err : goal.returns-in_err-enter-clause-err
returns-in_err-enter-clause-err g c =
    let v : Knows = view c.args.worker.now.seat in let x : Knows = view c.enter.new.seat in
    always-err c.from_residual.result (IsOff x c.args.engine.now.fuel c.args.leaf)
    (record {
      held = holds-idles v x c.args.leaf c.requires.held c.enter.ensures.idles;
      units =
          owes-on v x c.args.engine.now.fuel (owes-of c.requires.going) (idles-passes v x c.enter.ensures.idles);
    })

pub returns-clause-keeps : goal.returns-clause-keeps
returns-clause-keeps g c =
    let h : Worker = c.args.worker.now in let k : Worker = record h { seat = c.enter.new.seat } in
    keeps-trans h k c.refresh.new.worker (keeps-seat c.args.shared.now h k c.requires.ready c.enter.ensures.of c.enter.ensures.idles.stays refl) c.refresh.ensures.keeps

pub returns-clause-idles : goal.returns-clause-idles
returns-clause-idles g c = idles-trans (view c.args.worker.now.seat) (view c.enter.new.seat) (view c.refresh.new.worker.seat) c.enter.ensures.idles c.refresh.ensures.idles

pub returns-clause-ok : goal.returns-clause-ok
returns-clause-ok g c =
    on-ok c.refresh.result (λ e. subst (λ (u : Units). IsOn c.args.shared.now.mode (view c.refresh.new.worker.seat) c.refresh.new.engine.search u c.args.leaf) (sym c.refresh.ensures.fuel)
    (begun-on c.args.shared.now.mode (view c.args.worker.now.seat) (view c.enter.new.seat) (view c.refresh.new.worker.seat) c.args.engine.now.search
    c.enter.new.search c.refresh.new.engine.search c.args.engine.now.fuel c.args.leaf c.refresh.new.worker.pages c.args.engine.now.read
    c.requires.going c.requires.held c.enter.ensures.idles c.in_ok-enter.ensures.ok c.refresh.ensures.idles e)) c.refresh.ensures.ok

pub returns-clause-err : goal.returns-clause-err
returns-clause-err g c =
    let v : Knows = view c.args.worker.now.seat in let w : Knows = view c.refresh.new.worker.seat in
    let i = idles-trans v (view c.enter.new.seat) w c.enter.ensures.idles c.refresh.ensures.idles in
    on-err c.refresh.result (λ _. subst (λ (u : Units). IsOff w u c.args.leaf) (sym c.refresh.ensures.fuel)
    (record {
      held = holds-idles v w c.args.leaf c.requires.held i;
      units =
          owes-on v w c.args.engine.now.fuel (owes-of c.requires.going) (idles-passes v w i);
    })) c.refresh.ensures.err
