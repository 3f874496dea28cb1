use Rattle.std.proofs.Common.{inl, inr, refl, sym, ◌∙◌, subst}
use Rattle.std.proofs.lemmas.Bool.{false≢true}
use Rattle.asp_vault.specs.Seats.{view}
use Rattle.asp_book.specs.Calls.{Knows}
use Rattle.asp_worker.specs.declared.path.Course.{Course}
use Rattle.asp_worker.specs.declared.worker.Worker.{Worker}
use Rattle.asp_worker.specs.Working.{IsCourse, IsOff}
use Rattle.asp_worker.proofs.Replies.{always-err, memory-stop, same-stop}
use Rattle.asp_worker.proofs.SeatLaws.{keeps-self, keeps-seat, keeps-trans, ready-seat}
use Rattle.asp_worker.proofs.GoingLaws.{goes-on, on-off, owes-of, owes-on, done-excused}
use Rattle.asp_worker.proofs.path.search_path.Goals as goal

pub steps-init : goal.steps-init
steps-init g c = record {
  keeps = keeps-self c.args.shared.now c.args.worker.now c.requires.ready;
  ready = c.requires.ready;
  on = c.requires.on;
  read = c.requires.read;
  heard = g.met.W.Watch.begins c.args.watch.now;
}

pub returns-then-stop-clause-ok : goal.returns-then-stop-clause-ok
returns-then-stop-clause-ok g c = (
  on-off c.args.shared.now.mode (view c.steps.worker.seat) c.steps.engine.search c.steps.engine.fuel c.steps.leaf c.steps.invariant.on,
  inr (inr (λ never. false≢true (sym (c.stop.ensures never) ∙ c.if-stop.true))),
)

pub returns-in_err-course-clause-keeps : goal.returns-in_err-course-clause-keeps
returns-in_err-course-clause-keeps g c = keeps-trans c.args.worker.now c.steps.worker c.advance.new.worker c.steps.invariant.keeps c.advance.ensures.keeps

pub returns-in_err-course-clause-err : goal.returns-in_err-course-clause-err
returns-in_err-course-clause-err g c = always-err c.from_residual.result (IsOff (view c.advance.new.worker.seat) c.advance.new.engine.fuel c.steps.leaf) c.in_err-course.ensures.err

pub steps-preserved : goal.steps-preserved
steps-preserved g c = record {
  keeps = keeps-trans c.args.worker.now c.advance.new.worker c.share.new.worker
      (keeps-trans c.args.worker.now c.steps.worker c.advance.new.worker c.steps.invariant.keeps c.advance.ensures.keeps) c.share.ensures.keeps;
  ready = c.share.ensures.ready;
  on = c.in_ok-share-in-Open.ensures.ok;
  read = c.share.ensures.read;
  heard = g.met.W.Watch.goes_on c.args.watch.now c.steps.watch c.tell.new.watch c.steps.invariant.heard c.tell.ensures;
}

pub returns-in_err-share-in-Open-clause-keeps : goal.returns-in_err-share-in-Open-clause-keeps
returns-in_err-share-in-Open-clause-keeps g c =
    keeps-trans c.args.worker.now c.advance.new.worker c.share.new.worker
    (keeps-trans c.args.worker.now c.steps.worker c.advance.new.worker c.steps.invariant.keeps c.advance.ensures.keeps) c.share.ensures.keeps

pub returns-in_err-share-in-Open-clause-err : goal.returns-in_err-share-in-Open-clause-err
returns-in_err-share-in-Open-clause-err g c =
    always-err c.from_residual-in_err-share-in-Open.result (IsOff (view c.share.new.worker.seat) c.share.new.engine.fuel c.share.new.leaf)
    c.in_err-share-in-Open.ensures.err

pub returns-in-Spent-clause-keeps : goal.returns-in-Spent-clause-keeps
returns-in-Spent-clause-keeps g c = keeps-trans c.args.worker.now c.steps.worker c.advance.new.worker c.steps.invariant.keeps c.advance.ensures.keeps

pub returns-in-Spent-clause-ok : goal.returns-in-Spent-clause-ok
returns-in-Spent-clause-ok g c = (
  on-off c.args.shared.now.mode (view c.advance.new.worker.seat) c.advance.new.engine.search c.advance.new.engine.fuel c.steps.leaf c.in_ok-course.ensures.ok,
  inl (subst (λ (x : Course). IsCourse (view c.advance.new.worker.seat) c.advance.new.engine.search c.steps.leaf x) c.in-Spent.is c.in_ok-course.ensures.course),
)

pub close-requires-clause-done : goal.close-requires-clause-done
close-requires-clause-done g c =
    let w : Knows = view c.advance.new.worker.seat in
    done-excused c.args.shared.now.mode w c.advance.new.engine.search c.advance.new.engine.fuel c.in-Done.nogood.lits c.in_ok-course.ensures.ok.going
    (subst (λ (x : Course). IsCourse w c.advance.new.engine.search c.steps.leaf x) c.in-Done.is c.in_ok-course.ensures.course).1

pub close-requires-clause-within : goal.close-requires-clause-within
close-requires-clause-within g c = (subst (λ (x : Course). IsCourse (view c.advance.new.worker.seat) c.advance.new.engine.search c.steps.leaf x) c.in-Done.is c.in_ok-course.ensures.course).0

pub returns-in-Done-clause-keeps : goal.returns-in-Done-clause-keeps
returns-in-Done-clause-keeps g c =
    let h : Worker = c.advance.new.worker in let k : Worker = record h { seat = c.close.new.seat } in
    keeps-trans c.args.worker.now h k (keeps-trans c.args.worker.now c.steps.worker h c.steps.invariant.keeps c.advance.ensures.keeps)
    (keeps-seat c.args.shared.now h k c.advance.ensures.ready c.close.ensures.of c.close.ensures.passes.stays refl)

pub returns-in-Done-clause-ready : goal.returns-in-Done-clause-ready
returns-in-Done-clause-ready g c =
    let h : Worker = c.advance.new.worker in let k : Worker = record h { seat = c.close.new.seat } in
    ready-seat c.args.shared.now h k c.advance.ensures.ready
    (keeps-seat c.args.shared.now h k c.advance.ensures.ready c.close.ensures.of c.close.ensures.passes.stays refl) c.advance.ensures.ready.pool
    c.close.ensures.passes.lawful

pub returns-in-Done-clause-ok : goal.returns-in-Done-clause-ok
returns-in-Done-clause-ok g c = (
  goes-on c.args.shared.now.mode (view c.advance.new.worker.seat) (view c.close.new.seat) c.advance.new.engine.search c.advance.new.engine.fuel
      c.in_ok-course.ensures.ok.going c.close.ensures.passes,
  c.in_ok-close-in-Done.ensures.ok,
)

pub returns-in_err-close-in-Done-clause-keeps : goal.returns-in_err-close-in-Done-clause-keeps
returns-in_err-close-in-Done-clause-keeps g c =
    let h : Worker = c.advance.new.worker in let k : Worker = record h { seat = c.close.new.seat } in
    keeps-trans c.args.worker.now h k (keeps-trans c.args.worker.now c.steps.worker h c.steps.invariant.keeps c.advance.ensures.keeps)
    (keeps-seat c.args.shared.now h k c.advance.ensures.ready c.close.ensures.of c.close.ensures.passes.stays refl)

pub returns-in_err-close-in-Done-clause-ready : goal.returns-in_err-close-in-Done-clause-ready
returns-in_err-close-in-Done-clause-ready g c =
    let h : Worker = c.advance.new.worker in let k : Worker = record h { seat = c.close.new.seat } in
    ready-seat c.args.shared.now h k c.advance.ensures.ready
    (keeps-seat c.args.shared.now h k c.advance.ensures.ready c.close.ensures.of c.close.ensures.passes.stays refl) c.advance.ensures.ready.pool
    c.close.ensures.passes.lawful

pub returns-in_err-close-in-Done-clause-err : goal.returns-in_err-close-in-Done-clause-err
returns-in_err-close-in-Done-clause-err g c =
    always-err c.from_residual-in_err-close-in-Done.result (IsOff (view c.close.new.seat) c.advance.new.engine.fuel c.steps.leaf)
    (record {
      held = c.in_err-close-in-Done.ensures.err;
      units =
          owes-on (view c.advance.new.worker.seat) (view c.close.new.seat) c.advance.new.engine.fuel (owes-of c.in_ok-course.ensures.ok.going)
          c.close.ensures.passes;
    })

pub returns-in_err-share-in-Open-clause-heard : goal.returns-in_err-share-in-Open-clause-heard
returns-in_err-share-in-Open-clause-heard g c = g.met.W.Watch.goes_on c.args.watch.now c.steps.watch c.tell.new.watch c.steps.invariant.heard c.tell.ensures

pub returns-in-Spent-clause-heard : goal.returns-in-Spent-clause-heard
returns-in-Spent-clause-heard g c = g.met.W.Watch.goes_on c.args.watch.now c.steps.watch c.tell.new.watch c.steps.invariant.heard c.tell.ensures

pub returns-in-Done-clause-heard : goal.returns-in-Done-clause-heard
returns-in-Done-clause-heard g c = g.met.W.Watch.goes_on c.args.watch.now c.steps.watch c.tell.new.watch c.steps.invariant.heard c.tell.ensures

pub returns-in_err-close-in-Done-clause-heard : goal.returns-in_err-close-in-Done-clause-heard
returns-in_err-close-in-Done-clause-heard g c = g.met.W.Watch.goes_on c.args.watch.now c.steps.watch c.tell.new.watch c.steps.invariant.heard c.tell.ensures

pub returns-in_err-course-clause-stop : goal.returns-in_err-course-clause-stop
returns-in_err-course-clause-stop g c = same-stop (view c.advance.new.worker.seat) c.from_residual.result _ c.from_residual.ensures.1 c.in_err-course.ensures.stop

pub returns-in_err-share-in-Open-clause-stop : goal.returns-in_err-share-in-Open-clause-stop
returns-in_err-share-in-Open-clause-stop g c =
    same-stop (view c.share.new.worker.seat) c.from_residual-in_err-share-in-Open.result _ c.from_residual-in_err-share-in-Open.ensures.1
    c.in_err-share-in-Open.ensures.stop

pub returns-in_err-close-in-Done-clause-stop : goal.returns-in_err-close-in-Done-clause-stop
returns-in_err-close-in-Done-clause-stop g c = memory-stop (view c.close.new.seat) c.from_residual-in_err-close-in-Done.result c.from_residual-in_err-close-in-Done.ensures.1
