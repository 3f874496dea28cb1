use Rattle.std.proofs.Common.{List, sym, subst, arith}
use Rattle.std.specs.Result.{OnErr}
use Rattle.asp_vars.specs.Literals.{Literal}
use Rattle.asp_vars.specs.Numbering.{var_count}
use Rattle.asp_model.specs.Sound.{IsSound}
use Rattle.asp_model.specs.Asked.{reasoning_of}
use Rattle.asp_model.specs.Consequences.{used_up}
use Rattle.asp_store.specs.Walking.{IsViolated}
use Rattle.asp_analyze.specs.declared.learn.Learned.{Learned}
use Rattle.asp_analyze.specs.declared.learn.Learned.TheVariants as learned
use Rattle.asp_search_laws.specs.Explaining.{Explains}
use Rattle.asp_search_laws.specs.Searching.{Searching}
use Rattle.asp_search_laws.specs.Steps.{Closes, IsFailure}
use Rattle.asp_search.specs.Invariants.{answers_known, view_of}
use Rattle.asp_search.specs.Stepping.{IsEntered}
use Rattle.asp_search.proofs.MeetLaws.{met_of, all_useful_for, settled_reasons}
use Rattle.asp_search.proofs.StepsLaws.{same_cube, always_err, fails_still, met_closes, closes_thinned}
use Rattle.asp_search.proofs.search.Search.meet.Goals as goal

pub learn-requires-clause-vars : goal.learn-requires-clause-vars
learn-requires-clause-vars g c = c.self.invariant.0.counted

pub learn-requires-clause-violated : goal.learn-requires-clause-violated
learn-requires-clause-violated g c = subst (λ (s : Searching). IsViolated (var_count s.program) s.slots s.entries c.args.id) (sym c.self.view_is) c.requires.violated

pub pay-requires-clause-met : goal.pay-requires-clause-met
pay-requires-clause-met g c =
    let i = c.self.inside in
    let q = c.requires.entered.0 in
    let e = subst (λ (s : Searching). IsEntered s q) (sym c.self.view_is) c.requires.entered.1 in
    let l : Learned = learned.Jump c.in-Jump.nogood c.in-Jump.level c.in-Jump.lit in
    let x = subst (λ (y : Learned). Explains (g.P.Propagator.gives i.state.program i.state.bound) (var_count i.state.program) i.state.slots
    i.state.entries c.args.id y) c.in-Jump.is c.in_ok-nogood.ensures.explains in
    let U = used_up (reasoning_of i.mode) i.state.program (answers_known i.known.items i.seen) in
    let sound : IsSound i.state.program = subst IsSound c.self.invariant.0.program c.program-program.ensures.sound in
    let useful = all_useful_for i.compiled.now i.state i.mode (answers_known i.known.items i.seen) c.self.invariant.0.program c.self.invariant.0.useful in
    let settled = settled_reasons i.compiled.now i.state i.mode (answers_known i.known.items i.seen)
    (g.P.Propagator.gives i.state.program i.state.bound) (g.P.Propagator.late i.state.program i.state.bound) c.self.invariant.0.program
    c.program-program.ensures.sound (g.met.P.Propagator.sound i.state.program i.state.bound) (g.met.P.Propagator.given i.state.program i.state.bound)
    c.self.invariant.0.useful c.store-store.ensures.implied in (
      q,
      met_of (g.P.Propagator.gives i.state.program i.state.bound) i.mode i.state i.pace (answers_known i.known.items i.seen) i.last q c.args.id l e
          c.trail-trail.ensures.ordered c.trail-trail.ensures.begun settled useful
          (λ n h. g.met.P.Propagator.sound i.state.program i.state.bound n U sound h) x,
    )

pub note_conflict-requires : goal.note_conflict-requires
note_conflict-requires g c = omega (arith, c.self.invariant.0.counted, c.trail.ensures.vars)

pub make_room-requires : goal.make_room-requires
make_room-requires g c = record { last = (subst (λ (s : Searching). IsEntered s c.requires.entered.0) (sym c.self.view_is) c.requires.entered.1).last }

pub returns-in_err-nogood-clause-err : goal.returns-in_err-nogood-clause-err
returns-in_err-nogood-clause-err g c =
    let i = c.self.inside in
    let s = c.args.self.now in
    let G = g.P.Propagator.gives s.program s.bound in
    let new : Searching = view_of i.mode i.state i.pace (answers_known i.known.items i.seen) i.last in
    always_err c.from_residual.result (IsFailure G s new c.args.fuel.now c.args.fuel.now) (fails_still G s new c.args.fuel.now c.self.view_is)

pub returns-in-InCube-clause-ok : goal.returns-in-InCube-clause-ok
returns-in-InCube-clause-ok g c = λ r h.
    let i = c.self.inside in
    let s = c.args.self.now in
    let q = c.requires.entered.0 in
    let f = c.args.fuel.now in
    let e = subst (λ (s : Searching). IsEntered s q) (sym c.self.view_is) c.requires.entered.1 in
    let n = c.in-InCube.nogood in
    let x = subst (λ (y : Learned). Explains (g.P.Propagator.gives i.state.program i.state.bound) (var_count i.state.program) i.state.slots
    i.state.entries c.args.id y) c.in-InCube.is c.in_ok-nogood.ensures.explains in
    let U = used_up (reasoning_of i.mode) i.state.program (answers_known i.known.items i.seen) in
    let sound : IsSound i.state.program = subst IsSound c.self.invariant.0.program c.program-program.ensures.sound in
    let useful = all_useful_for i.compiled.now i.state i.mode (answers_known i.known.items i.seen) c.self.invariant.0.program c.self.invariant.0.useful in
    let settled = settled_reasons i.compiled.now i.state i.mode (answers_known i.known.items i.seen)
    (g.P.Propagator.gives i.state.program i.state.bound) (g.P.Propagator.late i.state.program i.state.bound) c.self.invariant.0.program
    c.program-program.ensures.sound (g.met.P.Propagator.sound i.state.program i.state.bound) (g.met.P.Propagator.given i.state.program i.state.bound)
    c.self.invariant.0.useful c.store-store.ensures.implied in
    let m = met_of (g.P.Propagator.gives i.state.program i.state.bound) i.mode i.state i.pace (answers_known i.known.items i.seen) i.last q c.args.id
    (learned.InCube n) e c.trail-trail.ensures.ordered c.trail-trail.ensures.begun settled useful
    (λ n h. g.met.P.Propagator.sound i.state.program i.state.bound n U sound h) x in
    let new : Searching = view_of i.mode i.state i.pace (answers_known i.known.items i.seen) i.last in
    let G = g.P.Propagator.gives i.state.program i.state.bound in
    let closes = met_closes G i.mode i.state i.pace (answers_known i.known.items i.seen) i.last q f c.args.id n m in
    let end = c.make_room.new.self in
    let thinned = closes_thinned G new new end q f f n i.state.entries closes c.make_room.ensures.same c.make_room.ensures.reduced in
    subst (λ (y : List Literal). Closes (g.P.Propagator.gives s.program s.bound) s end y f f n) (same_cube s.cube q r c.requires.entered.1.cube h)
    (subst (λ (z : Searching). Closes (g.P.Propagator.gives z.program z.bound) z end q f f n) c.self.view_is thinned)

pub returns-in-Jump-clause-err : goal.returns-in-Jump-clause-err
returns-in-Jump-clause-err g c =
    subst (λ (z : Searching). OnErr c.pay.result (IsFailure (g.P.Propagator.gives z.program z.bound) z c.pay.new.self c.args.fuel.now c.pay.new.fuel)) c.self.view_is c.pay.ensures.err
