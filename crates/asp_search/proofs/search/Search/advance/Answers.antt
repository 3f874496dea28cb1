use Rattle.std.proofs.Common.{None, refl, sym, ap, ◌∙◌, subst}
use Rattle.std.proofs.lemmas.Result.{IfOk-weaker, on_err_weaker}
use Rattle.asp_model.specs.Sound.{IsSound}
use Rattle.asp_vars.specs.declared.nogood.Nogood.{Nogood}
use Rattle.asp_propagate.specs.Useful.{Counts}
use Rattle.asp_search_laws.specs.Searching.{Searching}
use Rattle.asp_search_laws.specs.Steps.{Closes, Fails, IsStep, IsFailure, Steps}
use Rattle.asp_search_laws.specs.declared.step.Step.{Step}
use Rattle.asp_search_laws.proofs.StepLaws.{Continues, steps_on, fails_on}
use Rattle.asp_state.specs.SearchStates.{SearchView}
use Rattle.asp_search.specs.Invariants.{answers_known, used_in, view_of}
use Rattle.asp_search.specs.Meeting.{IsClashed, opposed}
use Rattle.asp_search.proofs.BelowLaws.{adds_continue, adds_fail}
use Rattle.asp_search.proofs.SearchLaws.{search_told}
use Rattle.asp_search.proofs.StepsLaws.{always_err, clash_closes, fails_cleared, some_of}
use Rattle.asp_search.proofs.search.Search.advance.Goals as goal

pub returns-then-is_clashing-clause-ok : goal.returns-then-is_clashing-clause-ok
returns-then-is_clashing-clause-ok g c =
    let i = c.self.inside in
    let s = c.args.self.now in
    let f = c.args.fuel.now in
    let new : Searching = view_of i.mode i.state i.pace (answers_known i.known.items i.seen) None in
    IfOk-weaker c.clashed.result (IsClashed i.state.cube) (IsStep (g.P.Propagator.gives s.program s.bound) (g.P.Propagator.silent s.program s.bound) s new f f)
    (λ r h q e.
    let x = h q (ap (λ (y : Searching). y.cube) c.self.view_is ∙ e) in
    subst (λ (z : Step). Steps (g.P.Propagator.gives s.program s.bound) (g.P.Propagator.silent s.program s.bound) s new q f f z) (sym x.1)
    (subst (λ (z : Searching). Closes (g.P.Propagator.gives z.program z.bound) z new q f f (opposed x.0)) c.self.view_is
    (clash_closes (g.P.Propagator.gives i.state.program i.state.bound) i.mode i.state i.pace (answers_known i.known.items i.seen) i.last q f x.0 x.2)))
    c.clashed.ensures

pub returns-then-is_clashing-clause-err : goal.returns-then-is_clashing-clause-err
returns-then-is_clashing-clause-err g c =
    let i = c.self.inside in
    let s = c.args.self.now in
    let f = c.args.fuel.now in
    let new : Searching = view_of i.mode i.state i.pace (answers_known i.known.items i.seen) None in
    always_err c.clashed.result (IsFailure (g.P.Propagator.gives s.program s.bound) s new f f)
    (λ q e.
    subst (λ (z : Searching). Fails (g.P.Propagator.gives z.program z.bound) z new q f f) c.self.view_is
    (fails_cleared (g.P.Propagator.gives i.state.program i.state.bound) i.mode i.state i.pace (answers_known i.known.items i.seen) i.last q f))

pub invariant_of-self-in_err-met : goal.invariant_of-self-in_err-met
invariant_of-self-in_err-met g c =
    let i = c.self.inside in
    let t = i.state in
    let sound : IsSound t.program = subst IsSound c.self.invariant.0.program c.program-program.ensures.sound in (
      search_told i.compiled.now i.mode t c.propagate.new.self i.learner i.checker (used_in i.compiled.now i.mode i.known.items i.seen)
          i.blocking.items i.bound i.last (g.P.Propagator.gives t.program t.bound)
          (ap (λ (x : SearchView). x.program) c.propagate.ensures.same) (ap (λ (x : SearchView). x.bound) c.propagate.ensures.same)
          (λ n h. g.met.P.Propagator.sound t.program t.bound n (used_in i.compiled.now i.mode i.known.items i.seen) sound h) c.propagate.ensures.adds c.self.invariant.0,
      c.self.invariant.1,
    )

pub returns-in_err-met-clause-err : goal.returns-in_err-met-clause-err
returns-in_err-met-clause-err g c =
    let i = c.self.inside in
    let t = i.state in
    let s = c.args.self.now in
    let f = c.args.fuel.now in
    let u = c.propagate.new.self in
    let p = c.propagate.ensures in
    let new : Searching = view_of i.mode u i.pace (answers_known i.known.items i.seen) None in
    let sound : IsSound t.program = subst IsSound c.self.invariant.0.program c.program-program.ensures.sound in
    let counts : (n : Nogood) → g.P.Propagator.gives t.program t.bound n → Counts t.bound n.base =
    λ n h. (g.met.P.Propagator.sound t.program t.bound n (used_in i.compiled.now i.mode i.known.items i.seen) sound h).counts in
    let fails : IsFailure (g.P.Propagator.gives s.program s.bound) s new f f = λ q e.
    subst (λ (z : Searching). Fails (g.P.Propagator.gives z.program z.bound) z new q f f) c.self.view_is
    (adds_fail (g.P.Propagator.gives t.program t.bound) i.mode t u i.pace (answers_known i.known.items i.seen) i.last q f counts p.adds p.implies p.same) in
    always_err c.from_residual.result (IsFailure (g.P.Propagator.gives s.program s.bound) s new f f) fails

pub invariant_of-self-in-Some : goal.invariant_of-self-in-Some
invariant_of-self-in-Some g c =
    let i = c.self.inside in
    let t = i.state in
    let sound : IsSound t.program = subst IsSound c.self.invariant.0.program c.program-program.ensures.sound in (
      search_told i.compiled.now i.mode t c.propagate.new.self i.learner i.checker (used_in i.compiled.now i.mode i.known.items i.seen)
          i.blocking.items i.bound i.last (g.P.Propagator.gives t.program t.bound)
          (ap (λ (x : SearchView). x.program) c.propagate.ensures.same) (ap (λ (x : SearchView). x.bound) c.propagate.ensures.same)
          (λ n h. g.met.P.Propagator.sound t.program t.bound n (used_in i.compiled.now i.mode i.known.items i.seen) sound h) c.propagate.ensures.adds c.self.invariant.0,
      c.self.invariant.1,
    )

pub meet-requires-clause-entered : goal.meet-requires-clause-entered
meet-requires-clause-entered g c =
    let q = some_of c.args.self.now.cube c.requires.entered in
    let same = c.propagate.ensures.same in (
      q.0,
      record {
        cube = ap (λ (x : SearchView). x.cube) same ∙ (ap (λ (x : Searching). x.cube) c.self.view_is ∙ q.1);
        clear = ap (λ (x : SearchView). x.clashing) same ∙ (sym c.is_clashing.ensures.same ∙ c.if-is_clashing.false);
        last = refl;
      },
    )

pub invariant_of-self-in-None : goal.invariant_of-self-in-None
invariant_of-self-in-None g c =
    let i = c.self.inside in
    let t = i.state in
    let sound : IsSound t.program = subst IsSound c.self.invariant.0.program c.program-program.ensures.sound in (
      search_told i.compiled.now i.mode t c.propagate.new.self i.learner i.checker (used_in i.compiled.now i.mode i.known.items i.seen)
          i.blocking.items i.bound i.last (g.P.Propagator.gives t.program t.bound)
          (ap (λ (x : SearchView). x.program) c.propagate.ensures.same) (ap (λ (x : SearchView). x.bound) c.propagate.ensures.same)
          (λ n h. g.met.P.Propagator.sound t.program t.bound n (used_in i.compiled.now i.mode i.known.items i.seen) sound h) c.propagate.ensures.adds c.self.invariant.0,
      c.self.invariant.1,
    )

pub go_on-requires-clause-entered : goal.go_on-requires-clause-entered
go_on-requires-clause-entered g c =
    let q = some_of c.args.self.now.cube c.requires.entered in
    let same = c.propagate.ensures.same in (
      q.0,
      record {
        cube = ap (λ (x : SearchView). x.cube) same ∙ (ap (λ (x : Searching). x.cube) c.self.view_is ∙ q.1);
        clear = ap (λ (x : SearchView). x.clashing) same ∙ (sym c.is_clashing.ensures.same ∙ c.if-is_clashing.false);
        last = refl;
      },
    )

pub returns-in-Some-clause-ok : goal.returns-in-Some-clause-ok
returns-in-Some-clause-ok g c =
    let i = c.self.inside in
    let t = i.state in
    let s = c.args.self.now in
    let f = c.args.fuel.now in
    let u = c.propagate.new.self in
    let p = c.propagate.ensures in
    let new : Searching = view_of i.mode u i.pace (answers_known i.known.items i.seen) None in
    let sound : IsSound t.program = subst IsSound c.self.invariant.0.program c.program-program.ensures.sound in
    let counts : (n : Nogood) → g.P.Propagator.gives t.program t.bound n → Counts t.bound n.base =
    λ n h. (g.met.P.Propagator.sound t.program t.bound n (used_in i.compiled.now i.mode i.known.items i.seen) sound h).counts in
    let on : Continues (g.P.Propagator.gives s.program s.bound) s new =
    subst (λ (z : Searching). Continues (g.P.Propagator.gives z.program z.bound) z new) c.self.view_is
    (adds_continue (g.P.Propagator.gives t.program t.bound) i.mode t u i.pace (answers_known i.known.items i.seen) i.last counts p.adds p.implies p.same) in
    IfOk-weaker c.meet.result
    (IsStep (g.P.Propagator.gives new.program new.bound) (g.P.Propagator.silent new.program new.bound) new c.meet.new.self f c.meet.new.fuel)
    (IsStep (g.P.Propagator.gives s.program s.bound) (g.P.Propagator.silent s.program s.bound) s c.meet.new.self f c.meet.new.fuel)
    (steps_on g.P.Propagator.gives g.P.Propagator.silent s new c.meet.new.self f c.meet.new.fuel on) c.meet.ensures.ok

pub returns-in-Some-clause-err : goal.returns-in-Some-clause-err
returns-in-Some-clause-err g c =
    let i = c.self.inside in
    let t = i.state in
    let s = c.args.self.now in
    let f = c.args.fuel.now in
    let u = c.propagate.new.self in
    let p = c.propagate.ensures in
    let new : Searching = view_of i.mode u i.pace (answers_known i.known.items i.seen) None in
    let sound : IsSound t.program = subst IsSound c.self.invariant.0.program c.program-program.ensures.sound in
    let counts : (n : Nogood) → g.P.Propagator.gives t.program t.bound n → Counts t.bound n.base =
    λ n h. (g.met.P.Propagator.sound t.program t.bound n (used_in i.compiled.now i.mode i.known.items i.seen) sound h).counts in
    let on : Continues (g.P.Propagator.gives s.program s.bound) s new =
    subst (λ (z : Searching). Continues (g.P.Propagator.gives z.program z.bound) z new) c.self.view_is
    (adds_continue (g.P.Propagator.gives t.program t.bound) i.mode t u i.pace (answers_known i.known.items i.seen) i.last counts p.adds p.implies p.same) in
    on_err_weaker c.meet.result (fails_on g.P.Propagator.gives g.P.Propagator.silent s new c.meet.new.self f c.meet.new.fuel on) c.meet.ensures.err

pub returns-in-None-clause-ok : goal.returns-in-None-clause-ok
returns-in-None-clause-ok g c =
    let i = c.self.inside in
    let t = i.state in
    let s = c.args.self.now in
    let f = c.args.fuel.now in
    let u = c.propagate.new.self in
    let p = c.propagate.ensures in
    let new : Searching = view_of i.mode u i.pace (answers_known i.known.items i.seen) None in
    let sound : IsSound t.program = subst IsSound c.self.invariant.0.program c.program-program.ensures.sound in
    let counts : (n : Nogood) → g.P.Propagator.gives t.program t.bound n → Counts t.bound n.base =
    λ n h. (g.met.P.Propagator.sound t.program t.bound n (used_in i.compiled.now i.mode i.known.items i.seen) sound h).counts in
    let on : Continues (g.P.Propagator.gives s.program s.bound) s new =
    subst (λ (z : Searching). Continues (g.P.Propagator.gives z.program z.bound) z new) c.self.view_is
    (adds_continue (g.P.Propagator.gives t.program t.bound) i.mode t u i.pace (answers_known i.known.items i.seen) i.last counts p.adds p.implies p.same) in
    IfOk-weaker c.go_on.result
    (IsStep (g.P.Propagator.gives new.program new.bound) (g.P.Propagator.silent new.program new.bound) new c.go_on.new.self f c.go_on.new.fuel)
    (IsStep (g.P.Propagator.gives s.program s.bound) (g.P.Propagator.silent s.program s.bound) s c.go_on.new.self f c.go_on.new.fuel)
    (steps_on g.P.Propagator.gives g.P.Propagator.silent s new c.go_on.new.self f c.go_on.new.fuel on) c.go_on.ensures.ok

pub returns-in-None-clause-err : goal.returns-in-None-clause-err
returns-in-None-clause-err g c =
    let i = c.self.inside in
    let t = i.state in
    let s = c.args.self.now in
    let f = c.args.fuel.now in
    let u = c.propagate.new.self in
    let p = c.propagate.ensures in
    let new : Searching = view_of i.mode u i.pace (answers_known i.known.items i.seen) None in
    let sound : IsSound t.program = subst IsSound c.self.invariant.0.program c.program-program.ensures.sound in
    let counts : (n : Nogood) → g.P.Propagator.gives t.program t.bound n → Counts t.bound n.base =
    λ n h. (g.met.P.Propagator.sound t.program t.bound n (used_in i.compiled.now i.mode i.known.items i.seen) sound h).counts in
    let on : Continues (g.P.Propagator.gives s.program s.bound) s new =
    subst (λ (z : Searching). Continues (g.P.Propagator.gives z.program z.bound) z new) c.self.view_is
    (adds_continue (g.P.Propagator.gives t.program t.bound) i.mode t u i.pace (answers_known i.known.items i.seen) i.last counts p.adds p.implies p.same) in
    on_err_weaker c.go_on.result (fails_on g.P.Propagator.gives g.P.Propagator.silent s new c.go_on.new.self f c.go_on.new.fuel on) c.go_on.ensures.err
