use Rattle.std.proofs.Common.{◌∙◌, sym, ap, subst}
use Rattle.std.proofs.lemmas.Result.{IfOk-weaker, on_err_weaker}
use Rattle.asp_propagate.specs.Propagating.{IsFixpoint}
use Rattle.asp_search_laws.specs.Searching.{Searching, values_now}
use Rattle.asp_search_laws.specs.Steps.{IsDue, IsStep}
use Rattle.asp_search_laws.proofs.StepLaws.{steps_on, fails_on}
use Rattle.asp_search.specs.Stepping.{IsEntered}
use Rattle.asp_search.proofs.StepsLaws.{continues_raised, restarts_from}
use Rattle.asp_search.proofs.search.Search.go_on.Goals as goal

pub returns-then-is_due-clause-ok : goal.returns-then-is_due-clause-ok
returns-then-is_due-clause-ok g c = λ q e.
    let s = c.args.self.now in
    let t = c.restart.new.self in
    restarts_from (g.P.Propagator.gives s.program s.bound) s t c.args.fuel.now t.slots t.ranking c.requires.entered.1.last
    (subst (λ (x : Searching). IsDue x.learnt) c.self.view_is (c.is_due.ensures c.if-is_due.true)) c.restart.ensures.reduced c.restart.ensures.same

pub decide-requires-clause-entered : goal.decide-requires-clause-entered
decide-requires-clause-entered g c =
    let e = c.requires.entered.1 in
    (c.requires.entered.0, subst (λ (s : Searching). IsEntered s c.requires.entered.0) (sym c.follow.ensures) (record { cube = e.cube; clear = e.clear; last = e.last }))

pub decide-requires-clause-program : goal.decide-requires-clause-program
decide-requires-clause-program g c = c.requires.program ∙ ap (λ (s : Searching). s.program) (sym c.follow.ensures)

pub decide-requires-clause-fixpoint : goal.decide-requires-clause-fixpoint
decide-requires-clause-fixpoint g c =
    subst (λ (s : Searching). IsFixpoint (g.P.Propagator.silent s.program s.bound) s.slots (values_now s)) (sym c.follow.ensures) c.requires.fixpoint

pub returns-clause-ok : goal.returns-clause-ok
returns-clause-ok g c =
    let s = c.args.self.now in
    let m = c.follow.new.self in
    let f = c.args.fuel.now in
    IfOk-weaker c.decide.result
    (IsStep (g.P.Propagator.gives m.program m.bound) (g.P.Propagator.silent m.program m.bound) m c.decide.new.self f c.decide.new.fuel)
    (IsStep (g.P.Propagator.gives s.program s.bound) (g.P.Propagator.silent s.program s.bound) s c.decide.new.self f c.decide.new.fuel)
    (steps_on g.P.Propagator.gives g.P.Propagator.silent s m c.decide.new.self f c.decide.new.fuel
    (continues_raised (g.P.Propagator.gives s.program s.bound) s m m.ranking c.follow.ensures)) c.decide.ensures.ok

pub returns-clause-err : goal.returns-clause-err
returns-clause-err g c =
    let s = c.args.self.now in
    let m = c.follow.new.self in
    let f = c.args.fuel.now in
    on_err_weaker c.decide.result
    (fails_on g.P.Propagator.gives g.P.Propagator.silent s m c.decide.new.self f c.decide.new.fuel
    (continues_raised (g.P.Propagator.gives s.program s.bound) s m m.ranking c.follow.ensures)) c.decide.ensures.err
