use Rattle.std.proofs.Common.{◌≡◌, Option, None, sym, ap, ◌∙◌, subst}
use Rattle.std.specs.Prelude.{IfNone}
use Rattle.std.proofs.lemmas.Result.{IfOk-weaker, on_err_weaker}
use Rattle.asp_vars.specs.Literals.{Literal}
use Rattle.asp_vars.specs.Numbering.{var_count}
use Rattle.asp_order.specs.Waiting.{AreAssigned}
use Rattle.asp_propagate.specs.Propagating.{IsFixpoint}
use Rattle.asp_search_laws.specs.Searching.{Searching, values_now}
use Rattle.asp_search_laws.specs.Steps.{Decides, IsStep, IsFailure}
use Rattle.asp_search_laws.proofs.StepLaws.{Continues, steps_on, fails_on}
use Rattle.asp_state.specs.SearchStates.{SearchView, values_of}
use Rattle.asp_search.specs.Invariants.{answers_known, used_in, view_of}
use Rattle.asp_search.specs.Stepping.{IsEntered}
use Rattle.asp_search.proofs.SearchLaws.{search_stays}
use Rattle.asp_search.proofs.StepsLaws.{always_err, fails_still, decides_now, decided_none, continues_ranked}
use Rattle.asp_search.proofs.search.Search.decide.Goals as goal

pub decide-requires-clause-under : goal.decide-requires-clause-under
decide-requires-clause-under g c =
    let q = c.requires.entered.0 in
    let e = subst (λ (s : Searching). IsEntered s q) (sym c.self.view_is) c.requires.entered.1 in
    (q, record { cube_is = e.cube; fixpoint = e.clear })

pub returns-in_err-decide-clause-err : goal.returns-in_err-decide-clause-err
returns-in_err-decide-clause-err g c =
    let i = c.self.inside in
    let s = c.args.self.now in
    let f = c.args.fuel.now in
    let new : Searching = view_of i.mode c.decide.new.self i.pace (answers_known i.known.items i.seen) i.last in
    let same : new ≡ s = ap (λ (x : SearchView). view_of i.mode x i.pace (answers_known i.known.items i.seen) i.last) c.in_err-decide.ensures.err ∙ c.self.view_is in
    always_err c.from_residual.result (IsFailure (g.P.Propagator.gives s.program s.bound) s new f f) (fails_still (g.P.Propagator.gives s.program s.bound) s new f same)

pub invariant_of-self-in-Some : goal.invariant_of-self-in-Some
invariant_of-self-in-Some g c =
    let i = c.self.inside in
    let e = c.in_ok-decide.ensures.same in (
      search_stays i.compiled.now i.mode i.state c.decide.new.self i.learner i.checker (used_in i.compiled.now i.mode i.known.items i.seen)
          i.blocking.items i.bound i.last (ap (λ (x : SearchView). x.program) e)
          (ap (λ (x : SearchView). x.bound) e) (ap (λ (x : SearchView). x.slots) e) c.self.invariant.0,
      c.self.invariant.1,
    )

pub invariant_of-self-in-None : goal.invariant_of-self-in-None
invariant_of-self-in-None g c =
    let i = c.self.inside in
    let e = c.in_ok-decide.ensures.same in (
      search_stays i.compiled.now i.mode i.state c.decide.new.self i.learner i.checker (used_in i.compiled.now i.mode i.known.items i.seen)
          i.blocking.items i.bound i.last (ap (λ (x : SearchView). x.program) e)
          (ap (λ (x : SearchView). x.bound) e) (ap (λ (x : SearchView). x.slots) e) c.self.invariant.0,
      c.self.invariant.1,
    )

pub returns-in-Some-clause-ok : goal.returns-in-Some-clause-ok
returns-in-Some-clause-ok g c = λ q e.
    let i = c.self.inside in
    let s = c.args.self.now in
    let f = c.args.fuel.now in
    let u = c.decide.new.self in
    let d = c.in_ok-decide.ensures in
    let new : Searching = view_of i.mode u i.pace (answers_known i.known.items i.seen) i.last in
    let last : i.last ≡ None = ap (λ (x : Searching). x.last) c.self.view_is ∙ c.requires.entered.1.last in
    let fixpoint : IsFixpoint (g.P.Propagator.silent i.state.program i.state.bound) i.state.slots (values_of i.state) =
    subst (λ (x : Searching). IsFixpoint (g.P.Propagator.silent x.program x.bound) x.slots (values_now x)) (sym c.self.view_is) c.requires.fixpoint in
    let decides =
    decides_now (g.P.Propagator.gives i.state.program i.state.bound) (g.P.Propagator.silent i.state.program i.state.bound) i.mode i.state u i.pace
    (answers_known i.known.items i.seen) i.last f
    c.in_ok-decide.field-0 c.in-Some.field-0 c.in-Some.is last fixpoint d.same d.next d.entries d.decisions in
    subst (λ (z : Searching). Decides (g.P.Propagator.gives z.program z.bound) (g.P.Propagator.silent z.program z.bound) z new f f) c.self.view_is decides

pub returns-in-None-clause-ok : goal.returns-in-None-clause-ok
returns-in-None-clause-ok g c =
    let i = c.self.inside in
    let s = c.args.self.now in
    let f = c.args.fuel.now in
    let u = c.decide.new.self in
    let d = c.in_ok-decide.ensures in
    let m : Searching = view_of i.mode u i.pace (answers_known i.known.items i.seen) i.last in
    let none : AreAssigned (var_count i.state.program) (values_of i.state) × (u.entries ≡ i.state.entries) × (u.decisions ≡ i.state.decisions) =
    subst (λ (x : Option Literal). IfNone x (AreAssigned (var_count i.state.program) (values_of i.state) × (u.entries ≡ i.state.entries) × (u.decisions ≡ i.state.decisions))) c.in-None.is d.none in
    let on : Continues (g.P.Propagator.gives s.program s.bound) s m =
    subst (λ (z : Searching). Continues (g.P.Propagator.gives z.program z.bound) z m) c.self.view_is
    (continues_ranked (g.P.Propagator.gives i.state.program i.state.bound) i.mode i.state i.pace (answers_known i.known.items i.seen) i.last u (record i.state.ranking { members = u.ranking.members })
    (decided_none i.state u (record i.state.ranking { members = u.ranking.members }) d.same none.1 none.2)) in
    IfOk-weaker c.complete.result
    (IsStep (g.P.Propagator.gives m.program m.bound) (g.P.Propagator.silent m.program m.bound) m c.complete.new.self f c.complete.new.fuel)
    (IsStep (g.P.Propagator.gives s.program s.bound) (g.P.Propagator.silent s.program s.bound) s c.complete.new.self f c.complete.new.fuel)
    (steps_on g.P.Propagator.gives g.P.Propagator.silent s m c.complete.new.self f c.complete.new.fuel on) c.complete.ensures.ok

pub returns-in-None-clause-err : goal.returns-in-None-clause-err
returns-in-None-clause-err g c =
    let i = c.self.inside in
    let s = c.args.self.now in
    let f = c.args.fuel.now in
    let u = c.decide.new.self in
    let d = c.in_ok-decide.ensures in
    let m : Searching = view_of i.mode u i.pace (answers_known i.known.items i.seen) i.last in
    let none : AreAssigned (var_count i.state.program) (values_of i.state) × (u.entries ≡ i.state.entries) × (u.decisions ≡ i.state.decisions) =
    subst (λ (x : Option Literal). IfNone x (AreAssigned (var_count i.state.program) (values_of i.state) × (u.entries ≡ i.state.entries) × (u.decisions ≡ i.state.decisions))) c.in-None.is d.none in
    let on : Continues (g.P.Propagator.gives s.program s.bound) s m =
    subst (λ (z : Searching). Continues (g.P.Propagator.gives z.program z.bound) z m) c.self.view_is
    (continues_ranked (g.P.Propagator.gives i.state.program i.state.bound) i.mode i.state i.pace (answers_known i.known.items i.seen) i.last u (record i.state.ranking { members = u.ranking.members })
    (decided_none i.state u (record i.state.ranking { members = u.ranking.members }) d.same none.1 none.2)) in
    on_err_weaker c.complete.result (fails_on g.P.Propagator.gives g.P.Propagator.silent s m c.complete.new.self f c.complete.new.fuel on) c.complete.ensures.err
