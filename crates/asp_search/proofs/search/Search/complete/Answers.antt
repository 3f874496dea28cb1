use Rattle.std.proofs.Common.{◌≡◌, Option, IsTrue, sym, ap, ◌∙◌, subst}
use Rattle.std.specs.Prelude.{MatchOption}
use Rattle.std.proofs.lemmas.Result.{IfOk-weaker, on_err_weaker}
use Rattle.asp_model.specs.declared.program.Program.{Program}
use Rattle.asp_model.specs.Models.{is_stable}
use Rattle.asp_model.specs.Sound.{IsSound}
use Rattle.asp_model.specs.Asked.{reasoning_of}
use Rattle.asp_model.specs.Consequences.{used_up}
use Rattle.asp_vars.specs.Numbering.{var_count}
use Rattle.asp_vars.specs.declared.nogood.Nogood.{Nogood}
use Rattle.asp_store.specs.declared.stored_nogood.Kind.TheVariants as kind
use Rattle.asp_order.specs.Waiting.{AreAssigned}
use Rattle.asp_propagate.specs.Propagating.{IsFixpoint}
use Rattle.asp_trail_laws.specs.Whole.{atoms_on}
use Rattle.asp_search_laws.specs.Faults.{IsFault}
use Rattle.asp_search_laws.specs.Searching.{Searching, values_now}
use Rattle.asp_search_laws.specs.Steps.{Answers, IsStep, IsFailure}
use Rattle.asp_search_laws.proofs.StepLaws.{Continues, steps_on, fails_on}
use Rattle.asp_state.specs.SearchStates.{SearchView, values_of, IsUnder}
use Rattle.asp_search.specs.Invariants.{answers_known, used_in, view_of}
use Rattle.asp_search.specs.Stepping.{IsEntered}
use Rattle.asp_search.proofs.BelowLaws.{fault_useful, fault_continues}
use Rattle.asp_search.proofs.MeetLaws.{all_excluded_for, settled_reasons}
use Rattle.asp_search.proofs.SearchLaws.{search_checked, search_added, added_last}
use Rattle.asp_search.proofs.StepsLaws.{always_err, fails_still}
use Rattle.asp_search.proofs.WholeLaws.{IsFull, full_whole, full_found, whole_for, atoms_for, found_for, stable_for}
use Rattle.asp_search.proofs.search.Search.complete.Goals as goal

pub returns-in_err-interp-clause-err : goal.returns-in_err-interp-clause-err
returns-in_err-interp-clause-err g c =
    let i = c.self.inside in
    let s = c.args.self.now in
    let f = c.args.fuel.now in
    let G = g.P.Propagator.gives s.program s.bound in
    let new : Searching = view_of i.mode i.state i.pace (answers_known i.known.items i.seen) i.last in
    always_err c.from_residual.result (IsFailure G s new f f) (fails_still G s new f c.self.view_is)

pub fault-requires-clause-whole : goal.fault-requires-clause-whole
fault-requires-clause-whole g c =
    let i = c.self.inside in
    let t = i.state in
    let q = c.requires.entered.0 in
    let e = subst (λ (s : Searching). IsEntered s q) (sym c.self.view_is) c.requires.entered.1 in
    let under : IsUnder t q = record { cube_is = e.cube; fixpoint = e.clear } in
    let silent = g.P.Propagator.silent t.program t.bound in
    let fixpoint : IsFixpoint silent t.slots (values_of t) =
    subst (λ (x : Searching). IsFixpoint (g.P.Propagator.silent x.program x.bound) x.slots (values_now x)) (sym c.self.view_is) c.requires.fixpoint in
    let assigned : AreAssigned (var_count t.program) (values_of t) = subst (λ (x : Searching). AreAssigned (var_count x.program) (values_now x)) (sym c.self.view_is) c.requires.assigned in
    let sound : IsSound t.program = subst IsSound c.self.invariant.0.program c.program-program.ensures.sound in
    let full : IsFull silent (used_up (reasoning_of i.mode) i.state.program (answers_known i.known.items i.seen)) t q = record {
      ordered = c.trail.ensures.ordered;
      starts = (c.trail.ensures.begun q under).starts;
      reasons = settled_reasons i.compiled.now t i.mode (answers_known i.known.items i.seen) (g.P.Propagator.gives t.program t.bound) (g.P.Propagator.late t.program t.bound) c.self.invariant.0.program
          c.program-program.ensures.sound (g.met.P.Propagator.sound t.program t.bound) (g.met.P.Propagator.given t.program t.bound) c.self.invariant.0.useful c.store-store.ensures.implied;
      small = c.store-store.ensures.small;
      completed = c.store-store.ensures.completed;
      fixpoint = fixpoint;
      assigned = assigned;
      blocked = all_excluded_for i.compiled.now t i.mode (answers_known i.known.items i.seen) c.self.invariant.0.program c.self.invariant.0.blocked;
    } in
    whole_for i.compiled.now t c.self.invariant.0.program
    (full_whole silent (used_up (reasoning_of i.mode) i.state.program (answers_known i.known.items i.seen)) t q full (λ v w h. g.met.P.Propagator.whole t.program t.bound (values_of t) v sound w h))

pub fault-requires-clause-atoms : goal.fault-requires-clause-atoms
fault-requires-clause-atoms g c =
    let i = c.self.inside in
    atoms_for i.compiled.now c.trail.result.now.vars i.state c.trail.result.now.entries c.in_ok-interp.interp c.self.invariant.0.program
    c.trail.ensures.vars c.trail.ensures.entries c.in_ok-interp.ensures

pub returns-in_err-fault-clause-err : goal.returns-in_err-fault-clause-err
returns-in_err-fault-clause-err g c =
    let i = c.self.inside in
    let s = c.args.self.now in
    let f = c.args.fuel.now in
    let G = g.P.Propagator.gives s.program s.bound in
    let new : Searching = view_of i.mode i.state i.pace (answers_known i.known.items i.seen) i.last in
    always_err c.from_residual-in_err-fault.result (IsFailure G s new f f) (fails_still G s new f c.self.view_is)

pub answer-requires : goal.answer-requires
answer-requires g c =
    let i = c.self.inside in
    let t = i.state in
    let p = i.compiled.now in
    let S = c.in_ok-interp.interp in
    let q = c.requires.entered.0 in
    let e = subst (λ (s : Searching). IsEntered s q) (sym c.self.view_is) c.requires.entered.1 in
    let under : IsUnder t q = record { cube_is = e.cube; fixpoint = e.clear } in
    let silent = g.P.Propagator.silent t.program t.bound in
    let fixpoint : IsFixpoint silent t.slots (values_of t) =
    subst (λ (x : Searching). IsFixpoint (g.P.Propagator.silent x.program x.bound) x.slots (values_now x)) (sym c.self.view_is) c.requires.fixpoint in
    let assigned : AreAssigned (var_count t.program) (values_of t) = subst (λ (x : Searching). AreAssigned (var_count x.program) (values_now x)) (sym c.self.view_is) c.requires.assigned in
    let sound : IsSound t.program = subst IsSound c.self.invariant.0.program c.program-program.ensures.sound in
    let full : IsFull silent (used_up (reasoning_of i.mode) i.state.program (answers_known i.known.items i.seen)) t q = record {
      ordered = c.trail.ensures.ordered;
      starts = (c.trail.ensures.begun q under).starts;
      reasons = settled_reasons i.compiled.now t i.mode (answers_known i.known.items i.seen) (g.P.Propagator.gives t.program t.bound) (g.P.Propagator.late t.program t.bound) c.self.invariant.0.program
          c.program-program.ensures.sound (g.met.P.Propagator.sound t.program t.bound) (g.met.P.Propagator.given t.program t.bound) c.self.invariant.0.useful c.store-store.ensures.implied;
      small = c.store-store.ensures.small;
      completed = c.store-store.ensures.completed;
      fixpoint = fixpoint;
      assigned = assigned;
      blocked = all_excluded_for i.compiled.now t i.mode (answers_known i.known.items i.seen) c.self.invariant.0.program c.self.invariant.0.blocked;
    } in
    let atoms = atoms_for p c.trail.result.now.vars t c.trail.result.now.entries S c.self.invariant.0.program c.trail.ensures.vars c.trail.ensures.entries c.in_ok-interp.ensures in
    let verdict = subst (λ (r : Option Nogood). MatchOption r (IsTrue (is_stable p S)) (IsFault p (g.P.Propagator.gives p t.bound) (var_count p) t.entries)) c.in-None.is c.in_ok-fault.ensures.fault in
    let found = full_found silent i.mode t i.pace (answers_known i.known.items i.seen) i.last q full (λ v w h. g.met.P.Propagator.whole t.program t.bound (values_of t) v sound w h)
    (stable_for p t S c.self.invariant.0.program atoms verdict) in (
      q,
      e,
      found_for (view_of i.mode t i.pace (answers_known i.known.items i.seen) i.last) q S (atoms_on t.program (var_count t.program) t.entries)
          (atoms ∙ ap (λ (x : Program). atoms_on x (var_count x) t.entries) c.self.invariant.0.program) found,
    )

pub returns-in_err-answer-in-None-clause-err : goal.returns-in_err-answer-in-None-clause-err
returns-in_err-answer-in-None-clause-err g c =
    let s = c.args.self.now in
    let f = c.args.fuel.now in
    let G = g.P.Propagator.gives s.program s.bound in
    always_err c.from_residual-in_err-answer-in-None.result (IsFailure G s c.answer.new.self f f) (fails_still G s c.answer.new.self f (c.in_err-answer-in-None.ensures.err ∙ c.self.view_is))

pub returns-in_err-id-in-Some-clause-err : goal.returns-in_err-id-in-Some-clause-err
returns-in_err-id-in-Some-clause-err g c =
    let i = c.self.inside in
    let s = c.args.self.now in
    let f = c.args.fuel.now in
    let G = g.P.Propagator.gives s.program s.bound in
    let new : Searching = view_of i.mode c.keep.new.self i.pace (answers_known i.known.items i.seen) i.last in
    let same : new ≡ s = ap (λ (x : SearchView). view_of i.mode x i.pace (answers_known i.known.items i.seen) i.last) c.in_err-id-in-Some.ensures.err ∙ c.self.view_is in
    always_err c.from_residual-in_err-id-in-Some.result (IsFailure G s new f f) (fails_still G s new f same)

pub invariant_of-self-in-Some : goal.invariant_of-self-in-Some
invariant_of-self-in-Some g c =
    let i = c.self.inside in
    let t = i.state in
    let p = i.compiled.now in
    let n = c.in-Some.nogood in
    let u = c.keep.new.self in
    let e = c.in_ok-id-in-Some.ensures.same in
    let verdict = subst (λ (r : Option Nogood). MatchOption r (IsTrue (is_stable p c.in_ok-interp.interp)) (IsFault p (g.P.Propagator.gives p t.bound) (var_count p) t.entries)) c.in-Some.is
    c.in_ok-fault.ensures.fault in
    let fault : IsFault t.program (g.P.Propagator.gives t.program t.bound) (var_count t.program) t.entries n =
    subst (λ (x : Program). IsFault x (g.P.Propagator.gives x t.bound) (var_count x) t.entries n) c.self.invariant.0.program verdict in
    let a = c.in_ok-id-in-Some.ensures.ok in (
      search_added p i.mode t u i.learner c.fault.new.checker (used_in i.compiled.now i.mode i.known.items i.seen) i.blocking.items i.bound i.last
          i.last _ n kind.Given (ap (λ (x : SearchView). x.program) e) (ap (λ (x : SearchView). x.bound) e) a
          (fault_useful t.program (used_in i.compiled.now i.mode i.known.items i.seen) t.bound (g.P.Propagator.gives t.program t.bound) (var_count t.program) t.entries n fault)
          (added_last t.slots u.slots _ n kind.Given i.last a c.self.invariant.0.last_stands)
          (search_checked p i.mode t i.learner i.checker c.fault.new.checker (used_in i.compiled.now i.mode i.known.items i.seen) i.blocking.items
          i.bound i.last c.fault.ensures.same c.self.invariant.0),
      c.self.invariant.1,
    )

pub returns-in_ok-answer-in-None-clause-ok : goal.returns-in_ok-answer-in-None-clause-ok
returns-in_ok-answer-in-None-clause-ok g c = λ q e.
    let f = c.args.fuel.now in
    subst (λ (x : Searching). Answers (g.P.Propagator.gives x.program x.bound) x c.answer.new.self q f f c.in_ok-interp.interp) c.self.view_is
    (c.in_ok-answer-in-None.ensures.ok q f (ap (λ (x : Searching). x.cube) c.self.view_is ∙ e))

pub returns-in_ok-id-in-Some-clause-ok : goal.returns-in_ok-id-in-Some-clause-ok
returns-in_ok-id-in-Some-clause-ok g c =
    let i = c.self.inside in
    let t = i.state in
    let p = i.compiled.now in
    let s = c.args.self.now in
    let f = c.args.fuel.now in
    let n = c.in-Some.nogood in
    let u = c.keep.new.self in
    let m : Searching = view_of i.mode u i.pace (answers_known i.known.items i.seen) i.last in
    let verdict = subst (λ (r : Option Nogood). MatchOption r (IsTrue (is_stable p c.in_ok-interp.interp)) (IsFault p (g.P.Propagator.gives p t.bound) (var_count p) t.entries)) c.in-Some.is
    c.in_ok-fault.ensures.fault in
    let fault : IsFault t.program (g.P.Propagator.gives t.program t.bound) (var_count t.program) t.entries n =
    subst (λ (x : Program). IsFault x (g.P.Propagator.gives x t.bound) (var_count x) t.entries n) c.self.invariant.0.program verdict in
    let on : Continues (g.P.Propagator.gives s.program s.bound) s m =
    subst (λ (z : Searching). Continues (g.P.Propagator.gives z.program z.bound) z m) c.self.view_is
    (fault_continues (g.P.Propagator.gives t.program t.bound) i.mode t u i.pace (answers_known i.known.items i.seen) i.last _ n kind.Given fault
    c.in_ok-id-in-Some.ensures.same c.in_ok-id-in-Some.ensures.ok) in
    IfOk-weaker c.meet.result
    (IsStep (g.P.Propagator.gives m.program m.bound) (g.P.Propagator.silent m.program m.bound) m c.meet.new.self f c.meet.new.fuel)
    (IsStep (g.P.Propagator.gives s.program s.bound) (g.P.Propagator.silent s.program s.bound) s c.meet.new.self f c.meet.new.fuel)
    (steps_on g.P.Propagator.gives g.P.Propagator.silent s m c.meet.new.self f c.meet.new.fuel on) c.meet.ensures.ok

pub returns-in_ok-id-in-Some-clause-err : goal.returns-in_ok-id-in-Some-clause-err
returns-in_ok-id-in-Some-clause-err g c =
    let i = c.self.inside in
    let t = i.state in
    let p = i.compiled.now in
    let s = c.args.self.now in
    let f = c.args.fuel.now in
    let n = c.in-Some.nogood in
    let u = c.keep.new.self in
    let m : Searching = view_of i.mode u i.pace (answers_known i.known.items i.seen) i.last in
    let verdict = subst (λ (r : Option Nogood). MatchOption r (IsTrue (is_stable p c.in_ok-interp.interp)) (IsFault p (g.P.Propagator.gives p t.bound) (var_count p) t.entries)) c.in-Some.is
    c.in_ok-fault.ensures.fault in
    let fault : IsFault t.program (g.P.Propagator.gives t.program t.bound) (var_count t.program) t.entries n =
    subst (λ (x : Program). IsFault x (g.P.Propagator.gives x t.bound) (var_count x) t.entries n) c.self.invariant.0.program verdict in
    let on : Continues (g.P.Propagator.gives s.program s.bound) s m =
    subst (λ (z : Searching). Continues (g.P.Propagator.gives z.program z.bound) z m) c.self.view_is
    (fault_continues (g.P.Propagator.gives t.program t.bound) i.mode t u i.pace (answers_known i.known.items i.seen) i.last _ n kind.Given fault
    c.in_ok-id-in-Some.ensures.same c.in_ok-id-in-Some.ensures.ok) in
    on_err_weaker c.meet.result (fails_on g.P.Propagator.gives g.P.Propagator.silent s m c.meet.new.self f c.meet.new.fuel on) c.meet.ensures.err
