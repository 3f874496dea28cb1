use Rattle.std.proofs.Common.{◌≡◌, ℕ, ◌<◌, List, Some, sym, ap, ◌∙◌, subst, arith}
use Rattle.std.proofs.lemmas.Option.{same_Some}
use Rattle.asp_model.specs.Asked.{reasoning_of}
use Rattle.asp_vars.specs.Literals.{Literal}
use Rattle.asp_store.specs.Keeping.{kept_at}
use Rattle.asp_analyze.specs.declared.learn.Learned.TheVariants as learned
use Rattle.asp_search_laws.specs.Searching.{Searching}
use Rattle.asp_search_laws.specs.Steps.{Learns, Stops, Fails, IsFailure}
use Rattle.asp_store.specs.declared.stored_nogood.Kind.TheVariants as kind
use Rattle.asp_state.specs.SearchStates.{SearchView}
use Rattle.asp_search.specs.Invariants.{answers_known, used_in, view_of}
use Rattle.asp_search.specs.Meeting.{IsMet}
use Rattle.asp_search.proofs.MeetLaws.{met_shows, met_useful, shown_holds, shows_for, clash_for, useful_for}
use Rattle.asp_search.proofs.SearchLaws.{search_added, search_stays, search_thinned, newest_last, last_named}
use Rattle.asp_search.proofs.StepsLaws.{same_cube, always_err, conflict_of, fails_here, fails_paid, met_stops, met_learns, learns_swept, jumped_named}
use Rattle.asp_search.proofs.search.Search.pay.Goals as goal

pub conflict-requires : goal.conflict-requires
conflict-requires g c =
    let i = c.self.inside in
    let q = c.requires.met.0 in
    let m = subst (λ (s : Searching). IsMet (g.P.Propagator.gives s.program s.bound) s q c.args.id (learned.Jump c.args.nogood c.args.to c.args.lit)) (sym c.self.view_is) c.requires.met.1 in
    shows_for i.compiled.now (reasoning_of i.mode) (answers_known i.known.items i.seen) i.bound i.state c.args.id c.args.lit c.self.invariant.0.program c.self.invariant.0.bounded
    (met_shows (g.P.Propagator.gives i.state.program i.state.bound) i.mode i.state i.pace (answers_known i.known.items i.seen) i.last q c.args.id c.args.nogood c.args.to c.args.lit m)

pub burn-requires-clause-program : goal.burn-requires-clause-program
burn-requires-clause-program g c =
    let i = c.self.inside in
    let q = c.requires.met.0 in
    let m = subst (λ (s : Searching). IsMet (g.P.Propagator.gives s.program s.bound) s q c.args.id (learned.Jump c.args.nogood c.args.to c.args.lit)) (sym c.self.view_is) c.requires.met.1 in
    let shows = met_shows (g.P.Propagator.gives i.state.program i.state.bound) i.mode i.state i.pace (answers_known i.known.items i.seen) i.last q c.args.id c.args.nogood c.args.to c.args.lit m in
    let clash = clash_for i.compiled.now (reasoning_of i.mode) (answers_known i.known.items i.seen) i.bound i.state c.args.id c.args.lit c.in_ok-conflict.conflict c.self.invariant.0.program
    c.self.invariant.0.bounded c.in_ok-conflict.ensures in
    let is = conflict_of (g.P.Propagator.gives i.state.program i.state.bound) i.mode i.state i.pace (answers_known i.known.items i.seen) i.last q
    c.args.id c.args.lit c.in_ok-conflict.conflict m.entered shows clash in
    is.program ∙ (ap (λ (s : Searching). s.program) c.self.view_is ∙ sym c.requires.program)

pub note_conflict-requires : goal.note_conflict-requires
note_conflict-requires g c = omega (arith, c.self.invariant.0.counted, c.trail.ensures.vars)

pub jump-requires-clause-vars : goal.jump-requires-clause-vars
jump-requires-clause-vars g c = c.self.invariant.0.counted

pub jump-requires-clause-path : goal.jump-requires-clause-path
jump-requires-clause-path g c =
    let q = c.requires.met.0 in
    let m = subst (λ (s : Searching). IsMet (g.P.Propagator.gives s.program s.bound) s q c.args.id (learned.Jump c.args.nogood c.args.to c.args.lit)) (sym c.self.view_is) c.requires.met.1 in
    (q, record { cube_is = m.entered; fixpoint = m.clear })

pub jump-requires-clause-contained : goal.jump-requires-clause-contained
jump-requires-clause-contained g c =
    let q = c.requires.met.0 in
    let m = subst (λ (s : Searching). IsMet (g.P.Propagator.gives s.program s.bound) s q c.args.id (learned.Jump c.args.nogood c.args.to c.args.lit)) (sym c.self.view_is) c.requires.met.1 in
    m.explains.contained

pub jump-requires-clause-jumps : goal.jump-requires-clause-jumps
jump-requires-clause-jumps g c =
    let q = c.requires.met.0 in
    let m = subst (λ (s : Searching). IsMet (g.P.Propagator.gives s.program s.bound) s q c.args.id (learned.Jump c.args.nogood c.args.to c.args.lit)) (sym c.self.view_is) c.requires.met.1 in
    (m.explains.from.lits, m.explains.learned)

pub returns-in_err-conflict-clause-err : goal.returns-in_err-conflict-clause-err
returns-in_err-conflict-clause-err g c =
    let s = c.args.self.now in
    let G = g.P.Propagator.gives s.program s.bound in
    always_err c.from_residual.result (IsFailure G s s c.args.fuel.now c.args.fuel.now) (fails_here G s c.args.fuel.now)

pub returns-then-left-eq0-clause-ok : goal.returns-then-left-eq0-clause-ok
returns-then-left-eq0-clause-ok g c = λ r e.
    let i = c.self.inside in
    let s = c.args.self.now in
    let q = c.requires.met.0 in
    let f = c.args.fuel.now in
    let x = c.in_ok-conflict.conflict in
    let m = subst (λ (s : Searching). IsMet (g.P.Propagator.gives s.program s.bound) s q c.args.id (learned.Jump c.args.nogood c.args.to c.args.lit)) (sym c.self.view_is) c.requires.met.1 in
    let shows = met_shows (g.P.Propagator.gives i.state.program i.state.bound) i.mode i.state i.pace (answers_known i.known.items i.seen) i.last q c.args.id c.args.nogood c.args.to c.args.lit m in
    let clash = clash_for i.compiled.now (reasoning_of i.mode) (answers_known i.known.items i.seen) i.bound i.state c.args.id c.args.lit x c.self.invariant.0.program
    c.self.invariant.0.bounded c.in_ok-conflict.ensures in
    let stops = met_stops (g.P.Propagator.gives i.state.program i.state.bound) i.mode i.state i.pace (answers_known i.known.items i.seen) i.last q f c.args.id c.args.lit x m.last
    (sym c.left.ensures.left ∙ c.if-left-eq0.true) m.entered shows clash
    (shown_holds (g.P.Propagator.gives i.state.program i.state.bound) i.mode i.state i.pace (answers_known i.known.items i.seen) i.last q c.args.id
    (learned.Jump c.args.nogood c.args.to c.args.lit) m c.args.lit shows) in
    subst (λ (y : List Literal). Stops (g.P.Propagator.gives s.program s.bound) s s y f f x) (same_cube s.cube q r c.requires.met.1.entered e)
    (subst (λ (z : Searching). Stops (g.P.Propagator.gives z.program z.bound) z z q f f x) c.self.view_is stops)

pub invariant_of-self : goal.invariant_of-self
invariant_of-self g c =
    let i = c.self.inside in
    let e = c.in_err-new.ensures.err in (
      search_stays i.compiled.now i.mode i.state c.jump.new.state i.learner i.checker (used_in i.compiled.now i.mode i.known.items i.seen)
          i.blocking.items i.bound i.last (ap (λ (x : SearchView). x.program) e)
          (ap (λ (x : SearchView). x.bound) e) (ap (λ (x : SearchView). x.slots) e) c.self.invariant.0,
      c.self.invariant.1,
    )

pub returns-in_err-new-clause-err : goal.returns-in_err-new-clause-err
returns-in_err-new-clause-err g c =
    let i = c.self.inside in
    let s = c.args.self.now in
    let q = c.requires.met.0 in
    let f = c.args.fuel.now in
    let h = c.burn.new.self in
    let x = c.in_ok-conflict.conflict in
    let u = c.jump.new.state in
    let m = subst (λ (s : Searching). IsMet (g.P.Propagator.gives s.program s.bound) s q c.args.id (learned.Jump c.args.nogood c.args.to c.args.lit)) (sym c.self.view_is) c.requires.met.1 in
    let shows = met_shows (g.P.Propagator.gives i.state.program i.state.bound) i.mode i.state i.pace (answers_known i.known.items i.seen) i.last q c.args.id c.args.nogood c.args.to c.args.lit m in
    let clash = clash_for i.compiled.now (reasoning_of i.mode) (answers_known i.known.items i.seen) i.bound i.state c.args.id c.args.lit x c.self.invariant.0.program
    c.self.invariant.0.bounded c.in_ok-conflict.ensures in
    let is = conflict_of (g.P.Propagator.gives i.state.program i.state.bound) i.mode i.state i.pace (answers_known i.known.items i.seen) i.last q c.args.id c.args.lit x m.entered shows clash in
    let left : 0 < f.left = omega (arith, c.left.ensures.left, c.if-left-eq0.false) in
    let new : Searching = view_of i.mode u c.count.new.self (answers_known i.known.items i.seen) i.last in
    let paid = fails_paid (g.P.Propagator.gives i.state.program i.state.bound) i.mode i.state i.pace (answers_known i.known.items i.seen) i.last q f h
    x u c.count.new.self u.ranking is left c.burn.ensures
    c.in_err-new.ensures.err in
    let fails : IsFailure (g.P.Propagator.gives s.program s.bound) s new f h = λ r e.
    subst (λ (y : List Literal). Fails (g.P.Propagator.gives s.program s.bound) s new y f h) (same_cube s.cube q r c.requires.met.1.entered e)
    (subst (λ (z : Searching). Fails (g.P.Propagator.gives z.program z.bound) z new q f h) c.self.view_is paid) in
    always_err c.from_residual-in_err-new.result (IsFailure (g.P.Propagator.gives s.program s.bound) s new f h) fails

pub invariant_of-self-2 : goal.invariant_of-self-2
invariant_of-self-2 g c =
    let i = c.self.inside in
    let q = c.requires.met.0 in
    let u = c.jump.new.state in
    let w = c.sweep.new.state in
    let new = c.in_ok-new.new in
    let m = subst (λ (s : Searching). IsMet (g.P.Propagator.gives s.program s.bound) s q c.args.id (learned.Jump c.args.nogood c.args.to c.args.lit)) (sym c.self.view_is) c.requires.met.1 in
    let e = c.in_ok-new.ensures.ok in
    let last = newest_last i.state.slots u.slots new c.args.nogood kind.Learnt c.in_ok-new.ensures.added in
    let added = search_added i.compiled.now i.mode i.state u i.learner i.checker (used_in i.compiled.now i.mode i.known.items i.seen) i.blocking.items
    i.bound i.last (Some new) new c.args.nogood kind.Learnt
    (ap (λ (x : SearchView). x.program) e) (ap (λ (x : SearchView). x.bound) e) c.in_ok-new.ensures.added
    (useful_for i.compiled.now i.state i.mode (answers_known i.known.items i.seen) c.args.nogood c.self.invariant.0.program
    (met_useful (g.P.Propagator.gives i.state.program i.state.bound) i.mode i.state i.pace (answers_known i.known.items i.seen) i.last q
    c.args.id (learned.Jump c.args.nogood c.args.to c.args.lit) m)) last c.self.invariant.0 in (
      search_thinned i.compiled.now i.mode u w i.learner i.checker (used_in i.compiled.now i.mode i.known.items i.seen) i.blocking.items i.bound (Some new) (Some new) u.entries
          (ap (λ (x : SearchView). x.program) c.sweep.ensures.same) (ap (λ (x : SearchView). x.bound) c.sweep.ensures.same) c.sweep.ensures.reduced
          (last_named u.slots w.slots new (jumped_named i.state u w.slots c.args.to new c.args.lit (ap (λ (x : SearchView). x.entries) e) c.sweep.ensures.reduced) last) added,
      c.self.invariant.1,
    )

pub returns-clause-ok : goal.returns-clause-ok
returns-clause-ok g c = λ r e.
    let i = c.self.inside in
    let s = c.args.self.now in
    let q = c.requires.met.0 in
    let f = c.args.fuel.now in
    let h = c.burn.new.self in
    let x = c.in_ok-conflict.conflict in
    let u = c.jump.new.state in
    let m = subst (λ (s : Searching). IsMet (g.P.Propagator.gives s.program s.bound) s q c.args.id (learned.Jump c.args.nogood c.args.to c.args.lit)) (sym c.self.view_is) c.requires.met.1 in
    let shows = met_shows (g.P.Propagator.gives i.state.program i.state.bound) i.mode i.state i.pace (answers_known i.known.items i.seen) i.last q c.args.id c.args.nogood c.args.to c.args.lit m in
    let clash = clash_for i.compiled.now (reasoning_of i.mode) (answers_known i.known.items i.seen) i.bound i.state c.args.id c.args.lit x c.self.invariant.0.program
    c.self.invariant.0.bounded c.in_ok-conflict.ensures in
    let is = conflict_of (g.P.Propagator.gives i.state.program i.state.bound) i.mode i.state i.pace (answers_known i.known.items i.seen) i.last q c.args.id c.args.lit x m.entered shows clash in
    let left : 0 < f.left = omega (arith, c.left.ensures.left, c.if-left-eq0.false) in
    let w = c.sweep.new.state in
    let d = c.count.new.self in
    let new : Searching = view_of i.mode w d (answers_known i.known.items i.seen) (Some c.in_ok-new.new) in
    let jumped = met_learns (g.P.Propagator.gives i.state.program i.state.bound) i.mode i.state i.pace (answers_known i.known.items i.seen) i.last q f
    h x u c.count.new.self u.slots u.ranking c.args.id c.in_ok-new.new
    c.args.to c.args.nogood c.args.lit m is left c.burn.ensures c.in_ok-new.ensures.added c.in_ok-new.ensures.ok c.count.ensures in
    let G = g.P.Propagator.gives i.state.program i.state.bound in
    let named = jumped_named i.state u w.slots c.args.to c.in_ok-new.new c.args.lit (ap (λ (x : SearchView). x.entries) c.in_ok-new.ensures.ok) c.sweep.ensures.reduced in
    let swept = learns_swept G (view_of i.mode i.state i.pace (answers_known i.known.items i.seen) i.last)
    (view_of i.mode u d (answers_known i.known.items i.seen) (Some c.in_ok-new.new)) w.slots q f h
    (λ id is. subst (λ (k : ℕ). kept_at w.slots k ≡ kept_at u.slots k) (same_Some c.in_ok-new.new id is) named) c.sweep.ensures.reduced c.sweep.ensures.others jumped in
    let learns = subst (λ (x : SearchView). Learns G (view_of i.mode i.state i.pace (answers_known i.known.items i.seen) i.last)
    (view_of i.mode x d (answers_known i.known.items i.seen) (Some c.in_ok-new.new)) q f h) (sym c.sweep.ensures.same) swept in
    subst (λ (y : List Literal). Learns (g.P.Propagator.gives s.program s.bound) s new y f h) (same_cube s.cube q r c.requires.met.1.entered e)
    (subst (λ (z : Searching). Learns (g.P.Propagator.gives z.program z.bound) z new q f h) c.self.view_is learns)
