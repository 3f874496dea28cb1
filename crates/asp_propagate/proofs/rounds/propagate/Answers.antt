use Rattle.std.proofs.Common.{◌≡◌, ℕ, ◌<◌, Bool, List, Option, length, inl, inr, sym, ap, ◌∙◌, subst, arith}
use Rattle.std.specs.Prelude.{IfNone, IfSome}
use Rattle.std.specs.Option.{option_map}
use Rattle.asp_vars.specs.Numbering.{var_count}
use Rattle.std.proofs.lemmas.List.{length-append}
use Rattle.asp_trail.specs.declared.trail.Entry.{Entry}
use Rattle.asp_trail.specs.Entries.{assignment}
use Rattle.asp_store.specs.declared.stored_nogood.StoredNogood.{StoredNogood}
use Rattle.asp_store.specs.Keeping.{nogood_at}
use Rattle.asp_store.specs.Walking.{IsViolated}
use Rattle.asp_propagate.specs.Propagating.{AreAtFixpoint, Asked}
use Rattle.asp_propagate.proofs.AddLaws.{goes_then, implies_more}
use Rattle.asp_propagate.proofs.PropagateLaws.{grows}
use Rattle.asp_propagate.proofs.rounds.propagate.Goals as goal

pub asked-init : goal.asked-init
asked-init g c = record {
  followed = c.settle.ensures.followed;
  goes = c.settle.ensures.goes;
  all = subst (λ (o : Option ℕ). IfNone o (c.settle.new.told ≡ length c.settle.new.trail.entries)) c.in-None.is c.in_ok-first.ensures.all;
  fixpoint = subst (λ (o : Option ℕ). IfNone o (AreAtFixpoint c.settle.new.store.slots (assignment c.settle.new.trail.vars c.settle.new.trail.entries))) c.in-None.is c.in_ok-first.ensures.fixpoint;
}

pub returns-in-Some-clause-violated : goal.returns-in-Some-clause-violated
returns-in-Some-clause-violated g c = subst
    (λ (o : Option ℕ). IfSome o (IsViolated c.settle.new.trail.vars c.settle.new.store.slots c.settle.new.trail.entries)) c.in-Some.is
    c.in_ok-first.ensures.violated

pub returns-in_err-ask-clause-goes : goal.returns-in_err-ask-clause-goes
returns-in_err-ask-clause-goes g c =
    let told = g.P.Propagator.told in
    let bound = g.P.Propagator.bound in
    let m = c.asked in
    let a = c.ask.new in
    goes_then g.P.Propagator.gives (told c.args.propagator.now) (told m.propagator) (told a.propagator) (bound c.args.propagator.now) (bound m.propagator) (bound a.propagator)
    c.args.store.now.slots m.store.slots a.store.slots c.args.trail.now.entries m.trail.entries a.trail.entries m.invariant.goes c.ask.ensures.goes

pub returns-in_err-found-clause-goes : goal.returns-in_err-found-clause-goes
returns-in_err-found-clause-goes g c =
    let told = g.P.Propagator.told in
    let bound = g.P.Propagator.bound in
    let m = c.asked in
    let a = c.ask.new in
    let s = c.settle-in-asked.new in
    goes_then g.P.Propagator.gives (told c.args.propagator.now) (told a.propagator) (told s.propagator) (bound c.args.propagator.now) (bound a.propagator) (bound s.propagator)
    c.args.store.now.slots a.store.slots s.store.slots c.args.trail.now.entries a.trail.entries s.trail.entries
    (goes_then g.P.Propagator.gives (told c.args.propagator.now) (told m.propagator) (told a.propagator) (bound c.args.propagator.now) (bound m.propagator) (bound a.propagator)
    c.args.store.now.slots m.store.slots a.store.slots c.args.trail.now.entries m.trail.entries a.trail.entries m.invariant.goes c.ask.ensures.goes)
    c.settle-in-asked.ensures.goes

pub returns-in-Some-found-clause-goes : goal.returns-in-Some-found-clause-goes
returns-in-Some-found-clause-goes g c =
    let told = g.P.Propagator.told in
    let bound = g.P.Propagator.bound in
    let m = c.asked in
    let a = c.ask.new in
    let s = c.settle-in-asked.new in
    goes_then g.P.Propagator.gives (told c.args.propagator.now) (told a.propagator) (told s.propagator) (bound c.args.propagator.now) (bound a.propagator) (bound s.propagator)
    c.args.store.now.slots a.store.slots s.store.slots c.args.trail.now.entries a.trail.entries s.trail.entries
    (goes_then g.P.Propagator.gives (told c.args.propagator.now) (told m.propagator) (told a.propagator) (bound c.args.propagator.now) (bound m.propagator) (bound a.propagator)
    c.args.store.now.slots m.store.slots a.store.slots c.args.trail.now.entries m.trail.entries a.trail.entries m.invariant.goes c.ask.ensures.goes)
    c.settle-in-asked.ensures.goes

pub returns-in-Some-found-clause-violated : goal.returns-in-Some-found-clause-violated
returns-in-Some-found-clause-violated g c =
    let s = c.settle-in-asked.new in
    subst (λ (o : Option ℕ). IfSome o (IsViolated s.trail.vars s.store.slots s.trail.entries)) c.in-Some-found.is c.in_ok-found.ensures.violated

pub asked-preserved : goal.asked-preserved
asked-preserved g c =
    let z = c.settle-in-asked.new in
    record {
      followed = c.settle-in-asked.ensures.followed;
      goes =
          let told = g.P.Propagator.told in
          let bound = g.P.Propagator.bound in
          let m = c.asked in
          let a = c.ask.new in
          let s = c.settle-in-asked.new in
          goes_then g.P.Propagator.gives (told c.args.propagator.now) (told a.propagator) (told s.propagator) (bound c.args.propagator.now) (bound a.propagator) (bound s.propagator)
          c.args.store.now.slots a.store.slots s.store.slots c.args.trail.now.entries a.trail.entries s.trail.entries
          (goes_then g.P.Propagator.gives (told c.args.propagator.now) (told m.propagator) (told a.propagator) (bound c.args.propagator.now) (bound m.propagator) (bound a.propagator)
          c.args.store.now.slots m.store.slots a.store.slots c.args.trail.now.entries m.trail.entries a.trail.entries m.invariant.goes c.ask.ensures.goes)
          c.settle-in-asked.ensures.goes;
      all = subst (λ (o : Option ℕ). IfNone o (z.told ≡ length z.trail.entries)) c.in-None-found.is c.in_ok-found.ensures.all;
      fixpoint = subst (λ (o : Option ℕ). IfNone o (AreAtFixpoint z.store.slots (assignment z.trail.vars z.trail.entries))) c.in-None-found.is c.in_ok-found.ensures.fixpoint;
    }

pub asked-smaller : goal.asked-smaller
asked-smaller g c =
    let told = g.P.Propagator.told in
    let bound = g.P.Propagator.bound in
    let m = c.asked in
    let s = c.settle-in-asked.new in
    let e = c.settle-in-asked.ensures in
    let p = (told m.propagator).program in
    let b = bound m.propagator in
    let vars : s.trail.vars ≡ m.trail.vars =
    e.followed.told.vars ∙ (ap var_count (e.goes.program ∙ c.ask.ensures.goes.program) ∙ sym m.invariant.followed.told.vars) in
    let a = c.ask.new in
    let asked =
    subst (λ (x : Bool). Asked (g.P.Propagator.silent p b) (g.P.Propagator.gives p b) (assignment m.trail.vars m.trail.entries) m.store a.store
    m.trail.entries a.trail.entries x) c.if-branch.true c.in_ok-ask.ensures.ok in
    let implied = implies_more m.trail.entries a.trail.entries s.trail.entries c.ask.ensures.goes.implies e.goes.implies in
    let fixpoint = subst (λ (o : Option ℕ). IfNone o (AreAtFixpoint s.store.slots (assignment s.trail.vars s.trail.entries))) c.in-None-found.is c.in_ok-found.ensures.fixpoint in
    let fixpoint = subst (λ (n : ℕ). AreAtFixpoint s.store.slots (assignment n s.trail.entries)) vars fixpoint in
    let lt : length m.trail.entries < length s.trail.entries =
    elim asked [
      | inl h ↦ grows s.store.slots m.trail.vars m.trail.entries s.trail.entries h.id h.nogood
          (ap (λ (xs : List (Option StoredNogood)). nogood_at xs h.id) e.same ∙ ap (option_map (λ (k : StoredNogood). k.nogood)) h.added.slots.here) h.wanted fixpoint implied
      | inr more ↦ omega (arith, more, ap (length {A = Entry}) e.goes.implies.1, length-append a.trail.entries e.goes.implies.0)
    ] in
    omega (arith, lt, c.in_ok-found.ensures.few, vars)
