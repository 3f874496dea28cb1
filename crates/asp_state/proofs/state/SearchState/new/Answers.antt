use Rattle.std.proofs.Common.{◌≡◌, ◌∙◌, ◌+◌, ℕ, List, [], false, None, Option, refl, sym, ap, subst, map}
use Rattle.asp_model.specs.declared.program.Program.{Program}
use Rattle.asp_vars.specs.Literals.{Literal}
use Rattle.asp_vars.specs.Completion.{completion}
use Rattle.asp_complete.specs.Listed.{pure}
use Rattle.asp_order.specs.Heaps.{Ranking}
use Rattle.asp_store.specs.declared.stored_nogood.StoredNogood.{StoredNogood}
use Rattle.asp_propagate.specs.Propagating.{Propagating}
use Rattle.asp_state.specs.SearchStates.{AddsForever, SearchView, first_ranking}
use Rattle.asp_state.proofs.BegunLaws.{aged-vars, given_first}
use Rattle.asp_state.proofs.KeepLaws.{IsSearchView}
use Rattle.asp_state.proofs.SlotLaws.{completed_alone}
use Rattle.asp_state.proofs.state.SearchState.new.Goals as goal

pub keep_completion-requires-clause-program : goal.keep_completion-requires-clause-program
keep_completion-requires-clause-program g c = ap (λ (f : Propagating). f.program) c.in_ok-engine.ensures ∙ c.requires.program

pub keep_completion-requires-clause-vars : goal.keep_completion-requires-clause-vars
keep_completion-requires-clause-vars g c =
    aged-vars c.args.compiled.now c.vars-vars.result 34 c.in_ok-order.order c.begin_unlisted.new.order c.age.new.self c.begin_unlisted.ensures c.age.ensures.aged c.in_ok-order.ensures.vars
    ∙ ap (λ (n : ℕ). n + 1) c.vars-vars.ensures.count

pub begin_unlisted-requires : goal.begin_unlisted-requires
begin_unlisted-requires g c = c.in_ok-order.ensures.vars ∙ ap (λ (n : ℕ). n + 1) c.vars-vars.ensures.count

pub invariant_of-result : goal.invariant_of-result
invariant_of-result g c =
    let p = c.args.compiled.now in
    let b = g.P.Propagator.bound c.args.propagator in
    let slots = c.keep_completion.new.engine.slots in
    let o = c.in_ok-order.ensures in
    let first =
    given_first p c.vars-vars.result c.in_ok-order.order c.begin_unlisted.new.order c.age.new.self c.prefer_derived.new.order
    c.vars-vars.ensures.count o.fresh o.vars o.all c.begin_unlisted.ensures c.age.ensures.aged (c.prefer_derived.ensures ∙ c.in-Ok.ensures.order)
    in
    let same : c.keep_completion.new.engine ≡ record { program = p; entries = []; slots = slots; bound = b } =
    c.keep_completion.ensures.same
    ∙ ap (λ (f : Propagating). let e : Propagating = record f { slots = slots } in e) c.in_ok-engine.ensures
    ∙ ap (λ (x : Program). let e : Propagating = record { program = x; entries = []; slots = slots; bound = b } in e) c.requires.program in
    let adds = subst (λ (xs : List (Option StoredNogood)). AddsForever (map pure (completion p)) xs slots) (ap (λ (f : Propagating). f.slots) c.in_ok-engine.ensures) c.in-Ok.ensures.adds in (
      subst (λ (f : Propagating). IsSearchView f None false c.new-in-Ok.result.items c.prefer_derived.new.order) (sym same) (record {
        few = c.vars-vars.ensures.few;
        entered = (refl, c.new-in-Ok.ensures.items, refl);
        ranked = first.vars;
        waiting = λ v iv none. first.all v iv;
        completed = (completed_alone p slots adds).each;
      }),
      tt,
    )

pub returns-in-Ok-clause-same : goal.returns-in-Ok-clause-same
returns-in-Ok-clause-same g c =
    let p = c.args.compiled.now in
    let b = g.P.Propagator.bound c.args.propagator in
    let slots = c.keep_completion.new.engine.slots in
    let o = c.in_ok-order.ensures in
    let first =
    given_first p c.vars-vars.result c.in_ok-order.order c.begin_unlisted.new.order c.age.new.self c.prefer_derived.new.order
    c.vars-vars.ensures.count o.fresh o.vars o.all c.begin_unlisted.ensures c.age.ensures.aged (c.prefer_derived.ensures ∙ c.in-Ok.ensures.order)
    in
    let same : c.keep_completion.new.engine ≡ record { program = p; entries = []; slots = slots; bound = b } =
    c.keep_completion.ensures.same
    ∙ ap (λ (f : Propagating). let e : Propagating = record f { slots = slots } in e) c.in_ok-engine.ensures
    ∙ ap (λ (x : Program). let e : Propagating = record { program = x; entries = []; slots = slots; bound = b } in e) c.requires.program in
    let view : Propagating → Ranking → List Literal → SearchView =
    λ f r ds. record {
      program = f.program;
      bound = f.bound;
      cube = None;
      clashing = false;
      decisions = ds;
      entries = f.entries;
      slots = f.slots;
      ranking = r;
    } in
    let begun : Propagating = record { program = p; entries = []; slots = slots; bound = b } in
    ap (λ (f : Propagating). view f c.prefer_derived.new.order c.new-in-Ok.result.items) same
    ∙ ap (λ (r : Ranking). view begun r c.new-in-Ok.result.items) first.first
    ∙ ap (λ (ds : List Literal). view begun (first_ranking p) ds) c.new-in-Ok.ensures.items

pub returns-in-Ok-clause-slots : goal.returns-in-Ok-clause-slots
returns-in-Ok-clause-slots g c =
    let p = c.args.compiled.now in
    let slots = c.keep_completion.new.engine.slots in
    completed_alone p slots (subst (λ (xs : List (Option StoredNogood)). AddsForever (map pure (completion p)) xs slots)
    (ap (λ (f : Propagating). f.slots) c.in_ok-engine.ensures) c.in-Ok.ensures.adds)
