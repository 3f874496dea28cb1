use Rattle.std.proofs.Common.{◌≡◌, List, Some, sym, ap, ◌∙◌, subst}
use Rattle.std.specs.Prelude.{ℤ}
use Rattle.asp_model.specs.declared.program.Program.{Program}
use Rattle.asp_model.specs.declared.results.Mode.TheVariants as mode
use Rattle.asp_model.specs.Costs.{cost}
use Rattle.asp_vars.specs.Literals.{Literal}
use Rattle.asp_propagate.specs.Useful.{IsSmaller}
use Rattle.asp_search_laws.specs.Searching.{Searching}
use Rattle.asp_search_laws.specs.Steps.{Answers}
use Rattle.asp_state.specs.SearchStates.{SearchView}
use Rattle.asp_search.specs.Invariants.{answers_known, used_in, view_of}
use Rattle.asp_search.specs.Stepping.{IsEntered, IsFound}
use Rattle.asp_search.proofs.SearchLaws.{search_lower}
use Rattle.asp_search.proofs.StepsLaws.{same_cube, improved, improved_track}
use Rattle.asp_search.proofs.search.Search.improve.Goals as goal

pub invariant_of-self : goal.invariant_of-self
invariant_of-self g c =
    let i = c.self.inside in
    let q = c.requires.found.0 in
    let found = subst (λ (s : Searching). IsFound s q c.args.interp.now) (sym c.self.view_is) c.requires.found.2 in
    let undo = c.undo_to.ensures.same in
    let set = c.set_bound.ensures in
    let is : c.in_ok-cost.cost ≡ cost i.state.program c.args.interp.now =
    c.in_ok-cost.ensures ∙ ap (λ (x : Program). cost x c.args.interp.now) (c.program.ensures.program ∙ c.self.invariant.0.program) in (
      search_lower i.compiled.now i.mode i.state c.undo_to.new.self i.learner i.checker (used_in i.compiled.now i.mode i.known.items i.seen) i.blocking.items i.bound c.in_ok-cost.cost i.last
          (ap (λ (x : SearchView). x.program) undo ∙ ap (λ (x : SearchView). x.program) set)
          (ap (λ (x : SearchView). x.bound) undo ∙ (ap (λ (x : SearchView). x.bound) set ∙ ap (λ (x : List ℤ). Some x) c.in_ok-copy.ensures))
          (ap (λ (x : SearchView). x.slots) undo ∙ ap (λ (x : SearchView). x.slots) set) (subst (λ (x : List ℤ). IsSmaller x i.state.bound) (sym is) found.cheaper) c.self.invariant.0,
      c.self.invariant.1,
    )

pub returns-clause-ok : goal.returns-clause-ok
returns-clause-ok g c = λ r f e.
    let i = c.self.inside in
    let q = c.requires.found.0 in
    let S = c.args.interp.now in
    let entered = subst (λ (s : Searching). IsEntered s q) (sym c.self.view_is) c.requires.found.1 in
    let found = subst (λ (s : Searching). IsFound s q c.args.interp.now) (sym c.self.view_is) c.requires.found.2 in
    let opt : i.mode ≡ mode.Opt = ap (λ (s : Searching). s.mode) c.self.view_is ∙ c.requires.mode in
    let p = c.program.result.now in
    let state = improved_track p i.state c.set_bound.new.self c.undo_to.new.self c.in_ok-copy.copy S (c.program.ensures.program ∙ c.self.invariant.0.program)
    (c.in_ok-copy.ensures ∙ c.in_ok-cost.ensures) c.set_bound.ensures c.undo_to.ensures.same in
    let new : Searching = view_of i.mode c.undo_to.new.self i.pace (answers_known i.known.items i.seen) i.last in
    let first = improved (g.P.Propagator.gives i.state.program i.state.bound) i.mode i.state c.undo_to.new.self i.pace (answers_known i.known.items i.seen) i.last q S f opt entered.last found state in
    subst (λ (x : List Literal). Answers (g.P.Propagator.gives c.args.self.now.program c.args.self.now.bound) c.args.self.now new x f f S)
    (same_cube c.args.self.now.cube q r c.requires.found.1.cube e)
    (subst (λ (s : Searching). Answers (g.P.Propagator.gives s.program s.bound) s new q f f S) c.self.view_is first)
